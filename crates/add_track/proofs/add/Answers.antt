-- SPDX-License-Identifier: MIT
use Rattle.answers.proofs.Refusals.{missing-number}
use Rattle.add_track.proofs.Addition.{free-empty, add-unsound, add-suite, add-barred, add-short, add-long, add-name, add-held, add-full, add_done}
use Rattle.tracks.proofs.Places.{tested-sound, tested-whole, free-within}
use Rattle.track_record.specs.Record.{track_id}
use Rattle.octets.specs.Octets.{Octets}
use native.Mathlib.Omega.{arith}
use mathlib.Core.Path.{◌∙◌, ap}
use mathlib.Core.Bool.{not}
use Rattle.add_track.proofs.add.Goals as goal

pub returns-then-not-is_sound : goal.returns-then-not-is_sound
returns-then-not-is_sound c =
    let answered = add-unsound c.args.store.now c.args.role (track_id c.args.track.name.now c.args.track.id.0) c.args.suite c.args.base.now _ c.is_sound.ensures (ap not c.if-not-is_sound.true) in record { value = answered.0; store_after = answered.1 }

pub returns-in_err-known : goal.returns-in_err-known
returns-in_err-known c =
    let answered = add-suite c.args.store.now c.args.role (track_id c.args.track.name.now c.args.track.id.0) c.args.suite c.args.base.now _ c.is_sound.ensures (ap not c.if-not-is_sound.false) _ c.find.ensures c.in_err-known.ensures.ok_part in record { value = missing-number c.ok_or.result c.find.result _ c.ok_or.ensures.value _ _ c.in_err-known.was c.from_residual.ensures.1 ∙ answered.0; store_after = answered.1 }

pub returns-then-is_barred : goal.returns-then-is_barred
returns-then-is_barred c =
    let answered = add-barred c.args.store.now c.args.role (track_id c.args.track.name.now c.args.track.id.0) c.args.suite c.args.base.now _ c.is_sound.ensures (ap not c.if-not-is_sound.false) _ c.find.ensures _ c.in_ok-known.ensures.ok_part _ c.is_barred.ensures c.if-is_barred.true in record { value = answered.0; store_after = answered.1 }

pub returns-then-base-lt-MIN_BASE_KEY : goal.returns-then-base-lt-MIN_BASE_KEY
returns-then-base-lt-MIN_BASE_KEY c =
    let answered = add-short c.args.store.now c.args.role (track_id c.args.track.name.now c.args.track.id.0) c.args.suite c.args.base.now _ c.is_sound.ensures (ap not c.if-not-is_sound.false) _ c.find.ensures _ c.in_ok-known.ensures.ok_part _ c.is_barred.ensures c.if-is_barred.false c.if-base-lt-MIN_BASE_KEY.true in record { value = answered.0; store_after = answered.1 }

pub returns-then-base-gt-MAX_BASE_KEY : goal.returns-then-base-gt-MAX_BASE_KEY
returns-then-base-gt-MAX_BASE_KEY c =
    let answered = add-long c.args.store.now c.args.role (track_id c.args.track.name.now c.args.track.id.0) c.args.suite c.args.base.now _ c.is_sound.ensures (ap not c.if-not-is_sound.false) _ c.find.ensures _ c.in_ok-known.ensures.ok_part _ c.is_barred.ensures c.if-is_barred.false c.if-base-lt-MIN_BASE_KEY.false c.if-base-gt-MAX_BASE_KEY.true in record { value = answered.0; store_after = answered.1 }

pub returns-then-track-gt-MAX_NAME : goal.returns-then-track-gt-MAX_NAME
returns-then-track-gt-MAX_NAME c =
    let answered = add-name c.args.store.now c.args.role (track_id c.args.track.name.now c.args.track.id.0) c.args.suite c.args.base.now _ c.is_sound.ensures (ap not c.if-not-is_sound.false) _ c.find.ensures _ c.in_ok-known.ensures.ok_part _ c.is_barred.ensures c.if-is_barred.false c.if-base-lt-MIN_BASE_KEY.false c.if-base-gt-MAX_BASE_KEY.false c.if-track-gt-MAX_NAME.true in record { value = answered.0; store_after = answered.1 }

pub find-requires-2 : goal.find-requires-2
find-requires-2 c =
    let octets : Octets c.args.store.now = λ j. omega (arith, c.slice_known-1.given j) in
    tested-whole c.args.store.now (octets) _ c.is_sound.ensures (ap not c.if-not-is_sound.false)

pub returns-in_default : goal.returns-in_default
returns-in_default c =
    let answered = add-held c.args.store.now c.args.role (track_id c.args.track.name.now c.args.track.id.0) c.args.suite c.args.base.now _ c.is_sound.ensures (ap not c.if-not-is_sound.false) _ c.find.ensures _ c.in_ok-known.ensures.ok_part _ c.is_barred.ensures c.if-is_barred.false c.if-base-lt-MIN_BASE_KEY.false c.if-base-gt-MAX_BASE_KEY.false c.if-track-gt-MAX_NAME.false _ c.find-2.ensures _ c.in_default.is in record { value = answered.0; store_after = answered.1 }

pub find_free-requires : goal.find_free-requires
find_free-requires c =
    let octets : Octets c.args.store.now = λ j. omega (arith, c.slice_known-1.given j) in
    tested-whole c.args.store.now (octets) _ c.is_sound.ensures (ap not c.if-not-is_sound.false)

pub returns-in_err-i : goal.returns-in_err-i
returns-in_err-i c =
    let answered = add-full c.args.store.now c.args.role (track_id c.args.track.name.now c.args.track.id.0) c.args.suite c.args.base.now _ c.is_sound.ensures (ap not c.if-not-is_sound.false) _ c.find.ensures _ c.in_ok-known.ensures.ok_part _ c.is_barred.ensures c.if-is_barred.false c.if-base-lt-MIN_BASE_KEY.false c.if-base-gt-MAX_BASE_KEY.false c.if-track-gt-MAX_NAME.false _ c.find-2.ensures c.in-None.is _ c.find_free.ensures c.in_err-i.ensures.ok_part in record { value = missing-number c.ok_or-2.result c.find_free.result _ c.ok_or-2.ensures.value _ _ c.in_err-i.was c.from_residual-in_err-i.ensures.1 ∙ answered.0; store_after = answered.1 }

pub fill_at-requires : goal.fill_at-requires
fill_at-requires c =
    let octets : Octets c.args.store.now = λ j. omega (arith, c.slice_known-1.given j) in (
      free-within c.args.store.now _ _ (tested-sound c.args.store.now (octets) _ c.is_sound.ensures (ap not c.if-not-is_sound.false)) c.find_free.ensures c.in_ok-i.ensures.ok_part,
      free-empty _ _ _ c.find_free.ensures c.in_ok-i.ensures.ok_part,
      c.if-track-gt-MAX_NAME.false,
      c.if-base-gt-MAX_BASE_KEY.false,
    )

pub returns : goal.returns
returns c =
    let answered = add_done c.args.store.now c.args.role (track_id c.args.track.name.now c.args.track.id.0) c.args.suite c.args.base.now _ c.is_sound.ensures (ap not c.if-not-is_sound.false) _ c.find.ensures _ c.in_ok-known.ensures.ok_part _ c.is_barred.ensures c.if-is_barred.false c.if-base-lt-MIN_BASE_KEY.false c.if-base-gt-MAX_BASE_KEY.false c.if-track-gt-MAX_NAME.false _ c.find-2.ensures c.in-None.is _ c.find_free.ensures _ c.in_ok-i.ensures.ok_part _ c.fill_at.ensures in record { value = answered.0; store_after = answered.1 }

-- SPDX-License-Identifier: MIT
use Rattle.answers.proofs.Refusals.{missing-number}
use Rattle.tracks.proofs.Removal.{remove-unsound, remove-missing, held-there, remove-retired, remove-done}
use Rattle.tracks.proofs.Places.{tested-sound, tested-whole, found_within}
use Rattle.track_record.specs.Record.{track_id}
use Rattle.octets.specs.Octets.{Octets}
use native.Mathlib.Omega.{arith}
use mathlib.Core.Path.{◌∙◌, ap}
use mathlib.Core.Bool.{not}
use Rattle.tracks.proofs.remove.Goals as goal

pub returns-then-not-is_sound : goal.returns-then-not-is_sound
returns-then-not-is_sound c =
    let answered = remove-unsound c.args.store.now _ _ c.is_sound.ensures (ap not c.if-not-is_sound.true) in record { value = answered.0; store_after = answered.1 }

pub find-requires : goal.find-requires
find-requires c =
    let octets : Octets c.args.store.now = λ j. omega (arith, c.slice_known-1.given j) in
    tested-whole c.args.store.now (octets) _ c.is_sound.ensures (ap not c.if-not-is_sound.false)

pub returns-in_err-i : goal.returns-in_err-i
returns-in_err-i c =
    let octets : Octets c.args.store.now = λ j. omega (arith, c.slice_known-1.given j) in
    let answered = remove-missing c.args.store.now _ (tested-sound c.args.store.now (octets) _ c.is_sound.ensures (ap not c.if-not-is_sound.false)) _ c.find.ensures c.in_err-i.ensures.ok_part in record { value = missing-number c.ok_or.result c.find.result _ c.ok_or.ensures.value _ _ c.in_err-i.was c.from_residual.ensures.1 ∙ answered.0; store_after = answered.1 }

pub row_at-requires : goal.row_at-requires
row_at-requires c =
    let octets : Octets c.args.store.now = λ j. omega (arith, c.slice_known-1.given j) in
    found_within c.args.store.now _ _ _ (tested-sound c.args.store.now (octets) _ c.is_sound.ensures (ap not c.if-not-is_sound.false)) c.find.ensures c.in_ok-i.ensures.ok_part

pub is_retired-requires : goal.is_retired-requires
is_retired-requires c = c.row_at.ensures.0.0

pub returns-then-is_retired : goal.returns-then-is_retired
returns-then-is_retired c =
    let octets : Octets c.args.store.now = λ j. omega (arith, c.slice_known-1.given j) in
    let answered = remove-retired c.args.store.now (track_id c.args.track.name.now c.args.track.id.0) (tested-sound c.args.store.now (octets) _ c.is_sound.ensures (ap not c.if-not-is_sound.false)) (octets) _ c.find.ensures _ c.in_ok-i.ensures.ok_part _ c.row_at.ensures.1 _ c.is_retired.ensures c.if-is_retired.true in record { value = answered.0; store_after = answered.1 }

pub retire_at-requires : goal.retire_at-requires
retire_at-requires c =
    let octets : Octets c.args.store.now = λ j. omega (arith, c.slice_known-1.given j) in
    let s = tested-sound c.args.store.now (octets) _ c.is_sound.ensures (ap not c.if-not-is_sound.false) in (
      found_within c.args.store.now _ _ _ s c.find.ensures c.in_ok-i.ensures.ok_part,
      held-there c.args.store.now (track_id c.args.track.name.now c.args.track.id.0) s (octets) _ c.find.ensures _ c.in_ok-i.ensures.ok_part,
    )

pub returns : goal.returns
returns c =
    let octets : Octets c.args.store.now = λ j. omega (arith, c.slice_known-1.given j) in
    let answered = remove-done c.args.store.now (track_id c.args.track.name.now c.args.track.id.0) (tested-sound c.args.store.now (octets) _ c.is_sound.ensures (ap not c.if-not-is_sound.false)) (octets) _ c.find.ensures _ c.in_ok-i.ensures.ok_part _ c.row_at.ensures.1 _ c.is_retired.ensures _ c.if-is_retired.false c.retire_at.ensures in record { value = answered.0; store_after = answered.1 }

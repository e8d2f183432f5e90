-- SPDX-License-Identifier: MIT
use Rattle.answers.proofs.Refusals.{missing-number, nothing-written}
use Rattle.open_object.proofs.OpenSteps.{open-unsound, open-missing, name-fits, held-there, open-found}
use Rattle.tracks.proofs.Places.{tested-sound, tested-whole, found_within}
use Rattle.track_record.specs.Record.{track_id}
use Rattle.octets.specs.Octets.{Octets}
use native.Mathlib.Omega.{arith}
use mathlib.Core.Path.{◌∙◌}
use mathlib.Core.Bool.{not}
use mathlib.Core.Path.{ap}
use Rattle.open_object.proofs.open.Goals as goal

pub returns-then-not-is_sound : goal.returns-then-not-is_sound
returns-then-not-is_sound c =
    let q = open-unsound c.args.store.now (track_id c.args.track.name.now c.args.track.id.0) c.args.pair.group.0 c.args.pair.object.0 c.args.properties.now c.args.sealed.now c.args.room.now _ c.is_sound.ensures (ap not c.if-not-is_sound.true) in
    record { number_value = q.0; room_after = q.1 }

pub find-requires : goal.find-requires
find-requires c =
    let octets : Octets c.args.store.now = λ j. omega (arith, c.shared_slice_known-1.given j) in
    tested-whole c.args.store.now (octets) _ c.is_sound.ensures (ap not c.if-not-is_sound.false)

pub returns-in_err-i : goal.returns-in_err-i
returns-in_err-i c =
    let octets : Octets c.args.store.now = λ j. omega (arith, c.shared_slice_known-1.given j) in
    let q = open-missing c.args.store.now (track_id c.args.track.name.now c.args.track.id.0) c.args.pair.group.0 c.args.pair.object.0 c.args.properties.now c.args.sealed.now c.args.room.now (tested-sound c.args.store.now (octets) _ c.is_sound.ensures (ap not c.if-not-is_sound.false)) _ c.find.ensures c.in_err-i.ensures.ok_part in
    record { number_value = (missing-number c.ok_or.result c.find.result _ c.ok_or.ensures.value _ _ c.in_err-i.was c.from_residual.ensures.1 ∙ q.0.0, nothing-written _ _ c.from_residual.ensures.1 ∙ q.0.1); room_after = q.1 }

pub row_at-requires : goal.row_at-requires
row_at-requires c =
    let octets : Octets c.args.store.now = λ j. omega (arith, c.shared_slice_known-1.given j) in
    found_within c.args.store.now (track_id c.args.track.name.now c.args.track.id.0) _ _ (tested-sound c.args.store.now (octets) _ c.is_sound.ensures (ap not c.if-not-is_sound.false)) c.find.ensures c.in_ok-i.ensures.ok_part

pub open_with-requires : goal.open_with-requires
open_with-requires c =
    let octets : Octets c.args.store.now = λ j. omega (arith, c.shared_slice_known-1.given j) in
    (c.row_at.ensures.0.0, held-there c.args.store.now (track_id c.args.track.name.now c.args.track.id.0) c.args.pair.group.0 c.args.pair.object.0 c.args.properties.now c.args.sealed.now c.args.room.now (tested-sound c.args.store.now (octets) _ c.is_sound.ensures (ap not c.if-not-is_sound.false)) _ c.find.ensures _ c.in_ok-i.ensures.ok_part _ c.row_at.ensures, name-fits c.args.store.now (track_id c.args.track.name.now c.args.track.id.0) c.args.pair.group.0 c.args.pair.object.0 c.args.properties.now c.args.sealed.now c.args.room.now (tested-sound c.args.store.now (octets) _ c.is_sound.ensures (ap not c.if-not-is_sound.false)) _ c.find.ensures _ c.in_ok-i.ensures.ok_part (octets))

pub returns : goal.returns
returns c =
    let octets : Octets c.args.store.now = λ j. omega (arith, c.shared_slice_known-1.given j) in
    let e = c.open_with.ensures in
    let answered = open-found c.args.store.now (track_id c.args.track.name.now c.args.track.id.0) c.args.pair.group.0 c.args.pair.object.0 c.args.properties.now c.args.sealed.now c.args.room.now (tested-sound c.args.store.now (octets) _ c.is_sound.ensures (ap not c.if-not-is_sound.false)) _ c.find.ensures _ c.in_ok-i.ensures.ok_part _ c.row_at.ensures _ _ _ (e.number_value, e.room_after) in record { number_value = answered.0; room_after = answered.1 }

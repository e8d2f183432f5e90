-- SPDX-License-Identifier: MIT
use Rattle.answers.proofs.Refusals.{refused-some, done-number, handed-on, missing-number, nothing-written}
use Rattle.seal_object.proofs.SealSteps.{seal-unsound, seal-missing, held-there, held_place, name-fits, seal-refused, judged-again, object-fits, seal-done}
use Rattle.tracks.proofs.Places.{tested-sound, tested-whole, found_within}
use Rattle.track_record.specs.Record.{track_id}
use Rattle.octets.specs.Octets.{Octets}
use native.Mathlib.Omega.{arith}
use mathlib.Core.Path.{◌∙◌}
use mathlib.Core.Bool.{not}
use mathlib.Core.Path.{ap}
use Rattle.seal_object.proofs.seal.Goals as goal

pub returns-then-not-is_sound : goal.returns-then-not-is_sound
returns-then-not-is_sound c =
    let q = seal-unsound c.args.store.now (track_id c.args.track.name.now c.args.track.id.0) c.args.pair.group.0 c.args.pair.object.0 c.args.properties.now c.args.plaintext.now c.args.room.now _ c.is_sound.ensures (ap not c.if-not-is_sound.true) in record { number_value = q.0; store_after = q.1.0; room_after = q.1.1 }

pub find-requires : goal.find-requires
find-requires c =
    let octets : Octets c.args.store.now = λ j. omega (arith, c.slice_known-1.given j) in
    tested-whole c.args.store.now (octets) _ c.is_sound.ensures (ap not c.if-not-is_sound.false)

pub returns-in_err-i : goal.returns-in_err-i
returns-in_err-i c =
    let octets : Octets c.args.store.now = λ j. omega (arith, c.slice_known-1.given j) in
    let q = seal-missing c.args.store.now (track_id c.args.track.name.now c.args.track.id.0) c.args.pair.group.0 c.args.pair.object.0 c.args.properties.now c.args.plaintext.now c.args.room.now (tested-sound c.args.store.now (octets) _ c.is_sound.ensures (ap not c.if-not-is_sound.false)) _ c.find.ensures c.in_err-i.ensures.ok_part in record { number_value = (missing-number c.ok_or.result c.find.result _ c.ok_or.ensures.value _ _ c.in_err-i.was c.from_residual.ensures.1 ∙ q.0.0, nothing-written _ _ c.from_residual.ensures.1 ∙ q.0.1); store_after = q.1.0; room_after = q.1.1 }

pub row_at-requires : goal.row_at-requires
row_at-requires c =
    let octets : Octets c.args.store.now = λ j. omega (arith, c.slice_known-1.given j) in
    found_within c.args.store.now (track_id c.args.track.name.now c.args.track.id.0) _ _ (tested-sound c.args.store.now (octets) _ c.is_sound.ensures (ap not c.if-not-is_sound.false)) c.find.ensures c.in_ok-i.ensures.ok_part

pub judge-requires : goal.judge-requires
judge-requires c =
    let octets : Octets c.args.store.now = λ j. omega (arith, c.slice_known-1.given j) in
    (c.row_at.ensures.0.0, held-there c.args.store.now (track_id c.args.track.name.now c.args.track.id.0) c.args.pair.group.0 c.args.pair.object.0 c.args.properties.now c.args.plaintext.now c.args.room.now (tested-sound c.args.store.now (octets) _ c.is_sound.ensures (ap not c.if-not-is_sound.false)) _ c.find.ensures _ c.in_ok-i.ensures.ok_part _ c.row_at.ensures)

pub returns-in_err-judge : goal.returns-in_err-judge
returns-in_err-judge c =
    let octets : Octets c.args.store.now = λ j. omega (arith, c.slice_known-1.given j) in
    let q = seal-refused c.args.store.now (track_id c.args.track.name.now c.args.track.id.0) c.args.pair.group.0 c.args.pair.object.0 c.args.properties.now c.args.plaintext.now c.args.room.now (tested-sound c.args.store.now (octets) _ c.is_sound.ensures (ap not c.if-not-is_sound.false)) _ c.find.ensures _ c.in_ok-i.ensures.ok_part _ c.row_at.ensures _ c.judge.ensures (refused-some c.judge.result _ c.in_err-judge.was) in record { number_value = (handed-on c.judge.result _ _ c.in_err-judge.was c.from_residual-in_err-judge.ensures.1 ∙ q.0.0, nothing-written _ _ c.from_residual-in_err-judge.ensures.1 ∙ q.0.1); store_after = q.1.0; room_after = q.1.1 }

pub row_at-requires-2 : goal.row_at-requires-2
row_at-requires-2 c =
    let octets : Octets c.args.store.now = λ j. omega (arith, c.slice_known-1.given j) in
    found_within c.args.store.now (track_id c.args.track.name.now c.args.track.id.0) _ _ (tested-sound c.args.store.now (octets) _ c.is_sound.ensures (ap not c.if-not-is_sound.false)) c.find.ensures c.in_ok-i.ensures.ok_part

pub write_object-length-requires : goal.write_object-length-requires
write_object-length-requires c =
    let octets : Octets c.args.store.now = λ j. omega (arith, c.slice_known-1.given j) in
    record { row_len = (c.row_at-2.ensures.0.0, name-fits c.args.store.now (track_id c.args.track.name.now c.args.track.id.0) c.args.pair.group.0 c.args.pair.object.0 c.args.properties.now c.args.plaintext.now c.args.room.now (tested-sound c.args.store.now (octets) _ c.is_sound.ensures (ap not c.if-not-is_sound.false)) _ c.find.ensures _ c.in_ok-i.ensures.ok_part (octets)); room_value = judged-again c.args.store.now (track_id c.args.track.name.now c.args.track.id.0) c.args.pair.group.0 c.args.pair.object.0 c.args.properties.now c.args.plaintext.now c.args.room.now (tested-sound c.args.store.now (octets) _ c.is_sound.ensures (ap not c.if-not-is_sound.false)) _ c.find.ensures _ c.in_ok-i.ensures.ok_part _ c.row_at.ensures _ c.judge.ensures (done-number c.judge.result _ c.in_ok-judge.was) _ c.row_at-2.ensures }

pub advance_at-requires : goal.advance_at-requires
advance_at-requires c =
    let octets : Octets c.args.store.now = λ j. omega (arith, c.slice_known-1.given j) in
    (found_within c.args.store.now (track_id c.args.track.name.now c.args.track.id.0) _ _ (tested-sound c.args.store.now (octets) _ c.is_sound.ensures (ap not c.if-not-is_sound.false)) c.find.ensures c.in_ok-i.ensures.ok_part, held_place c.args.store.now (track_id c.args.track.name.now c.args.track.id.0) c.args.pair.group.0 c.args.pair.object.0 c.args.properties.now c.args.plaintext.now c.args.room.now (tested-sound c.args.store.now (octets) _ c.is_sound.ensures (ap not c.if-not-is_sound.false)) _ c.find.ensures _ c.in_ok-i.ensures.ok_part, object-fits c.args.store.now (track_id c.args.track.name.now c.args.track.id.0) c.args.pair.group.0 c.args.pair.object.0 c.args.properties.now c.args.plaintext.now c.args.room.now (tested-sound c.args.store.now (octets) _ c.is_sound.ensures (ap not c.if-not-is_sound.false)) _ c.find.ensures _ c.in_ok-i.ensures.ok_part _ c.row_at.ensures _ c.judge.ensures (done-number c.judge.result _ c.in_ok-judge.was))

pub returns : goal.returns
returns c =
    let octets : Octets c.args.store.now = λ j. omega (arith, c.slice_known-1.given j) in
    let answered = seal-done c.args.store.now (track_id c.args.track.name.now c.args.track.id.0) c.args.pair.group.0 c.args.pair.object.0 c.args.properties.now c.args.plaintext.now c.args.room.now (tested-sound c.args.store.now (octets) _ c.is_sound.ensures (ap not c.if-not-is_sound.false)) _ c.find.ensures _ c.in_ok-i.ensures.ok_part _ c.row_at.ensures _ c.judge.ensures (done-number c.judge.result _ c.in_ok-judge.was) (octets) _ c.row_at-2.ensures _ _ _ c.write_object-length.ensures.value c.write_object-length.ensures.room_after c.advance_at.ensures in record { number_value = answered.0; store_after = answered.1.0; room_after = answered.1.1 }

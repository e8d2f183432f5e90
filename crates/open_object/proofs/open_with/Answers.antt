-- SPDX-License-Identifier: MIT
use Rattle.answers.proofs.Refusals.{refused-some, done-number, handed-on, nothing-written}
use Rattle.open_object.proofs.OpenSteps.{clear, sizes-told, open-refused, tag-refused, object-opened}
use Rattle.track_record.proofs.Records.{told-nothing, told}
use Rattle.track_record.specs.Record.{track_id}
use Rattle.track_record.specs.Layout.{decode}
use native.Mathlib.Omega.{arith}
use mathlib.Core.Bool.{false≢true}
use mathlib.Core.Path.{refl, sym, ◌∙◌}
use mathlib.Core.Bool.{not}
use mathlib.Core.Path.{ap}
use Rattle.open_object.proofs.open_with.Goals as goal

pub returns-in_err-judge : goal.returns-in_err-judge
returns-in_err-judge c =
    let q = open-refused (decode c.args.row.now) (track_id c.args.track.name.now c.args.track.id.0) c.args.pair.group.0 c.args.pair.object.0 c.args.properties.now c.args.sealed.now c.args.room.now _ c.judge.ensures (refused-some c.judge.result _ c.in_err-judge.was) in
    record { number_value = (handed-on c.judge.result _ _ c.in_err-judge.was c.from_residual.ensures.1 ∙ q.0.0, nothing-written _ _ c.from_residual.ensures.1 ∙ q.0.1); room_after = q.1 }

pub returns-in_err-suite : goal.returns-in_err-suite
returns-in_err-suite c =
    absurd (false≢true (sym c.requires.1 ∙ told-nothing (decode c.args.row.now) _ c.held_in.ensures c.in_err-suite.ensures.ok_part))

pub key_of-requires : goal.key_of-requires
key_of-requires c =
    (c.requires.0, (told (decode c.args.row.now) _ _ _ c.held_in.ensures c.in_ok-suite.ensures.ok_part).suite-is)

pub unsecure-requires : goal.unsecure-requires
unsecure-requires c =
    let k = (clear (decode c.args.row.now) c.args.pair.object.0 _ _ _ (sym c.judge.ensures ∙ done-number c.judge.result _ c.in_ok-judge.was)) in
    let z = (sizes-told (decode c.args.row.now) c.args.pair.object.0 _ _ _ _ _ (told (decode c.args.row.now) _ _ _ c.held_in.ensures c.in_ok-suite.ensures.ok_part) (clear (decode c.args.row.now) c.args.pair.object.0 _ _ _ (sym c.judge.ensures ∙ done-number c.judge.result _ c.in_ok-judge.was))) in
    record { key_len = (c.key_of.ensures.1, c.salt_of.ensures.1, c.requires.2, k.object-below); properties_len_bound = (k.properties-most, z.0, z.1, z.2) }

pub returns-then-not-unsecure : goal.returns-then-not-unsecure
returns-then-not-unsecure c =
    let q = tag-refused (decode c.args.row.now) (track_id c.args.track.name.now c.args.track.id.0) c.args.pair.group.0 c.args.pair.object.0 c.args.properties.now c.args.sealed.now c.args.room.now _ c.judge.ensures (done-number c.judge.result _ c.in_ok-judge.was) _ _ (told (decode c.args.row.now) _ _ _ c.held_in.ensures c.in_ok-suite.ensures.ok_part) _ refl _ _ c.key_of.ensures.0 c.salt_of.ensures.0 _ _ c.unsecure.ensures.value (ap not c.if-not-unsecure.true) c.unsecure.ensures.out_after in
    record { number_value = q.0; room_after = q.1 }

pub overflow_sub-result : goal.overflow_sub-result
overflow_sub-result c =
    omega (arith, (sizes-told (decode c.args.row.now) c.args.pair.object.0 _ _ _ _ _ (told (decode c.args.row.now) _ _ _ c.held_in.ensures c.in_ok-suite.ensures.ok_part) (clear (decode c.args.row.now) c.args.pair.object.0 _ _ _ (sym c.judge.ensures ∙ done-number c.judge.result _ c.in_ok-judge.was))).0, c.tag_size.ensures)

pub returns : goal.returns
returns c =
    let answered = object-opened (decode c.args.row.now) (track_id c.args.track.name.now c.args.track.id.0) c.args.pair.group.0 c.args.pair.object.0 c.args.properties.now c.args.sealed.now c.args.room.now _ c.judge.ensures (done-number c.judge.result _ c.in_ok-judge.was) _ _ (told (decode c.args.row.now) _ _ _ c.held_in.ensures c.in_ok-suite.ensures.ok_part) _ c.tag_size.ensures _ _ c.key_of.ensures.0 c.salt_of.ensures.0 _ _ c.unsecure.ensures.value (ap not c.if-not-unsecure.false) c.unsecure.ensures.out_after in record { number_value = answered.0; room_after = answered.1 }

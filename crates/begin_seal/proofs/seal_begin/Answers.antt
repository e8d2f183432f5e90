-- SPDX-License-Identifier: MIT
use Rattle.answers.proofs.Refusals.{refused-some, done-number, handed-on, missing-number, nothing-written}
use mathlib.Core.Path.{◌∙◌}
use native.Mathlib.Omega.{arith}
use Rattle.store.proofs.Places.{tested-sound, found_within}
use Rattle.begin_seal.proofs.BeginSteps.{begin-unsound, begin-missing, held-there, begin-refused, judged-again, clear-there, counter-below, begin-done}
use mathlib.Core.Bool.{not}
use mathlib.Core.Path.{ap}
use Rattle.begin_seal.proofs.seal_begin.Goals as goal

pub returns-then-not-is_sound : goal.returns-then-not-is_sound
returns-then-not-is_sound c =
    let q = begin-unsound c.args.store.now c.args.kid.0 c.args.metadata.now c.args.announced c.args.state.now c.args.room.now _ c.is_sound.ensures (ap not c.if-not-is_sound.true) in record { number_value = q.0; store_after = q.1.0; room_after = q.1.1.0; state_after = q.1.1.1 }

pub find_near-requires : goal.find_near-requires
find_near-requires c =
    tested-sound c.args.store.now (λ j. omega (arith, c.slice_known-1.given j)) _ c.is_sound.ensures (ap not c.if-not-is_sound.false)

pub returns-in_err-i : goal.returns-in_err-i
returns-in_err-i c =
    let q = begin-missing c.args.store.now c.args.kid.0 c.args.metadata.now c.args.announced c.args.state.now c.args.room.now (tested-sound c.args.store.now (λ j. omega (arith, c.slice_known-1.given j)) _ c.is_sound.ensures (ap not c.if-not-is_sound.false)) _ c.find_near.ensures c.in_err-i.ensures.ok_part in record { number_value = (missing-number c.ok_or.result c.find_near.result _ c.ok_or.ensures.value _ _ c.in_err-i.was c.from_residual.ensures.1 ∙ q.0.0, nothing-written _ _ c.from_residual.ensures.1 ∙ q.0.1); store_after = q.1.0; room_after = q.1.1.0; state_after = q.1.1.1 }

pub row_at-requires : goal.row_at-requires
row_at-requires c =
    found_within c.args.store.now _ _ _ (tested-sound c.args.store.now (λ j. omega (arith, c.slice_known-1.given j)) _ c.is_sound.ensures (ap not c.if-not-is_sound.false)) c.find_near.ensures c.in_ok-i.ensures.ok_part

pub judge-requires : goal.judge-requires
judge-requires c =
    (c.row_at.ensures.0, held-there c.args.store.now c.args.kid.0 c.args.metadata.now c.args.announced c.args.state.now c.args.room.now (tested-sound c.args.store.now (λ j. omega (arith, c.slice_known-1.given j)) _ c.is_sound.ensures (ap not c.if-not-is_sound.false)) _ c.find_near.ensures _ c.in_ok-i.ensures.ok_part _ c.row_at.ensures)

pub returns-in_err-judge : goal.returns-in_err-judge
returns-in_err-judge c =
    let q = begin-refused c.args.store.now c.args.kid.0 c.args.metadata.now c.args.announced c.args.state.now c.args.room.now (tested-sound c.args.store.now (λ j. omega (arith, c.slice_known-1.given j)) _ c.is_sound.ensures (ap not c.if-not-is_sound.false)) _ c.find_near.ensures _ c.in_ok-i.ensures.ok_part _ c.row_at.ensures _ c.judge.ensures (refused-some c.judge.result _ c.in_err-judge.was) in record { number_value = (handed-on c.judge.result _ _ c.in_err-judge.was c.from_residual-in_err-judge.ensures.1 ∙ q.0.0, nothing-written _ _ c.from_residual-in_err-judge.ensures.1 ∙ q.0.1); store_after = q.1.0; room_after = q.1.1.0; state_after = q.1.1.1 }

pub row_at-requires-2 : goal.row_at-requires-2
row_at-requires-2 c =
    found_within c.args.store.now _ _ _ (tested-sound c.args.store.now (λ j. omega (arith, c.slice_known-1.given j)) _ c.is_sound.ensures (ap not c.if-not-is_sound.false)) c.find_near.ensures c.in_ok-i.ensures.ok_part

pub write_line-length-requires : goal.write_line-length-requires
write_line-length-requires c =
    record { row = c.row_at-2.ensures.0; state_value = judged-again c.args.store.now c.args.kid.0 c.args.metadata.now c.args.announced c.args.state.now c.args.room.now (tested-sound c.args.store.now (λ j. omega (arith, c.slice_known-1.given j)) _ c.is_sound.ensures (ap not c.if-not-is_sound.false)) _ c.find_near.ensures _ c.in_ok-i.ensures.ok_part _ c.row_at.ensures _ c.judge.ensures (done-number c.judge.result _ c.in_ok-judge.was) _ c.row_at-2.ensures }

pub advance_at-requires : goal.advance_at-requires
advance_at-requires c =
    (found_within c.args.store.now _ _ _ (tested-sound c.args.store.now (λ j. omega (arith, c.slice_known-1.given j)) _ c.is_sound.ensures (ap not c.if-not-is_sound.false)) c.find_near.ensures c.in_ok-i.ensures.ok_part, (clear-there c.args.store.now c.args.kid.0 c.args.metadata.now c.args.announced c.args.state.now c.args.room.now (tested-sound c.args.store.now (λ j. omega (arith, c.slice_known-1.given j)) _ c.is_sound.ensures (ap not c.if-not-is_sound.false)) _ c.find_near.ensures _ c.in_ok-i.ensures.ok_part _ c.row_at.ensures _ c.judge.ensures (done-number c.judge.result _ c.in_ok-judge.was)).sends, counter-below c.args.store.now c.args.kid.0 c.args.metadata.now c.args.announced c.args.state.now c.args.room.now (tested-sound c.args.store.now (λ j. omega (arith, c.slice_known-1.given j)) _ c.is_sound.ensures (ap not c.if-not-is_sound.false)) _ c.find_near.ensures _ c.in_ok-i.ensures.ok_part _ c.row_at.ensures _ c.judge.ensures (done-number c.judge.result _ c.in_ok-judge.was) (λ j. omega (arith, c.slice_known-1.given j)))

pub returns : goal.returns
returns c =
    let answered = begin-done c.args.store.now c.args.kid.0 c.args.metadata.now c.args.announced c.args.state.now c.args.room.now (tested-sound c.args.store.now (λ j. omega (arith, c.slice_known-1.given j)) _ c.is_sound.ensures (ap not c.if-not-is_sound.false)) _ c.find_near.ensures _ c.in_ok-i.ensures.ok_part _ c.row_at.ensures _ c.judge.ensures (done-number c.judge.result _ c.in_ok-judge.was) (λ j. omega (arith, c.slice_known-1.given j)) _ c.row_at-2.ensures _ _ _ _ c.write_line-length.ensures.value c.write_line-length.ensures.room_after c.write_line-length.ensures.state_after c.advance_at.ensures in record { number_value = answered.0; store_after = answered.1.0; room_after = answered.1.1.0; state_after = answered.1.1.1 }

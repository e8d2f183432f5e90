-- SPDX-License-Identifier: MIT
use mathlib.Core.Path.{◌∙◌}
use native.Mathlib.Omega.{arith}
use Rattle.answers.proofs.Refusals.{given, missing, missing-number, nothing-written, refused-some, done-number, handed-on}
use Rattle.store.proofs.Places.{tested-sound, found_within}
use Rattle.seal_frame.proofs.SealSteps.{seal-unsound, seal-missing, held-there, seal-refused, judged-again, clear-there, counter-below, seal-done}
use mathlib.Core.Bool.{not}
use mathlib.Core.Path.{ap}
use Rattle.seal_frame.proofs.seal.Goals as goal

pub returns-then-not-is_sound : goal.returns-then-not-is_sound
returns-then-not-is_sound c =
    let q = seal-unsound c.args.store.now c.args.kid.0 c.args.metadata.now c.args.plaintext.now c.args.room.now _ c.is_sound.ensures (ap not c.if-not-is_sound.true) in record { number_value = q.0; store_after = q.1.0; room_after = q.1.1 }

pub find_near-requires : goal.find_near-requires
find_near-requires c =
    tested-sound c.args.store.now (λ j. omega (arith, c.slice_known-1.given j)) _ c.is_sound.ensures (ap not c.if-not-is_sound.false)

pub returns-in_err-i : goal.returns-in_err-i
returns-in_err-i c =
    let q = seal-missing c.args.store.now c.args.kid.0 c.args.metadata.now c.args.plaintext.now c.args.room.now (tested-sound c.args.store.now (λ j. omega (arith, c.slice_known-1.given j)) _ c.is_sound.ensures (ap not c.if-not-is_sound.false)) _ c.find_near.ensures (missing _ _ _ c.ok_or.ensures.value _ c.in_err-i.was) in record { number_value = (missing-number _ _ _ c.ok_or.ensures.value c.from_residual.result _ c.in_err-i.was c.from_residual.ensures.1 ∙ q.0.0, nothing-written c.from_residual.result _ c.from_residual.ensures.1 ∙ q.0.1); store_after = q.1.0; room_after = q.1.1 }

pub row_at-requires : goal.row_at-requires
row_at-requires c =
    found_within c.args.store.now _ _ _ (tested-sound c.args.store.now (λ j. omega (arith, c.slice_known-1.given j)) _ c.is_sound.ensures (ap not c.if-not-is_sound.false)) c.find_near.ensures (given _ _ _ c.ok_or.ensures.value _ c.in_ok-i.was)

pub judge-requires : goal.judge-requires
judge-requires c =
    (c.row_at.ensures.0, held-there c.args.store.now c.args.kid.0 c.args.metadata.now c.args.plaintext.now c.args.room.now (tested-sound c.args.store.now (λ j. omega (arith, c.slice_known-1.given j)) _ c.is_sound.ensures (ap not c.if-not-is_sound.false)) _ c.find_near.ensures _ (given _ _ _ c.ok_or.ensures.value _ c.in_ok-i.was) _ c.row_at.ensures)

pub returns-in_err-judge : goal.returns-in_err-judge
returns-in_err-judge c =
    let q = seal-refused c.args.store.now c.args.kid.0 c.args.metadata.now c.args.plaintext.now c.args.room.now (tested-sound c.args.store.now (λ j. omega (arith, c.slice_known-1.given j)) _ c.is_sound.ensures (ap not c.if-not-is_sound.false)) _ c.find_near.ensures _ (given _ _ _ c.ok_or.ensures.value _ c.in_ok-i.was) _ c.row_at.ensures _ c.judge.ensures (refused-some _ _ c.in_err-judge.was) in record { number_value = (handed-on _ c.from_residual-in_err-judge.result _ c.in_err-judge.was c.from_residual-in_err-judge.ensures.1 ∙ q.0.0, nothing-written c.from_residual-in_err-judge.result _ c.from_residual-in_err-judge.ensures.1 ∙ q.0.1); store_after = q.1.0; room_after = q.1.1 }

pub row_at-requires-2 : goal.row_at-requires-2
row_at-requires-2 c =
    found_within c.args.store.now _ _ _ (tested-sound c.args.store.now (λ j. omega (arith, c.slice_known-1.given j)) _ c.is_sound.ensures (ap not c.if-not-is_sound.false)) c.find_near.ensures (given _ _ _ c.ok_or.ensures.value _ c.in_ok-i.was)

pub write_frame-length-requires : goal.write_frame-length-requires
write_frame-length-requires c =
    record { row = c.row_at-2.ensures.0; room_value = judged-again c.args.store.now c.args.kid.0 c.args.metadata.now c.args.plaintext.now c.args.room.now (tested-sound c.args.store.now (λ j. omega (arith, c.slice_known-1.given j)) _ c.is_sound.ensures (ap not c.if-not-is_sound.false)) _ c.find_near.ensures _ (given _ _ _ c.ok_or.ensures.value _ c.in_ok-i.was) _ c.row_at.ensures _ c.judge.ensures (done-number _ _ c.in_ok-judge.was) _ c.row_at-2.ensures }

pub advance_at-requires : goal.advance_at-requires
advance_at-requires c =
    (found_within c.args.store.now _ _ _ (tested-sound c.args.store.now (λ j. omega (arith, c.slice_known-1.given j)) _ c.is_sound.ensures (ap not c.if-not-is_sound.false)) c.find_near.ensures (given _ _ _ c.ok_or.ensures.value _ c.in_ok-i.was), (clear-there c.args.store.now c.args.kid.0 c.args.metadata.now c.args.plaintext.now c.args.room.now (tested-sound c.args.store.now (λ j. omega (arith, c.slice_known-1.given j)) _ c.is_sound.ensures (ap not c.if-not-is_sound.false)) _ c.find_near.ensures _ (given _ _ _ c.ok_or.ensures.value _ c.in_ok-i.was) _ c.row_at.ensures _ c.judge.ensures (done-number _ _ c.in_ok-judge.was)).sends, counter-below c.args.store.now c.args.kid.0 c.args.metadata.now c.args.plaintext.now c.args.room.now (tested-sound c.args.store.now (λ j. omega (arith, c.slice_known-1.given j)) _ c.is_sound.ensures (ap not c.if-not-is_sound.false)) _ c.find_near.ensures _ (given _ _ _ c.ok_or.ensures.value _ c.in_ok-i.was) _ c.row_at.ensures _ c.judge.ensures (done-number _ _ c.in_ok-judge.was) (λ j. omega (arith, c.slice_known-1.given j)))

pub returns : goal.returns
returns c =
    let answered = seal-done c.args.store.now c.args.kid.0 c.args.metadata.now c.args.plaintext.now c.args.room.now (tested-sound c.args.store.now (λ j. omega (arith, c.slice_known-1.given j)) _ c.is_sound.ensures (ap not c.if-not-is_sound.false)) _ c.find_near.ensures _ (given _ _ _ c.ok_or.ensures.value _ c.in_ok-i.was) _ c.row_at.ensures _ c.judge.ensures (done-number _ _ c.in_ok-judge.was) (λ j. omega (arith, c.slice_known-1.given j)) _ c.row_at-2.ensures _ _ _ c.write_frame-length.ensures.value c.write_frame-length.ensures.room_after c.advance_at.ensures in record { number_value = answered.0; store_after = answered.1.0; room_after = answered.1.1 }

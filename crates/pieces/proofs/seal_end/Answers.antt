-- SPDX-License-Identifier: MIT
use Rattle.answers.proofs.Refusals.{missing-number, nothing-written}
use Rattle.piece_line.proofs.Steps.{known-possible}
use Rattle.pieces.proofs.CallSteps.{first_part, tag_fits, end-unknown, end-early, end_short, end-written}
use Rattle.piece_line.specs.State.{sealing}
use native.Mathlib.Omega.{arith}
use mathlib.Core.Path.{◌∙◌}
use Rattle.pieces.proofs.seal_end.Goals as goal

pub returns-in_err-suite : goal.returns-in_err-suite
returns-in_err-suite c =
    let h = c.from_residual.ensures.1 in
    let q = end-unknown c.args.state.now c.args.room.now _ c.line_of.ensures c.in_err-suite.ensures.ok_part in
    record { number_value = (missing-number c.ok_or.result c.line_of.result _ c.ok_or.ensures.value _ _ c.in_err-suite.was h ∙ q.0.0, nothing-written _ _ h ∙ q.0.1); room_after = q.1.1 }

pub is_early-requires : goal.is_early-requires
is_early-requires c =
    (known-possible sealing c.args.state.now _ _ c.line_of.ensures c.in_ok-suite.ensures.ok_part).sized

pub returns-then-is_early : goal.returns-then-is_early
returns-then-is_early c =
    let s = c.args in
    let q = end-early s.state.now s.room.now _ c.line_of.ensures _ c.in_ok-suite.ensures.ok_part _ c.is_early.ensures c.if-is_early.true in
    record { number_value = q.0; room_after = q.1.1 }

pub returns-then-room-nt : goal.returns-then-room-nt
returns-then-room-nt c =
    let s = c.args in
    let q = end_short s.state.now s.room.now _ c.line_of.ensures _ c.in_ok-suite.ensures.ok_part _ c.is_early.ensures _ c.tag_size-nt.ensures c.if-is_early.false (omega arith) in
    record { number_value = q.0; room_after = q.1.1 }

pub tag_of-t-requires : goal.tag_of-t-requires
tag_of-t-requires c =
    let p = known-possible sealing c.args.state.now _ _ c.line_of.ensures c.in_ok-suite.ensures.ok_part in let w = p.within in let m = p.most in (p.sized, omega arith)

pub slice_bounds-copy_at-end : goal.slice_bounds-copy_at-end
slice_bounds-copy_at-end c =
    let w = tag_fits _ _ _ c.in_ok-suite.ensures.ok_part c.tag_size-nt.ensures in let l = c.tag_of-t.ensures.1 in omega arith

pub returns : goal.returns
returns c =
    let s = c.args in
    let q = end-written s.state.now s.room.now _ c.line_of.ensures _ c.in_ok-suite.ensures.ok_part _ c.is_early.ensures _ c.tag_size-nt.ensures c.if-is_early.false _ _ (omega arith) (first_part _ _ _ _ c.tag_size-nt.ensures c.tag_of-t.ensures.0) c.copy_at.ensures in
    record { number_value = q.0; room_after = q.1.1 }

-- SPDX-License-Identifier: MIT
use Rattle.answers.proofs.Refusals.{missing-number}
use Rattle.pieces.proofs.CallSteps.{within, check-unknown, check-past, check_done}
use Rattle.piece_line.proofs.Steps.{known-possible}
use Rattle.piece_line.specs.State.{checking}
use mathlib.Core.Path.{◌∙◌}
use Rattle.pieces.proofs.check_piece.Goals as goal

pub returns-in_err-suite : goal.returns-in_err-suite
returns-in_err-suite c =
    let h = c.from_residual.ensures.1 in
    let q = check-unknown c.args.state.now c.args.piece.now _ c.line_of.ensures c.in_err-suite.ensures.ok_part in
    record { value = missing-number c.ok_or.result c.line_of.result _ c.ok_or.ensures.value _ _ c.in_err-suite.was h ∙ q.0.0; state_after = q.1.0 }

pub is_past-requires : goal.is_past-requires
is_past-requires c =
    let p = known-possible checking c.args.state.now _ _ c.line_of.ensures c.in_ok-suite.ensures.ok_part in (p.sized, p.within)

pub returns-then-is_past : goal.returns-then-is_past
returns-then-is_past c =
    let s = c.args in
    let q = check-past s.state.now s.piece.now _ c.line_of.ensures _ c.in_ok-suite.ensures.ok_part _ c.is_past.ensures c.if-is_past.true in
    record { value = q.0.0; state_after = q.1.0 }

pub take_in-requires : goal.take_in-requires
take_in-requires c =
    let p = known-possible checking c.args.state.now _ _ c.line_of.ensures c.in_ok-suite.ensures.ok_part in (p.sized, within c.args.state.now _ _ p c.is_past.ensures c.if-is_past.false)

pub returns : goal.returns
returns c =
    let s = c.args in
    let q = check_done s.state.now s.piece.now _ c.line_of.ensures _ c.in_ok-suite.ensures.ok_part _ c.is_past.ensures c.if-is_past.false in
    record { value = q.0.0; state_after = c.take_in.ensures ∙ q.1.0 }

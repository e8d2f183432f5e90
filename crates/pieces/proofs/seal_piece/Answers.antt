-- SPDX-License-Identifier: MIT
use Rattle.answers.proofs.Refusals.{missing-number, nothing-written}
use Rattle.pieces.proofs.CallSteps.{within, piece-unknown, piece-past, piece-short, piece-taken}
use Rattle.piece_line.proofs.Steps.{known-possible}
use Rattle.piece_line.specs.State.{sealing}
use native.Mathlib.Omega.{arith}
use mathlib.Core.Path.{◌∙◌}
use Rattle.pieces.proofs.seal_piece.Goals as goal

pub returns-in_err-suite : goal.returns-in_err-suite
returns-in_err-suite c =
    let h = c.from_residual.ensures.1 in
    let q = piece-unknown c.args.state.now c.args.piece.now c.args.room.now _ c.line_of.ensures c.in_err-suite.ensures.ok_part in
    record { number_value = (missing-number c.ok_or.result c.line_of.result _ c.ok_or.ensures.value _ _ c.in_err-suite.was h ∙ q.0.0, nothing-written _ _ h ∙ q.0.1); state_after = q.1.0; room_after = q.1.1 }

pub is_past-requires : goal.is_past-requires
is_past-requires c =
    let p = known-possible sealing c.args.state.now _ _ c.line_of.ensures c.in_ok-suite.ensures.ok_part in (p.sized, p.within)

pub returns-then-is_past : goal.returns-then-is_past
returns-then-is_past c =
    let s = c.args in
    let q = piece-past s.state.now s.piece.now s.room.now _ c.line_of.ensures _ c.in_ok-suite.ensures.ok_part _ c.is_past.ensures c.if-is_past.true in
    record { number_value = q.0; state_after = q.1.0; room_after = q.1.1 }

pub returns-then-room-piece : goal.returns-then-room-piece
returns-then-room-piece c =
    let s = c.args in
    let q = piece-short s.state.now s.piece.now s.room.now _ c.line_of.ensures _ c.in_ok-suite.ensures.ok_part _ c.is_past.ensures c.if-is_past.false (omega arith) in
    record { number_value = q.0; state_after = q.1.0; room_after = q.1.1 }

pub encrypt_piece-requires : goal.encrypt_piece-requires
encrypt_piece-requires c =
    let p = known-possible sealing c.args.state.now _ _ c.line_of.ensures c.in_ok-suite.ensures.ok_part in (p.sized, within c.args.state.now _ _ p c.is_past.ensures c.if-is_past.false, omega arith)

pub returns : goal.returns
returns c =
    let s = c.args in
    let q = piece-taken s.state.now s.piece.now s.room.now _ c.line_of.ensures _ c.in_ok-suite.ensures.ok_part _ c.is_past.ensures c.if-is_past.false (omega arith) in
    let e = c.encrypt_piece.ensures in
    record { number_value = q.0; state_after = e.state_after ∙ q.1.0; room_after = e.room_after ∙ q.1.1 }

-- SPDX-License-Identifier: MIT
use Rattle.answers.proofs.Refusals.{missing-number}
use mathlib.Core.Path.{refl}
use Rattle.piece_line.proofs.Steps.{known-possible}
use Rattle.pieces.proofs.CallSteps.{tag-unknown, tag-early, tag-length, tag-differs, tag_same}
use Rattle.piece_line.specs.State.{checking}
use native.Mathlib.Omega.{arith}
use mathlib.Core.Bool.{not}
use mathlib.Core.Path.{◌∙◌, ap}
use Rattle.pieces.proofs.check_end.Goals as goal

pub returns-in_err-suite : goal.returns-in_err-suite
returns-in_err-suite c =
    missing-number c.ok_or.result c.line_of.result _ c.ok_or.ensures.value _ _ c.in_err-suite.was c.from_residual.ensures.1
    ∙ tag-unknown c.args.state.now c.args.tag.now _ c.line_of.ensures c.in_err-suite.ensures.ok_part

pub is_early-requires : goal.is_early-requires
is_early-requires c =
    (known-possible checking c.args.state.now _ _ c.line_of.ensures c.in_ok-suite.ensures.ok_part).sized

pub returns-then-is_early : goal.returns-then-is_early
returns-then-is_early c =
    tag-early c.args.state.now c.args.tag.now _ c.line_of.ensures _ c.in_ok-suite.ensures.ok_part _ c.is_early.ensures c.if-is_early.true

pub returns-then-tag-nt : goal.returns-then-tag-nt
returns-then-tag-nt c =
    tag-length c.args.state.now c.args.tag.now _ c.line_of.ensures _ c.in_ok-suite.ensures.ok_part _ c.is_early.ensures _ c.tag_size-nt.ensures c.if-is_early.false (λ z. omega arith)

pub is_tag-requires : goal.is_tag-requires
is_tag-requires c =
    let p = known-possible checking c.args.state.now _ _ c.line_of.ensures c.in_ok-suite.ensures.ok_part in
    let w = p.within in let m = p.most in
    let n = c.tag_size-nt.ensures in (p.sized, omega arith, omega arith)

pub returns-then-not-is_tag : goal.returns-then-not-is_tag
returns-then-not-is_tag c =
    let s = c.args in
    tag-differs s.state.now s.tag.now _ c.line_of.ensures _ c.in_ok-suite.ensures.ok_part _ c.is_early.ensures _ c.tag_size-nt.ensures c.if-is_early.false (omega arith) _ _ refl c.is_tag.ensures (ap not c.if-not-is_tag.true)

pub returns : goal.returns
returns c =
    let s = c.args in
    tag_same s.state.now s.tag.now _ c.line_of.ensures _ c.in_ok-suite.ensures.ok_part _ c.is_early.ensures _ c.tag_size-nt.ensures c.if-is_early.false (omega arith) _ _ refl c.is_tag.ensures (ap not c.if-not-is_tag.false)

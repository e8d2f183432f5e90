-- SPDX-License-Identifier: MIT
use mathlib.Core.Path.{sym, ◌∙◌}
use native.Mathlib.Omega.{arith}
use lib.ListN.{length}
use Rattle.ratchet.proofs.Steps.{size_none, size-some, walked_none, walk-starts, walk-goes-on, walk_ends}
use Rattle.ratchet.proofs.take_steps.Goals as goal

pub copy-requires : goal.copy-requires
copy-requires c =
    let a = c.args in
    omega (arith, size_none a.suite (length a.base.now) a.steps c.if-steps-eq0.true, c.requires.1)

pub returns-then-steps-eq0 : goal.returns-then-steps-eq0
returns-then-steps-eq0 c =
    let a = c.args in
    walked_none a.suite a.base.now a.out.now _ a.steps c.if-steps-eq0.true c.requires.1 c.copy.ensures

pub next_key-requires : goal.next_key-requires
next_key-requires c =
    let a = c.args in
    (c.requires.0, c.requires.1 ∙ size-some a.suite (length a.base.now) a.steps c.if-steps-eq0.false)

pub loop-init : goal.loop-init
loop-init c =
    let a = c.args in
    walk-starts a.suite a.base.now _ a.steps c.if-steps-eq0.false c.next_key.ensures

pub loop-preserved : goal.loop-preserved
loop-preserved c =
    let a = c.args in
    walk-goes-on a.suite a.base.now c.loop.out _ a.steps c.loop.counter c.loop.invariant c.loop-test.true c.step.ensures

pub shape_of-out : goal.shape_of-out
shape_of-out c =
    let a = c.args in
    c.loop.invariant.3 ∙ sym (c.requires.1 ∙ size-some a.suite (length a.base.now) a.steps c.if-steps-eq0.false)

pub returns : goal.returns
returns c =
    let a = c.args in
    walk_ends a.suite a.base.now c.loop.out a.steps c.loop.counter c.loop.invariant c.loop-test.false

-- SPDX-License-Identifier: MIT
-- `sframe_test::aes_modes::repeat` meets its contract: the loop's invariant: out is the block encrypted i times over.
-- Assumes nothing.
use mathlib.Core.Path.{◌≡◌, refl}
use native.Mathlib.Omega.{arith}
use Rattle.aes_block.specs.Inner.Context.{key_of}
use Rattle.sframe_test.specs.Repeated.{repeated}
use Rattle.sframe_test.proofs.Steps.{encrypt-step, repeat-step}
use borrow.Author.Rules.{rules}
use Rattle.sframe_test.proofs.aes_modes.repeat.Goals as goal

pub loop-init : goal.loop-init
unfolding repeated
loop-init c = (search rules, refl)

pub loop-preserved : goal.loop-preserved
loop-preserved c =
    let a = c.args in
    let v = c.loop.invariant in
    let e = encrypt-step (key_of a.ctx.now) c.loop.out _ _ _ v.0 c.load-s.ensures c.encrypt-t.ensures c.store.ensures in
    let m = repeat-step (key_of a.ctx.now) a.out.now c.loop.out _ c.loop.counter v.1 e in
    m

pub returns : goal.returns
returns c =
    let e : c.loop.counter ≡ c.args.n = omega arith in
    rw e at c.loop.invariant.1

-- SPDX-License-Identifier: MIT
-- `aes::expand` meets its contract.
-- Assumes nothing.
use mathlib.Core.Path.{◌≡◌, refl, ap, ◌∙◌}
use Prim.Native.Nat.{◌+◌}
use native.Mathlib.Omega.{arith}
use lib.ListN.{take}
use Rattle.aes_block.proofs.Contexts.{copy_step, copied, context}
use Rattle.aes_block.proofs.expand.Goals as goal

pub loop-i-init : goal.loop-i-init
loop-i-init c = (c.start-ctx.ensures, refl)

pub loop-i-preserved : goal.loop-i-preserved
loop-i-preserved c =
    let at = c.loop-i in
    let v = at.invariant in
    let w = c.words-w in (
      c.put_word.ensures.1,
      ap (take (at.i + 1)) c.put_word.ensures.0
          ∙ copy_step w.result at.ctx at.i (omega (arith, v.0.sized)) (omega (arith, w.ensures.0)) v.1,
    )

pub returns : goal.returns
returns c =
    let key = c.args.key.now in
    let v = c.loop-i.invariant in
    let w = c.words-w in
    let e : c.loop-i.i ≡ 60 = omega arith in
    context _ _ _ (λ i. omega (arith, c.type_inv.key i)) c.requires
    (copied key w.result c.loop-i.ctx _ c.requires v.0 (rw e at v.1) w.ensures.1 refl)

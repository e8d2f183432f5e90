-- SPDX-License-Identifier: MIT
-- `aes_keys::expand` meets its contract.
-- Assumes nothing.
use mathlib.Core.Path.{◌≡◌, refl}
use Prim.Native.Nat.{◌+◌, ◌*◌, ◌-◌}
use native.Mathlib.Omega.{arith}
use Rattle.aes.specs.Aes.{Nr}
use Rattle.aes_keys.proofs.Keys16.{keys_step, context}
use Rattle.aes_keys.proofs.expand.Goals as goal

pub loop-r-preserved : goal.loop-r-preserved
loop-r-preserved c =
    keys_step c.args.key.now c.words-w.result c.loop-r.ctx c.fill.new.q c.loop-r.r
    c.requires.1 (omega arith) c.loop-r.invariant c.words-w.ensures.1 c.fill.ensures
    (32 * c.loop-r.r + 32 - 32 * c.loop-r.r) (omega arith)

pub returns : goal.returns
returns c =
    let e : c.loop-r.r ≡ Nr c.args.key.now + 1 = omega arith in
    context _ _ _ (λ i. omega (arith, c.type_inv.key i)) c.requires.1 refl (rw e at c.loop-r.invariant)

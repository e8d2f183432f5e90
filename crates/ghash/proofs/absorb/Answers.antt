-- SPDX-License-Identifier: MIT
-- `ghash::absorb` meets its contract: the loop's invariant: z is the hash after i blocks.
-- Assumes nothing.
use mathlib.Core.Path.{refl}
use mathlib.Core.List.{◌++◌}
use native.Mathlib.Omega.{arith}
use Rattle.ghash.specs.Ghash.{absorb_blocks}
use Rattle.ghash.proofs.Absorbing.{absorb-step, absorb-done}
use Rattle.ghash.proofs.absorb.Goals as goal

pub loop-i-init : goal.loop-i-init
unfolding absorb_blocks
loop-i-init c = refl

pub loop-i-preserved : goal.loop-i-preserved
loop-i-preserved c =
    let a = c.args in
    absorb-step _ _ (a.a.now ++ a.b.now) _ _ _ _ _ c.loop-i.invariant c.padded.ensures c.plus.ensures c.times-z.ensures

pub returns : goal.returns
returns c =
    let a = c.args in
    absorb-done _ _ a.a.now a.b.now _ _ (omega arith) c.loop-i.invariant

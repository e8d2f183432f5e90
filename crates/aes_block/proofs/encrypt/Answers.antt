-- SPDX-License-Identifier: MIT
-- `aes::encrypt` meets its contract: the loop's invariant: t is the state after r - 1 rounds.
-- Assumes nothing.
use mathlib.Core.Path.{◌≡◌, refl}
use Prim.Native.Nat.{◌+◌, ◌-◌}
use native.Mathlib.Omega.{arith}
use Rattle.aes.specs.Aes.{rounds}
use Rattle.aes.proofs.Expansion.{rounds-step}
use Rattle.aes_block.proofs.Contexts.{enciphered}
use Rattle.aes_block.proofs.encrypt.Goals as goal

pub loop-r-init : goal.loop-r-init
unfolding rounds
loop-r-init c = refl

pub loop-r-preserved : goal.loop-r-preserved
loop-r-preserved c =
    let e : c.loop-r.r - 1 + 1 ≡ c.loop-r.r = omega arith in
    let f : c.loop-r.r + 1 - 1 ≡ c.loop-r.r - 1 + 1 = omega arith in
    rw f (rounds-step _ _ _ _ (c.loop-r.r - 1) c.loop-r.invariant (rw e c.round-t.ensures))

pub returns : goal.returns
returns c =
    enciphered _ _ _ _ _ _ _ _ (c.loop-r.r - 1) c.requires refl (omega arith)
    c.add_round_key-t.ensures c.loop-r.invariant
    c.shift.ensures c.add_round_key.ensures

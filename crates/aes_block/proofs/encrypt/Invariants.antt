-- SPDX-License-Identifier: MIT
-- `aes::encrypt` meets its contract: the loop's invariant: t is the state after r - 1 rounds.
-- Assumes nothing.
use mathlib.Core.Path.{◌≡◌}
use Prim.Native.Nat.{◌-◌}
use Rattle.aes.specs.Aes.{rounds}
use Rattle.aes_block.specs.Inner.Context.{list_of}
use Rattle.aes_block.proofs.encrypt.Given as goal

abbrev pub invariant-loop-r : goal.invariant-loop-r
invariant-loop-r l = list_of l.t ≡ rounds l.ctx (list_of l.initial.t) (l.r - 1)

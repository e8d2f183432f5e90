-- SPDX-License-Identifier: MIT
-- `aes::expand` meets its contract.
-- Assumes nothing.
use mathlib.Core.Path.{◌≡◌}
use lib.ListN.{take}
use Rattle.aes_block.specs.Inner.Context.{Table}
use Rattle.aes_block.proofs.expand.Given as goal

abbrev pub invariant-loop-i : goal.invariant-loop-i
invariant-loop-i l = Table 256 l.ctx × (take l.i l.ctx ≡ take l.i l.w)

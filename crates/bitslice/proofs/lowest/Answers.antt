-- SPDX-License-Identifier: MIT
-- `bitslice::lowest` meets its contract.
-- Assumes nothing.
use mathlib.Core.Path.{refl}
use native.Mathlib.Omega.{arith}
use lib.Bits.{and_le_r}
use Rattle.bitslice.proofs.Spreads.{lowest}
use Rattle.bitslice.proofs.lowest.Goals as goal

pub overflow_mul-result : goal.overflow_mul-result
overflow_mul-result c = omega (arith, and_le_r c.args.w 0x101010101010101)

pub returns : goal.returns
returns c = lowest c.args.w _ refl

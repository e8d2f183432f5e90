-- SPDX-License-Identifier: MIT
-- `ghash::plus` meets its contract: the XOR of the halves is the XOR of the blocks.
-- Assumes nothing.
use native.Mathlib.Omega.{arith}
use Rattle.ghash.proofs.Halving.{pair-sum}
use Rattle.ghash.proofs.plus.Goals as goal

pub returns : goal.returns
returns c =
    let a = c.args in pair-sum a.a.hi a.a.lo a.b.hi a.b.lo (omega arith) (omega arith)

-- SPDX-License-Identifier: MIT
-- `ghash::halved` meets its contract: the bits that fall out are added where R has its four bits.
-- Assumes nothing.
use native.Mathlib.Omega.{arith}
use Rattle.ghash.proofs.Steps.{halved-pair}
use Rattle.ghash.proofs.halved.Goals as goal

pub returns : goal.returns
returns c = halved-pair _ _ (omega arith) (omega arith)

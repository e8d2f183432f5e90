-- SPDX-License-Identifier: MIT
-- `ghash::doubled` meets its contract: the bit on top, which the half has from R, is cleared and comes in below.
-- Assumes nothing.
use native.Mathlib.Omega.{arith}
use Rattle.ghash.proofs.Steps.{top-cleared, double-fits, low_fits, doubled-pair}
use Rattle.ghash.proofs.doubled.Goals as goal

pub overflow_mul-result : goal.overflow_mul-result
overflow_mul-result c = record { fits = omega (arith, top-cleared c.args.h.hi (omega arith)) }

pub overflow_add-result : goal.overflow_add-result
overflow_add-result c =
    let h = c.args.h in
    record { fits = double-fits _ h.lo (top-cleared h.hi (omega arith)) (omega arith) }

pub overflow_add-result-2 : goal.overflow_add-result-2
overflow_add-result-2 c =
    record { fits = low_fits c.args.h.hi c.args.h.lo (omega arith) }

pub returns : goal.returns
returns c =
    doubled-pair c.args.h.hi c.args.h.lo (omega arith) (omega arith)

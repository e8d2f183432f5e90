-- SPDX-License-Identifier: MIT
-- `bitslice::spread` meets its contract.
-- Assumes nothing.
use Rattle.bitslice.proofs.Spreads.{spread}
use Rattle.bitslice.proofs.spread.Goals as goal

pub returns : goal.returns
returns c =
    spread _ _ _ _ _ _ _ _ _ c.lowest.ensures c.lowest-2.ensures
    c.lowest-3.ensures c.lowest-4.ensures c.lowest-5.ensures
    c.lowest-6.ensures c.lowest-7.ensures c.lowest-8.ensures

-- SPDX-License-Identifier: MIT
-- `bitslice::mix` meets its contract.
-- Assumes nothing.
use Rattle.bitslice.proofs.RowSums.{mixed}
use Rattle.bitslice.proofs.mix.Goals as goal

pub returns : goal.returns
returns c =
    mixed _ _ _ _ _ _ _ _ c.double.ensures c.plus.ensures
    c.plus-2.ensures c.plus-3.ensures

-- SPDX-License-Identifier: MIT
-- `bitslice::plus` meets its contract.
-- Assumes nothing.
use Rattle.bitslice.specs.Lanes.{lane_byte}
use Rattle.bitslice.proofs.RowSums.{lanes-xor}
use Rattle.bitslice.proofs.plus.Goals as goal

pub returns : goal.returns
unfolding lane_byte
returns c = record { each = λ j h. lanes-xor j _ _ _ _ _ _ _ _ _ _ _ _ _ _ _ _ }

-- SPDX-License-Identifier: MIT
-- `bitslice::double` meets its contract.
-- Assumes nothing.
use Rattle.bitslice.specs.Lanes.{lane_byte}
use Rattle.bitslice.proofs.RowSums.{lanes_double}
use Rattle.bitslice.proofs.double.Goals as goal

pub returns : goal.returns
unfolding lane_byte
returns c = record { each = λ j h. lanes_double j _ _ _ _ _ _ _ _ }

-- SPDX-License-Identifier: MIT
-- `bitslice::scaled` meets its contract.
-- Assumes nothing.
use borrow.Author.Rules.{rules}
use Rattle.bitslice.specs.Circuit.{scaled}
use Rattle.bitslice.proofs.scaled.Goals as goal

pub returns : goal.returns
unfolding scaled
returns c = search rules

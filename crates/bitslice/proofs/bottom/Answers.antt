-- SPDX-License-Identifier: MIT
-- `bitslice::bottom` meets its contract.
-- Assumes nothing.
use borrow.Author.Rules.{rules}
use Rattle.bitslice.specs.Circuit.{bottom}
use Rattle.bitslice.proofs.bottom.Goals as goal

pub returns : goal.returns
unfolding bottom
returns c = search rules

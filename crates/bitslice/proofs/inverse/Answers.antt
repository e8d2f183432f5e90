-- SPDX-License-Identifier: MIT
-- `bitslice::inverse` meets its contract.
-- Assumes nothing.
use borrow.Author.Rules.{rules}
use Rattle.bitslice.specs.Circuit.{inverse}
use Rattle.bitslice.proofs.inverse.Goals as goal

pub returns : goal.returns
unfolding inverse
returns c = search rules

-- SPDX-License-Identifier: MIT
-- `bitslice::top` meets its contract.
-- Assumes nothing.
use borrow.Author.Rules.{rules}
use Rattle.bitslice.specs.Circuit.{top}
use Rattle.bitslice.proofs.top.Goals as goal

pub returns : goal.returns
unfolding top
returns c = search rules

-- SPDX-License-Identifier: MIT
-- `bitslice::products` meets its contract.
-- Assumes nothing.
use borrow.Author.Rules.{rules}
use Rattle.bitslice.specs.Circuit.{products}
use Rattle.bitslice.proofs.products.Goals as goal

pub returns : goal.returns
unfolding products
returns c = search rules

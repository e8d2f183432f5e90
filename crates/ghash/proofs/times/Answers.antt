-- SPDX-License-Identifier: MIT
-- `ghash::times` meets its contract: nine products of 32 bits are three of 64, and those the product of the blocks.
-- Assumes nothing.
use Rattle.ghash.proofs.Steps.{multiplied}
use borrow.Author.Rules.{rules}
use Rattle.ghash.proofs.times.Goals as goal

pub returns : goal.returns
returns c =
    multiplied c.args.x.hi c.args.x.lo c.args.t.now c.products-p.result (search rules) c.requires c.products-p.ensures _ _ _ _
    c.join.ensures c.join-2.ensures c.join-3.ensures c.reduced.ensures

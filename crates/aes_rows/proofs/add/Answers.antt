-- SPDX-License-Identifier: MIT
-- `aes_rows::add` meets its contract.
-- Assumes nothing.
use borrow.Author.Rules.{rules}
use Rattle.aes_rows.specs.Rows.{Adding}
use Rattle.aes_rows.proofs.Sets.{each_as}
use Rattle.aes_rows.proofs.add.Goals as goal

pub returns : goal.returns
returns c = each_as _ (Adding c.args.k.now) _ _ _ (λ s a b h k. search rules) c.each_row.ensures

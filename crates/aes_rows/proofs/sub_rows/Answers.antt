-- SPDX-License-Identifier: MIT
-- `aes_rows::sub_rows` meets its contract.
-- Assumes nothing.
use borrow.Author.Rules.{rules}
use Rattle.aes_rows.specs.Rows.{Substituting}
use Rattle.aes_rows.proofs.Sets.{each_as}
use Rattle.aes_rows.proofs.sub_rows.Goals as goal

pub returns : goal.returns
returns c = each_as _ Substituting _ _ _ (λ s a b h k. search rules) c.each_row.ensures

-- SPDX-License-Identifier: MIT
-- `aes_batch::clear_first` meets its contract.
-- Assumes nothing.
use borrow.Author.Rules.{rules}
use Rattle.aes_rows.proofs.Sets.{each_as}
use Rattle.aes_batch.specs.Inner.Batch.{Clearing}
use Rattle.aes_batch.proofs.clear_first.Goals as goal

pub returns : goal.returns
returns c = each_as _ Clearing _ _ _ (λ s a b h k. search rules) c.each_row.ensures

-- SPDX-License-Identifier: MIT
use Rattle.aes_rows.specs.Rows.{row_at}
use borrow.Author.Rules.{rules}
use Rattle.aes_rows.proofs.load_row.Goals as goal

pub returns : goal.returns
unfolding row_at
returns c = search rules

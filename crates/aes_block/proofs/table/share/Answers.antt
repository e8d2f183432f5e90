-- SPDX-License-Identifier: MIT
-- `aes_block::table::share` meets its contract.
-- Assumes nothing.
use Rattle.aes.proofs.Words.{s_box-lt}
use Rattle.aes_block.proofs.Rounds.{look}
use Rattle.aes_block.proofs.table.share.Goals as goal

pub returns : goal.returns
returns c = rw (c.low.ensures, c.entry.ensures, c.byte_of.ensures) (look _ (s_box-lt _) c.args.i c.requires)

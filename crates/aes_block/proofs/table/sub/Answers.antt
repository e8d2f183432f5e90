-- SPDX-License-Identifier: MIT
-- `aes::table::sub` meets its contract: the table's entry has the byte in its second place.
-- Assumes nothing.
use Rattle.aes_tables.specs.Field.{s_box}
use Rattle.aes.proofs.Words.{s_box-lt}
use Rattle.aes_block.proofs.Rounds.{second-byte}
use Rattle.aes_block.proofs.table.sub.Goals as goal

pub returns : goal.returns
returns c = rw c.entry.ensures (second-byte (s_box c.args.x) (s_box-lt c.args.x))

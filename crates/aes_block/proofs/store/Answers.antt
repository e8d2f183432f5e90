-- SPDX-License-Identifier: MIT
-- `aes::store` meets its contract: the four words, one after the other, are the block.
-- Assumes nothing.
use Rattle.aes_block.proofs.Blocks.{stored}
use Rattle.aes_block.proofs.store.Goals as goal

pub returns : goal.returns
returns c =
    stored _ _ _ _ _ _ _ _ _ c.requires c.put.ensures c.put-2.ensures
    c.put-3.ensures c.put-4.ensures

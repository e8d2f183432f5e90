-- SPDX-License-Identifier: MIT
-- `aes::encrypt_block` meets its contract: the block is read, encrypted and written.
-- Assumes nothing.
use Rattle.aes.specs.Aes.{encrypt}
use Rattle.aes_block.proofs.encrypt_block.Goals as goal

pub returns : goal.returns
unfolding encrypt
returns c = cc

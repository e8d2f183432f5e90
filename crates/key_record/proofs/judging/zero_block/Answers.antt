-- SPDX-License-Identifier: MIT
use Rattle.key_record.proofs.Zeros.{block-told}
use Rattle.key_record.proofs.judging.zero_block.Goals as goal

pub returns : goal.returns
returns c = block-told _ _ _ c.requires c.is_zero.ensures

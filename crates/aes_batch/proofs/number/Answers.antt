-- SPDX-License-Identifier: MIT
use Rattle.aes_batch.proofs.Counting.{numbered}
use Rattle.aes_batch.proofs.number.Goals as goal

pub returns : goal.returns
returns c =
    numbered _ _ _ _ c.load_row.ensures c.plus-p.ensures c.store_row.ensures

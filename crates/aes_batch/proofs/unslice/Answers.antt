-- SPDX-License-Identifier: MIT
use Rattle.aes_batch.proofs.Unslicing.{unsliced}
use Rattle.aes_batch.proofs.unslice.Goals as goal

pub returns : goal.returns
returns c =
    unsliced _ _ _ _ c.transpose.ensures c.gather.ensures c.write.ensures

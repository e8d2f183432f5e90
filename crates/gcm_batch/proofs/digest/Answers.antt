-- SPDX-License-Identifier: MIT
-- `gcm_batch::digest` meets its contract: the two parts, the ciphertext and the lengths are hashed as the definition says.
-- Assumes nothing.
use Rattle.gcm.proofs.Laws.{hashed}
use Rattle.gcm_batch.proofs.digest.Goals as goal

pub returns : goal.returns
returns c =
    let a = c.args in
    hashed _ a.header.now a.metadata.now a.ciphertext.now _ _ _ _ c.absorb-aad.ensures c.absorb-y.ensures c.plus.ensures c.times.ensures

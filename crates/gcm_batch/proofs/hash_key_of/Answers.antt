-- SPDX-License-Identifier: MIT
use Rattle.gcm_batch.proofs.Tags.{hash-key-made, first-sized}
use Rattle.gcm_batch.proofs.hash_key_of.Goals as goal

pub load-requires : goal.load-requires
load-requires c = first-sized _ c.args.f.now c.requires

pub returns : goal.returns
returns c = hash-key-made _ c.args.f.now _ _ c.requires c.load.ensures c.expand.ensures

-- SPDX-License-Identifier: MIT
use Rattle.aes_batch.proofs.Streams.{fronted}
use Rattle.aes_batch.proofs.front.Goals as goal

pub returns : goal.returns
returns c =
    fronted _ _ _ _ _ _ _ c.requires.1 c.ranges.count.fits c.requires.2 c.counters.ensures c.clear_first.ensures
    c.encrypt.ensures c.unslice.ensures

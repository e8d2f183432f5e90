-- SPDX-License-Identifier: MIT
use Rattle.aes_batch.proofs.Streams.{streamed}
use Rattle.aes_batch.proofs.stream.Goals as goal

pub returns : goal.returns
returns c =
    streamed _ _ _ _ _ _ c.requires.1 c.ranges.count.fits c.requires.2 c.counters.ensures c.encrypt.ensures c.unslice.ensures

-- SPDX-License-Identifier: MIT
use Rattle.aes_batch.proofs.Counting.{cleared}
use Rattle.aes_batch.proofs.without_first.Goals as goal

pub returns : goal.returns
returns c = cleared _

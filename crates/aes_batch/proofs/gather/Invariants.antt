-- SPDX-License-Identifier: MIT
use Rattle.aes_batch.specs.Inner.Batch.{Gathered}
use Rattle.aes_batch.proofs.gather.Given as goal

abbrev pub invariant-loop-i : goal.invariant-loop-i
invariant-loop-i l = Gathered l.i l.q l.w

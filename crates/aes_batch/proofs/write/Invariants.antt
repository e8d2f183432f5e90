-- SPDX-License-Identifier: MIT
use mathlib.Core.Path.{◌≡◌}
use lib.ListN.{length}
use Rattle.octets.specs.Octets.{pasted}
use Rattle.aes_batch.specs.Inner.Batch.{batch_size, word_bytes}
use Rattle.aes_batch.proofs.write.Given as goal

abbrev pub invariant-loop-i : goal.invariant-loop-i
invariant-loop-i l = (length l.out ≡ batch_size) × (l.out ≡ pasted l.initial.out 0 (word_bytes l.i l.q))

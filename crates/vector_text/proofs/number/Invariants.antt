-- SPDX-License-Identifier: MIT
use Rattle.std.proofs.Common.{◌≡◌, length}
use Rattle.vector_text.specs.Text.{number, after_number}
use Rattle.vector_text.proofs.number.Given as goal

abbrev pub invariant-loop-b : goal.invariant-loop-b
invariant-loop-b l = (number l.value l.rest ≡ number 0 l.fn.text) × (after_number l.rest ≡ after_number l.fn.text)

abbrev pub decreases-loop-b : goal.decreases-loop-b
decreases-loop-b l = length l.rest

-- SPDX-License-Identifier: MIT
use Rattle.std.proofs.Common.{◌≡◌, ◌++◌, ◌-◌, length, take}
use Rattle.vector_text.specs.Text.{spelt}
use Rattle.vector_text.proofs.bytes.Given as goal

abbrev pub invariant-loop-place : goal.invariant-loop-place
invariant-loop-place l = record {
  count : l.filled ≡ l.place-index;
  so_far : take l.place-index l.room ++ spelt (length l.room - l.place-index) l.rest ≡ spelt (length l.room) l.fn.text;
}

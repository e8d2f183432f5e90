-- SPDX-License-Identifier: MIT
use Rattle.std.proofs.Common.{◌≡◌, ◌*◌, List, ℕ, length, take}
use Rattle.sha2_common.specs.Sha2.{words}
use Rattle.sha2_common.specs.Inner.Rounds.{Halfway}
use Rattle.sha2_common.specs.Inner.Words.{words_of}
use Rattle.sha2_common.proofs.rounds.first_rounds.Given as goal

abbrev pub invariant-loop-i : goal.invariant-loop-i
invariant-loop-i g l =
    let m = g.W.Word in
    (length (m.listed l.w) ≡ m.TURNS)
    × ((b : List ℕ) → take 16 (m.listed l.initial.w) ≡ words m.params 16 b → Halfway m.params b (words_of m.value l.initial.v) (4 * l.i) (m.listed l.w) (words_of m.value l.v))

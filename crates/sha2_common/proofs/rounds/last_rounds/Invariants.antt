-- SPDX-License-Identifier: MIT
use Rattle.std.proofs.Common.{◌≡◌, ◌+◌, ◌-◌, ◌*◌, List, ℕ}
use Rattle.sha2_common.specs.Sha2.{rounds}
use Rattle.sha2_common.specs.Inner.Words.{words_of}
use Rattle.sha2_common.proofs.rounds.last_rounds.Given as goal

abbrev pub invariant-loop-i : goal.invariant-loop-i
invariant-loop-i g l =
    let m = g.W.Word in
    (h : List ℕ) → words_of m.value l.initial.v ≡ rounds m.params (m.listed l.w) (m.TURNS - 16) h → words_of m.value l.v ≡ rounds m.params (m.listed l.w) (m.TURNS - 16 + 4 * l.i) h

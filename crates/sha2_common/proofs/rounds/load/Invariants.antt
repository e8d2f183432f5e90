-- SPDX-License-Identifier: MIT
use Rattle.std.proofs.Common.{◌≡◌, length, take}
use Rattle.sha2_common.specs.Sha2.{words}
use Rattle.sha2_common.proofs.rounds.load.Given as goal

abbrev pub invariant-loop-i : goal.invariant-loop-i
invariant-loop-i g l =
    let m = g.W.Word in
    (length (m.listed l.w) ≡ m.TURNS) × (take l.i (m.listed l.w) ≡ words m.params l.i l.block)

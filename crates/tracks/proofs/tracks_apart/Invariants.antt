-- SPDX-License-Identifier: MIT
use Rattle.tracks.proofs.Walk.{Judging}
use Rattle.tracks.proofs.tracks_apart.Given as goal

abbrev pub invariant-loop-i : goal.invariant-loop-i
invariant-loop-i l = Judging l.store l.i

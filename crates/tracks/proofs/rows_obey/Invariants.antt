-- SPDX-License-Identifier: MIT
use Rattle.tracks.proofs.Walk.{Obeying}
use Rattle.tracks.proofs.rows_obey.Given as goal

abbrev pub invariant-loop-i : goal.invariant-loop-i
invariant-loop-i l = Obeying l.store l.i

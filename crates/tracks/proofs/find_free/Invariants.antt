-- SPDX-License-Identifier: MIT
use Rattle.tracks.proofs.Walk.{NoneFree}
use Rattle.tracks.proofs.find_free.Given as goal

abbrev pub invariant-loop-i : goal.invariant-loop-i
invariant-loop-i l = NoneFree l.store l.i

-- SPDX-License-Identifier: MIT
use Rattle.pair_log.proofs.Gathering.{Gathered}
use Rattle.pair_log.proofs.gather.Given as goal

abbrev pub invariant-loop-i : goal.invariant-loop-i
invariant-loop-i l = Gathered l.log l.n l.count l.i l.found

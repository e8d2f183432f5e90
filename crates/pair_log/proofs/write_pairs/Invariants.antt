-- SPDX-License-Identifier: MIT
use Rattle.pair_log.proofs.Writing.{Lining}
use Rattle.pair_log.proofs.write_pairs.Given as goal

abbrev pub invariant-loop-i : goal.invariant-loop-i
invariant-loop-i l = Lining l.initial.out l.at l.pairs l.out l.i

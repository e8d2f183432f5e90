-- SPDX-License-Identifier: MIT
use Rattle.pair_log.proofs.Writing.{Spelling}
use Rattle.pair_log.proofs.write_digits.Given as goal

abbrev pub invariant-loop-i : goal.invariant-loop-i
invariant-loop-i l = Spelling l.base l.x l.initial.out l.out l.rest l.i

-- SPDX-License-Identifier: MIT
use Rattle.pair_log.specs.Inner.Listed.{value}
use Rattle.pair_log.proofs.Gathering.{Searching}
use Rattle.pair_log.proofs.stands.Given as goal

abbrev pub invariant-loop-i : goal.invariant-loop-i
invariant-loop-i l = Searching (value l.pair) l.log l.n l.i

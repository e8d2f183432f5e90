-- SPDX-License-Identifier: MIT
use Rattle.change_epoch.proofs.Bytes.{Gathered}
use Rattle.change_epoch.proofs.gather.Given as goal

abbrev pub invariant-loop-i : goal.invariant-loop-i
invariant-loop-i l = Gathered l.e l.bits l.initial.store l.store l.to l.i

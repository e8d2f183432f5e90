-- SPDX-License-Identifier: MIT
use Rattle.ratchet.proofs.Steps.{Walking}
use Rattle.ratchet.proofs.take_steps.Given as goal

abbrev pub invariant-loop : goal.invariant-loop
invariant-loop l = Walking l.suite l.base l.steps l.out l.counter

-- SPDX-License-Identifier: MIT
-- `aes_keys::expand` meets its contract: the round keys before r are there.
-- Assumes nothing.
use Rattle.aes_keys.specs.Inner.Keys.{RoundKeys}
use Rattle.aes_keys.proofs.expand.Given as goal

abbrev pub invariant-loop-r : goal.invariant-loop-r
invariant-loop-r l = RoundKeys l.key l.r l.ctx

-- SPDX-License-Identifier: MIT
-- `aes::schedule::take_key` meets its contract.
-- Assumes nothing.
use mathlib.Core.Path.{◌≡◌}
use lib.ListN.{length, take}
use Rattle.aes.specs.Aes.{expansion}
use Rattle.aes.proofs.schedule.take_key.Given as goal

abbrev pub invariant-loop-i : goal.invariant-loop-i
invariant-loop-i l = (length l.x ≡ 60) × (take l.i l.x ≡ expansion l.nk l.key l.i)

-- SPDX-License-Identifier: MIT
use mathlib.Core.Path.{◌≡◌}
use Prim.Native.Nat.{◌≤◌}
use lib.ListN.{length, take, replicate}
use Rattle.key_record.proofs.judging.is_zero.Given as goal

abbrev pub invariant-loop-x : goal.invariant-loop-x
invariant-loop-x l = (l.x-index ≤ length l.b) × (l.any ≡ 0 → replicate l.x-index 0 ≡ take l.x-index l.b) × (replicate l.x-index 0 ≡ take l.x-index l.b → l.any ≡ 0)

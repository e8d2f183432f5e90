-- SPDX-License-Identifier: MIT
-- `ghash::gather` meets its contract: the loop's invariant: the first k bytes are those from index i on.
-- Assumes nothing.
use mathlib.Core.Path.{◌≡◌}
use mathlib.Core.List.{◌++◌}
use Prim.Native.Nat.{ℕ, ◌<◌}
use lib.ListN.{length, get_or, drop}
use Rattle.ghash.proofs.gather.Given as goal

abbrev pub invariant-loop-k : goal.invariant-loop-k
invariant-loop-k l = (length l.out ≡ 16) × ((j : ℕ) → j < l.k → get_or l.out j 0 ≡ get_or (drop l.i (l.a ++ l.b)) j 0)

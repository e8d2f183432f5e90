-- SPDX-License-Identifier: MIT
-- `ghash::absorb` meets its contract: the loop's invariant: z is the hash after i blocks.
-- Assumes nothing.
use mathlib.Core.Path.{◌≡◌}
use mathlib.Core.List.{◌++◌}
use Rattle.ghash.specs.Ghash.{absorb_blocks}
use Rattle.ghash.specs.Inner.HashKey.{value_of, hash_key_of}
use Rattle.ghash.proofs.absorb.Given as goal

abbrev pub invariant-loop-i : goal.invariant-loop-i
invariant-loop-i l = value_of l.z ≡ absorb_blocks (hash_key_of l.t) (value_of l.initial.z) (l.a ++ l.b) l.i

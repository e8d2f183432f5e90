-- SPDX-License-Identifier: MIT
-- The rule of the round constants, carried to each entry by one test over the whole table.
-- Assumes nothing.
use mathlib.Core.Path.{◌≡◌}
use mathlib.Core.Bool.{Bool}
use mathlib.Core.List.{List}
use Prim.Native.Nat.{ℕ, ◌<◌}
use native.Mathlib.Omega.{arith}
use lib.Dec.{T, eqb, eqb→eq}
use lib.ListN.{length, get_or}
use Rattle.aes_tables.specs.Field.{x_power}
use Rattle.aes_tables.specs.Inner.Tables.{RconTable}
use Rattle.octets.proofs.Entries.{all, entry-rule}

-- Entry k is x^k.
abbrev pub is_power : ℕ → ℕ → Bool
is_power k x = eqb x (x_power k)

pub power-entry : (l : List ℕ) → T (all is_power 0 l) → (k : ℕ) → k < length l → get_or l k 0 ≡ x_power k
power-entry l t k h = eqb→eq _ _ (entry-rule is_power l t k h)

pub rcon-table : (l : List ℕ) → T (all is_power 0 l) → length l ≡ 10 → RconTable l
rcon-table l t e = record { sized = e; entry = λ k h. power-entry l t k (omega arith) }

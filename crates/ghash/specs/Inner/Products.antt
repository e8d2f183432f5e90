-- SPDX-License-Identifier: MIT
-- Inner: what the steps of a product of blocks yield.
-- Assumes nothing.
use Rattle.std.specs.Prelude.{◌≡◌, List, ℕ, zero, suc, ◌<◌, length, get_or}
use Rattle.clmul.specs.Clmul.{clmul}
use Rattle.ghash.specs.Ghash.{halve}

-- v halved n times.
unfoldable pub halves : (n v : ℕ) → ℕ
halves zero v = v
halves (suc n) v = halve (halves n v)

-- The factors of 32 bits of a block.
abbrev pub factors : ℕ
factors = 9

-- The array p has the products of the first n elements of f and t.
pub record Products (f t : List ℕ) (n : ℕ) (p : List ℕ) : Type 0 where
  pub sized : length p ≡ factors
  pub entry : (i : ℕ) → i < n → get_or p i 0 ≡ clmul 32 (get_or f i 0) (get_or t i 0)

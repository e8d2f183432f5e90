-- SPDX-License-Identifier: MIT
-- Inner: what the contracts of the two tables cite. A list is the table when each entry obeys its rule.
-- Assumes nothing.
use Rattle.std.specs.Prelude.{◌≡◌, List, ℕ, ◌<◌, length, get_or}
use Rattle.aes_tables.specs.Field.{s_box, x_power}

-- FIPS 197 §5.1.1, Table 4: a list is the S-box as a table.
pub record SBoxTable (l : List ℕ) : Type 0 where
  pub sized : length l ≡ 256
  pub entry : (x : ℕ) → x < 256 → get_or l x 0 ≡ s_box x

-- FIPS 197 §5.2, Table 5: a list is the first bytes of the round constants, from Rcon[1] on.
pub record RconTable (l : List ℕ) : Type 0 where
  pub sized : length l ≡ 10
  pub entry : (k : ℕ) → k < 10 → get_or l k 0 ≡ x_power k

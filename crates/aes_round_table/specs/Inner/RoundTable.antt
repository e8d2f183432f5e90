-- SPDX-License-Identifier: MIT
-- Inner: what the contract of the table of the rounds cites.
-- Assumes nothing.
use Rattle.std.specs.Prelude.{◌≡◌, List, ℕ, ◌+◌, ◌*◌, ◌^◌, ◌<◌, length, get_or}
use Rattle.aes_tables.specs.Field.{mul, s_box}

-- FIPS 197 §5.1.3: MixColumns of the column s, 0, 0, 0, as a word whose first byte is the highest.
unfoldable pub mixed_first : ℕ → ℕ
mixed_first s = ((mul 2 s * 256 + s) * 256 + s) * 256 + mul 3 s

-- A word twice over: 32 bits of it, from a byte's boundary on, are the word turned by bytes.
unfoldable pub twice : ℕ → ℕ
twice w = w * 2 ^ 32 + w

-- The table's entry for x, of SubBytes of x.
abbrev pub entry_of : ℕ → ℕ
entry_of x = twice (mixed_first (s_box x))

-- A list is the table, behind zeros.
pub record RoundTable (l : List ℕ) : Type 0 where
  pub sized : length l ≡ 320
  pub room : (i : ℕ) → i < 64 → get_or l i 0 ≡ 0
  pub entry : (x : ℕ) → x < 256 → get_or l (64 + x) 0 ≡ entry_of x

-- SPDX-License-Identifier: MIT
-- ShiftRows, MixColumns and AddRoundKey on rows of planes.
-- Assumes nothing.
use Rattle.std.specs.Prelude.{◌≡◌, List, ℕ, ◌+◌, ◌*◌, ◌-◌, ◌%◌, ◌<◌, length}
use Rattle.std.specs.Int.Bits.{bit_xor}
use Rattle.aes_tables.specs.Field.{mul}
use Rattle.bitslice.specs.declared.Planes.{Planes}
use Rattle.bitslice.specs.Lanes.{lane_byte, Sum, Mixed, Turned}
use Rattle.aes_rows.specs.declared.State.{State}
use Rattle.aes_rows.specs.Rows.{row_at}

-- ShiftRows: row r moves r columns of 16 lanes up.
pub record Shifted (q : List ℕ) (s : State) : Type 0 where
  pub r0 : s.r0 ≡ row_at q 0
  pub r1 : Turned 48 (row_at q 1) s.r1
  pub r2 : Turned 32 (row_at q 2) s.r2
  pub r3 : Turned 16 (row_at q 3) s.r3

-- t is q with row r mixed, and its key added.
pub record RowMixed (q k : List ℕ) (r : ℕ) (s b v : Planes) (t : List ℕ) : Type 0 where
  pub sized : length t ≡ 32
  pub same : Mixed s b v (row_at k r) (row_at t r)
  pub others : (i : ℕ) → i < 4 → (i ≡ r → ⊥) → row_at t i ≡ row_at q i

-- t is q with a and the key as row r.
pub record RowAdded (q k : List ℕ) (r : ℕ) (a : Planes) (t : List ℕ) : Type 0 where
  pub sized : length t ≡ 32
  pub same : Sum a (row_at k r) (row_at t r)
  pub others : (i : ℕ) → i < 4 → (i ≡ r → ⊥) → row_at t i ≡ row_at q i

-- The byte of row r in a lane, and the one that ShiftRows brings there.
abbrev pub byte_at : List ℕ → ℕ → ℕ → ℕ
byte_at q r j = lane_byte j (row_at q r)

abbrev pub shifted_at : List ℕ → ℕ → ℕ → ℕ
shifted_at q r j = byte_at q r ((64 - 16 * r + j) % 64)

-- A byte of MixColumns, of a column's bytes from its own row on, and of AddRoundKey.
abbrev pub mix_of : (a b c d k : ℕ) → ℕ
mix_of a b c d k = bit_xor (bit_xor (bit_xor (bit_xor (mul 2 a) (mul 3 b)) c) d) k

pub record AllMixed (q k t : List ℕ) : Type 0 where
  pub sized : length t ≡ 32
  pub row0 : (j : ℕ) → j < 64 → byte_at t 0 j ≡ mix_of (byte_at q 0 j) (shifted_at q 1 j) (shifted_at q 2 j) (shifted_at q 3 j) (byte_at k 0 j)
  pub row1 : (j : ℕ) → j < 64 → byte_at t 1 j ≡ mix_of (shifted_at q 1 j) (shifted_at q 2 j) (shifted_at q 3 j) (byte_at q 0 j) (byte_at k 1 j)
  pub row2 : (j : ℕ) → j < 64 → byte_at t 2 j ≡ mix_of (shifted_at q 2 j) (shifted_at q 3 j) (byte_at q 0 j) (shifted_at q 1 j) (byte_at k 2 j)
  pub row3 : (j : ℕ) → j < 64 → byte_at t 3 j ≡ mix_of (shifted_at q 3 j) (byte_at q 0 j) (shifted_at q 1 j) (shifted_at q 2 j) (byte_at k 3 j)

pub record AllShifted (q k t : List ℕ) : Type 0 where
  pub sized : length t ≡ 32
  pub row0 : (j : ℕ) → j < 64 → byte_at t 0 j ≡ bit_xor (byte_at q 0 j) (byte_at k 0 j)
  pub row1 : (j : ℕ) → j < 64 → byte_at t 1 j ≡ bit_xor (shifted_at q 1 j) (byte_at k 1 j)
  pub row2 : (j : ℕ) → j < 64 → byte_at t 2 j ≡ bit_xor (shifted_at q 2 j) (byte_at k 2 j)
  pub row3 : (j : ℕ) → j < 64 → byte_at t 3 j ≡ bit_xor (shifted_at q 3 j) (byte_at k 3 j)

-- SPDX-License-Identifier: MIT
-- Inner: sixteen blocks at once, as contracts of the code cite them. Other crates cite `Blocks` with `counters_of` or `front_of`.
-- Assumes nothing.
use Rattle.std.specs.Prelude.{◌≡◌, List, [], ◌∷◌, ◌++◌, ℕ, zero, suc, ◌+◌, ◌*◌, ◌/◌, ◌%◌, ◌^◌, ◌<◌, ◌≤◌, eqb, length, get_or, take, drop, replicate}
use Rattle.std.specs.Int.Bits.{bit_xor}
use Rattle.octets.specs.Octets.{number, bytes, pick}
use Rattle.aes.specs.Aes.{block_size, encrypt_state, block_of, encrypt}
use Rattle.bitslice.specs.declared.Planes.{Planes}
use Rattle.bitslice.specs.Lanes.{lane_byte}
use Rattle.bit_transpose.specs.Transposition.{column, Transposed}
use Rattle.aes_rows.specs.Rows.{row_at}
use Rattle.aes_rows.specs.Blocks.{state}

-- The blocks of a batch, and their bytes.
abbrev pub batch_blocks : ℕ
batch_blocks = 16

abbrev pub batch_size : ℕ
batch_size = block_size * batch_blocks

-- The lane of block m in each column, and the number of the block in lane l.
abbrev pub lane_of : ℕ → ℕ
lane_of m = 8 * (m % 2) + m / 2

abbrev pub number_of : ℕ → ℕ
number_of l = 2 * (l % 8) + l / 8

-- A row that has in each lane of the last column the number of the block, and else 0.
pub record Numbers (n : Planes) : Type 0 where
  pub last : (l : ℕ) → l < 16 → lane_byte l n ≡ number_of l
  pub others : (j : ℕ) → 16 ≤ j → j < 64 → lane_byte j n ≡ 0

-- Those numbers are added to the last row.
pub record Numbered (q t : List ℕ) : Type 0 where
  pub sized : length t ≡ 32
  pub same : (s : ℕ) → s < 3 → row_at t s ≡ row_at q s
  pub last : (l : ℕ) → l < 16 → lane_byte l (row_at t 3) ≡ bit_xor (lane_byte l (row_at q 3)) (number_of l)
  pub others : (j : ℕ) → 16 ≤ j → j < 64 → lane_byte j (row_at t 3) ≡ lane_byte j (row_at q 3)

-- The state in lane l is that of the counter block of its number.
pub record Counters (nonce : List ℕ) (count : ℕ) (q : List ℕ) : Type 0 where
  pub sized : length q ≡ 32
  pub each : (l : ℕ) → l < 16
      → state q l ≡ number 4 nonce ∷ number 4 (drop 4 nonce) ∷ number 4 (drop 8 nonce) ∷ (count + number_of l) ∷ []

-- The lanes of block 0 are cleared.
pub record Cleared (a b : Planes) : Type 0 where
  pub each : (j : ℕ) → j < 64 → lane_byte j b ≡ pick (eqb (j % 16) 0) 0 (lane_byte j a)

abbrev pub Clearing : ℕ → Planes → Planes → Type 0
Clearing s a b = Cleared a b

-- Each state is encrypted.
pub record Encrypted (key q t : List ℕ) : Type 0 where
  pub sized : length t ≡ 32
  pub each : (l : ℕ) → l < 16 → state t l ≡ encrypt_state key (state q l)

abbrev pub Transposing : ℕ → Planes → Planes → Type 0
Transposing s a b = Transposed a b

-- Of word i of each of four rows of bytes: two columns of a block. And the words of the first n pairs of blocks.
abbrev pub half : (q : List ℕ) (i k : ℕ) → ℕ
half q i k =
    column (k + 2) (get_or q i 0) (get_or q (8 + i) 0) (get_or q (16 + i) 0) (get_or q (24 + i) 0) * 2 ^ 32
    + column k (get_or q i 0) (get_or q (8 + i) 0) (get_or q (16 + i) 0) (get_or q (24 + i) 0)

pub record Gathered (n : ℕ) (q t : List ℕ) : Type 0 where
  pub sized : length t ≡ 32
  pub even-first : (i : ℕ) → i < n → get_or t (4 * i) 0 ≡ half q i 4
  pub even-second : (i : ℕ) → i < n → get_or t (4 * i + 1) 0 ≡ half q i 0
  pub odd-first : (i : ℕ) → i < n → get_or t (4 * i + 2) 0 ≡ half q i 5
  pub odd-second : (i : ℕ) → i < n → get_or t (4 * i + 3) 0 ≡ half q i 1

-- The bytes of the first n words.
unfoldable pub word_bytes : ℕ → List ℕ → List ℕ
word_bytes zero q = []
word_bytes (suc n) q = word_bytes n q ++ bytes 8 (get_or q n 0)

-- Block m of a list of bytes.
abbrev pub block_at : List ℕ → ℕ → List ℕ
block_at l m = take 16 (drop (16 * m) l)

-- The bytes of the sixteen states.
pub record Unsliced (q l : List ℕ) : Type 0 where
  pub sized : length l ≡ 256
  pub each : (m : ℕ) → m < 16 → block_at l m ≡ block_of (state q (lane_of m))

-- Sixteen blocks, encrypted.
pub record Blocks (key : List ℕ) (f : ℕ → List ℕ) (l : List ℕ) : Type 0 where
  pub sized : length l ≡ 256
  pub each : (m : ℕ) → m < 16 → block_at l m ≡ encrypt key (f m)

-- The counter blocks of a nonce from a block count on, and those of which the first is the block of zeros.
abbrev pub counters_of : (nonce : List ℕ) (count : ℕ) → ℕ → List ℕ
counters_of nonce count m = nonce ++ bytes 4 (count + m)

abbrev pub front_of : (nonce : List ℕ) (count : ℕ) → ℕ → List ℕ
front_of nonce count zero = replicate 16 0
front_of nonce count (suc m) = nonce ++ bytes 4 (count + suc m)

-- SPDX-License-Identifier: MIT
-- Bits and bytes that change places between words.
-- Assumes nothing.
use Rattle.std.specs.Prelude.{◌≡◌, List, [], ◌∷◌, ℕ, ◌+◌, ◌*◌, ◌-◌, ◌/◌, ◌%◌, ◌^◌, ◌<◌, ◌≤◌, get_or}
use Rattle.bitslice.specs.declared.Planes.{Planes}
use Rattle.bitslice.specs.Lanes.{lane, lane_byte}

-- Byte b of a word, 0 the lowest.
unfoldable pub octet : ℕ → ℕ → ℕ
octet b w = w / 2 ^ (8 * b) % 256

-- The words of a row of planes.
abbrev pub words_of : Planes → List ℕ
words_of q = q.p0 ∷ q.p1 ∷ q.p2 ∷ q.p3 ∷ q.p4 ∷ q.p5 ∷ q.p6 ∷ q.p7 ∷ []

-- The bytes in place k of four words, as a word whose first byte is the highest.
unfoldable pub column : (k r0 r1 r2 r3 : ℕ) → ℕ
column k r0 r1 r2 r3 = ((octet k r0 * 256 + octet k r1) * 256 + octet k r2) * 256 + octet k r3

-- A mask of n ones, n zeros and so on.
pub record Mask (n m : ℕ) : Type 0 where
  pub lanes : (j : ℕ) → j < 64 → lane j m ≡ 1 - j / n % 2
  pub down : (j : ℕ) → j / n % 2 ≡ 1 → (n ≤ j) × ((j - n) / n % 2 ≡ 0)
  pub above : (j : ℕ) → n ≤ j → j / n % 2 ≡ 0 → (j - n) / n % 2 ≡ 1

-- Of each 2 n bits, the upper n of a and the lower n of b have changed places: x and y were a and b.
pub record Swapped (n a b x y : ℕ) : Type 0 where
  pub low-a : (j : ℕ) → j < 64 → j / n % 2 ≡ 0 → lane j x ≡ lane j a
  pub high-a : (j : ℕ) → j < 64 → j / n % 2 ≡ 1 → lane j x ≡ lane (j - n) b
  pub low-b : (j : ℕ) → j < 64 → j / n % 2 ≡ 0 → lane j y ≡ lane (n + j) a
  pub high-b : (j : ℕ) → j < 64 → j / n % 2 ≡ 1 → lane j y ≡ lane j b
  pub small : (x < 2 ^ 64) × (y < 2 ^ 64)

-- Byte b of word i is that of lane 8 b + i.
pub record Transposed (q r : Planes) : Type 0 where
  pub each : (i b : ℕ) → i < 8 → b < 8 → octet b (get_or (words_of r) i 0) ≡ lane_byte (8 * b + i) q

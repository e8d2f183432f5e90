-- SPDX-License-Identifier: MIT
-- Eight words as 64 lanes, each a byte: bit i of lane j is bit j of word i.
-- Assumes nothing.
use Rattle.std.specs.Prelude.{◌≡◌, ℕ, ◌+◌, ◌*◌, ◌/◌, ◌%◌, ◌^◌, ◌<◌}
use Rattle.std.specs.Int.Bits.{bit_xor}
use Rattle.aes_tables.specs.Field.{x_times, s_box}
use Rattle.bitslice.specs.declared.Planes.{Planes}

-- Bit j of a word.
unfoldable pub lane : ℕ → ℕ → ℕ
lane j w = w / 2 ^ j % 2

-- The byte of eight bits, the highest first.
unfoldable pub byte_of : (a b c d e f g h : ℕ) → ℕ
byte_of a b c d e f g h = ((((((a * 2 + b) * 2 + c) * 2 + d) * 2 + e) * 2 + f) * 2 + g) * 2 + h

-- The byte in lane j.
unfoldable pub lane_byte : ℕ → Planes → ℕ
lane_byte j q =
    byte_of (lane j q.p7) (lane j q.p6) (lane j q.p5) (lane j q.p4)
    (lane j q.p3) (lane j q.p2) (lane j q.p1) (lane j q.p0)

-- In each lane the S-box's value.
pub record Substituted (q r : Planes) : Type 0 where
  pub each : (j : ℕ) → j < 64 → lane_byte j r ≡ s_box (lane_byte j q)

-- In each lane the sum.
pub record Sum (a b r : Planes) : Type 0 where
  pub each : (j : ℕ) → j < 64 → lane_byte j r ≡ bit_xor (lane_byte j a) (lane_byte j b)

-- In each lane the product with x.
pub record Doubled (a r : Planes) : Type 0 where
  pub each : (j : ℕ) → j < 64 → lane_byte j r ≡ x_times (lane_byte j a)

-- In each lane the sum of s times x, b, t and k.
pub record Mixed (s b t k r : Planes) : Type 0 where
  pub each : (j : ℕ) → j < 64
      → lane_byte j r ≡ bit_xor (bit_xor (x_times (lane_byte j s)) (lane_byte j b)) (bit_xor (lane_byte j t) (lane_byte j k))

-- Each lane is the one n further on.
pub record Turned (n : ℕ) (a r : Planes) : Type 0 where
  pub each : (j : ℕ) → j < 64 → lane_byte j r ≡ lane_byte ((n + j) % 64) a

-- Each bit is the lowest of the byte in which it lies.
pub record Lowest (w r : ℕ) : Type 0 where
  pub each : (j : ℕ) → j < 64 → lane j r ≡ lane (8 * (j / 8)) w

-- Each lane is the byte of w in which it lies.
pub record Spread (w : ℕ) (r : Planes) : Type 0 where
  pub each : (j : ℕ) → j < 64 → lane_byte j r ≡ w / 2 ^ (8 * (j / 8)) % 256

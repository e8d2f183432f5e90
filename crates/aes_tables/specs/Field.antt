-- SPDX-License-Identifier: MIT
-- FIPS 197 §4 and §5.1.1: bytes as elements of GF(2^8), and the S-box; §5.2: the powers of x.
-- Assumes nothing.
use Rattle.std.specs.Prelude.{ℕ, zero, suc, ◌+◌, ◌*◌, ◌/◌, ◌%◌, ◌^◌}
use Rattle.std.specs.Int.Bits.{bit_xor}

-- §4.2: b · x, modulo x^8 + x^4 + x^3 + x + 1.
unfoldable pub x_times : ℕ → ℕ
x_times b = bit_xor (b * 2 % 256) (b / 128 * 0x1b)

-- The sum of c · x^i over the bits i < n that are set in b.
unfoldable pub products : (n b c : ℕ) → ℕ
products zero b c = 0
products (suc n) b c = bit_xor (b % 2 * c) (products n (b / 2) (x_times c))

-- §4.2: b · c.
unfoldable pub mul : ℕ → ℕ → ℕ
mul b c = products 8 b c

-- b^2 · b^4 · .. · b^(2^n).
unfoldable pub squares : ℕ → ℕ → ℕ
squares zero b = 1
squares (suc n) b = mul (mul b b) (squares n (mul b b))

-- §4.4: the multiplicative inverse, b^254; 0 for 0.
unfoldable pub inverse : ℕ → ℕ
inverse b = squares 7 b

-- Bit i of b, 0 the lowest.
abbrev pub bit : ℕ → ℕ → ℕ
bit i b = b / 2 ^ i % 2

-- §5.1.1: bit i of the affine map of b, with the constant 0x63.
unfoldable pub affine_bit : ℕ → ℕ → ℕ
affine_bit i b = (bit i b + bit ((i + 4) % 8) b + bit ((i + 5) % 8) b + bit ((i + 6) % 8) b + bit ((i + 7) % 8) b + bit i 0x63) % 2

-- The lowest n bits of the affine map of b.
unfoldable pub affine_bits : ℕ → ℕ → ℕ
affine_bits zero b = 0
affine_bits (suc n) b = affine_bit n b * 2 ^ n + affine_bits n b

-- §5.1.1: the S-box, the inverse and then the affine map.
unfoldable pub s_box : ℕ → ℕ
s_box b = affine_bits 8 (inverse b)

-- §5.2: x^n, of which the round constants are made.
unfoldable pub x_power : ℕ → ℕ
x_power zero = 1
x_power (suc n) = x_times (x_power n)

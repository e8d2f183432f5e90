-- SPDX-License-Identifier: MIT
-- Inner: a product without carries from three of half the length.
-- Assumes nothing.
use Rattle.std.specs.Prelude.{ℕ, ◌+◌, ◌*◌, ◌^◌}
use Rattle.std.specs.Int.Bits.{bit_xor}

-- From the product of the low halves, of k bits each, that of the high halves, and that of the sums of both.
abbrev pub karatsuba : (k low high both : ℕ) → ℕ
karatsuba k low high both = bit_xor (bit_xor (high * 2 ^ (k + k)) (bit_xor (bit_xor both low) high * 2 ^ k)) low

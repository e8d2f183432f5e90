-- SPDX-License-Identifier: MIT
-- The product of polynomials over the field of two elements, where bit i of a number is the coefficient of the power i:
-- a product without carries.
-- Assumes nothing.
use Rattle.std.specs.Prelude.{ℕ, zero, suc, ◌*◌, ◌/◌, ◌%◌, ◌^◌}
use Rattle.std.specs.Int.Bits.{bit_xor}

-- The product of y and the number that the lowest n bits of x are: the sum of y, moved up by i, over the bits i that are set.
unfoldable pub clmul : (n x y : ℕ) → ℕ
clmul zero x y = 0
clmul (suc n) x y = bit_xor (x / 2 ^ n % 2 * (y * 2 ^ n)) (clmul n x y)

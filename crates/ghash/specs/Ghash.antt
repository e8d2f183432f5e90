-- SPDX-License-Identifier: MIT
-- GHASH (SP 800-38D §6.3 and §6.4). A block is a number below 2^128, its first bit the highest.
-- Assumes nothing.
use Rattle.std.specs.Prelude.{List, ℕ, zero, suc, ◌+◌, ◌*◌, ◌/◌, ◌%◌, ◌^◌, length, drop}
use Rattle.std.specs.Int.Bits.{bit_xor}
use Rattle.octets.specs.Octets.{number}
use Rattle.aes.specs.Aes.{block_size, blocks}

-- §6.3: the constant R.
abbrev pub R : ℕ
R = 0xe1 * 2 ^ 120

-- §6.3, step 3: V moved one bit to the right, and reduced by R where a bit fell out.
unfoldable pub halve : ℕ → ℕ
halve v = bit_xor (v / 2) (v % 2 * R)

-- §6.3: the sum of V over the bits of x that are set, from bit n - 1 down, V halved after each bit.
unfoldable pub sum : (n x v : ℕ) → ℕ
sum zero x v = 0
sum (suc n) x v = bit_xor (x / 2 ^ n % 2 * v) (sum n x (halve v))

-- §6.3: the product of two blocks.
unfoldable pub product : ℕ → ℕ → ℕ
product x y = sum 128 x y

-- §6.4: GHASH under h, from y on, over the first n blocks of l, the last one filled up with zeros.
unfoldable pub absorb_blocks : (h y : ℕ) (l : List ℕ) (n : ℕ) → ℕ
absorb_blocks h y l zero = y
absorb_blocks h y l (suc n) = product (bit_xor (absorb_blocks h y l n) (number block_size (drop (block_size * n) l))) h

-- §6.4: GHASH under h, from y on, over all of l.
unfoldable pub absorb : (h y : ℕ) (l : List ℕ) → ℕ
absorb h y l = absorb_blocks h y l (blocks (length l))

-- The block of two halves.
abbrev pub pair : ℕ → ℕ → ℕ
pair hi lo = hi * 2 ^ 64 + lo

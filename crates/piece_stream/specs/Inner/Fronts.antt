-- SPDX-License-Identifier: MIT
-- Inner: the batch that a byte of the key stream lies in, and what its front has, as contracts of the code cite them.
-- Assumes nothing.
use Rattle.std.specs.Prelude.{ℕ, ◌+◌, ◌*◌, ◌-◌, ◌/◌, min, ltb}
use Rattle.octets.specs.Octets.{pick}

-- The block count that the batch of byte number at starts with.
abbrev pub batch_at : (count at : ℕ) → ℕ
batch_at count at = (16 * count + at) / 256 * 16

-- How many of n bytes the front of that batch has key stream for, where the first is the batch's byte number i: its block 0 is none.
abbrev pub in_front : (i n : ℕ) → ℕ
in_front i n = pick (ltb i 16) 0 (min (256 - i) n)

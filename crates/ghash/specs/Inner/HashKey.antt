-- SPDX-License-Identifier: MIT
-- Inner: a block and the context of a hash key, as contracts of the code cite them. Other crates cite `HashKey`,
-- `hash_key_of` and `value_of`, and never a field.
-- Assumes nothing.
use Rattle.std.specs.Prelude.{◌≡◌, List, [], ◌∷◌, ℕ, ◌+◌, ◌*◌, ◌/◌, ◌%◌, ◌^◌, ◌<◌, get_or}
use Rattle.std.specs.Int.Bits.{bit_xor}
use Rattle.ghash.specs.declared.Block.{Block}
use Rattle.ghash.specs.Ghash.{halve, pair}

-- A block of the code, as a number.
abbrev pub value_of : Block → ℕ
value_of b = pair b.hi b.lo

-- The factors by which a product of blocks of the words a, b, c, d, from the lowest, is taken: low words and their sum,
-- high words and their sum, the sums of low and high words and the sum of all.
abbrev pub word_factors : (a b c d : ℕ) → List ℕ
word_factors a b c d =
    a ∷ b ∷ bit_xor a b ∷ c ∷ d ∷ bit_xor c d ∷ bit_xor a c ∷ bit_xor b d ∷ bit_xor (bit_xor a c) (bit_xor b d) ∷ []

-- Of a block in two halves.
abbrev pub factors_of : (hi lo : ℕ) → List ℕ
factors_of hi lo = word_factors (lo % 2 ^ 32) (lo / 2 ^ 32) (hi % 2 ^ 32) (hi / 2 ^ 32)

-- The halves of the block that an array has the factors of.
abbrev pub high_of : List ℕ → ℕ
high_of t = get_or t 4 0 * 2 ^ 32 + get_or t 3 0

abbrev pub low_of : List ℕ → ℕ
low_of t = get_or t 1 0 * 2 ^ 32 + get_or t 0 0

-- The context of a hash key: the factors of the block whose half is the key.
abbrev pub hash_key_of : List ℕ → ℕ
hash_key_of t = halve (pair (high_of t) (low_of t))

-- This array is the context of the hash key h.
pub record HashKey (h : ℕ) (t : List ℕ) : Type 0 where
  pub factors : t ≡ factors_of (high_of t) (low_of t)
  pub fits : low_of t < 2 ^ 64
  pub key : hash_key_of t ≡ h

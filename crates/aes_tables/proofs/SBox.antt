-- SPDX-License-Identifier: MIT
-- The rule of the S-box, carried to each entry by one test over the whole table, and the field's inverse, by one test over
-- every byte.
-- Assumes nothing.
use mathlib.Core.Path.{◌≡◌}
use mathlib.Core.Bool.{Bool}
use mathlib.Core.List.{List}
use Prim.Native.Nat.{ℕ, ◌<◌, min}
use native.Mathlib.Omega.{arith}
use lib.Dec.{T, eqb, eqb→eq}
use lib.ListN.{length, get_or, replicate}
use Rattle.octets.proofs.Entries.{all, entry-rule}
use Rattle.aes_tables.specs.Field.{x_times, products, mul, squares, inverse, affine_bits, s_box}
use Rattle.aes_tables.specs.Inner.Tables.{SBoxTable}

-- ---- the inverse

-- k times the inverse of k is 1; of 0 it is 0. The test looks at k alone.
unfoldable inverts : ℕ → ℕ → Bool
inverts k x = eqb (mul k (inverse k)) (min k 1)

every-inverse : T (all inverts 0 (replicate 256 0))
unfolding inverts x_times products mul squares inverse
every-inverse = tt

-- §4.4: the inverse of every byte but 0 is its multiplicative inverse.
pub inverse-rule : (k : ℕ) → 0 < k → k < 256 → mul k (inverse k) ≡ 1
unfolding inverts
inverse-rule k h l =
    let e : mul k (inverse k) ≡ min k 1 = eqb→eq _ _ (entry-rule inverts (replicate 256 0) every-inverse k l) in
    omega arith

-- ---- the table

-- The entry x at k is the affine map of the inverse of k.
unfoldable pub right : ℕ → ℕ → Bool
right k x = eqb x (s_box k)

pub s-box-rule : (l : List ℕ) → T (all right 0 l) → (k : ℕ) → k < length l → get_or l k 0 ≡ affine_bits 8 (inverse k)
unfolding right s_box
s-box-rule l t k h = eqb→eq _ _ (entry-rule right l t k h)

pub s-box-table : (l : List ℕ) → T (all right 0 l) → length l ≡ 256 → SBoxTable l
unfolding s_box
s-box-table l t e = record { sized = e; entry = λ x h. s-box-rule l t x (omega arith) }

-- SPDX-License-Identifier: MIT
-- A word of 32 bits in four classes, each of the bits that stand four apart: the product of two words from the integer
-- products of their classes.
-- Assumes nothing.
use mathlib.Core.Path.{◌≡◌, refl, sym, ◌∙◌, ap, ap₂}
use Prim.Native.Nat.{ℕ, ◌+◌, ◌*◌, ◌-◌, ◌/◌, ◌%◌, ◌^◌, ◌≤◌, ◌<◌}
use native.Mathlib.Nat.{add-zero, mul_assoc, mul_comm, mod-eq_of_lt, mod-lt, lt_of_le_of_lt}
use native.Mathlib.Omega.{arith}
use lib.Bits.{bit_xor, bit_and, and_block, and_zero_l, and_zero_r, and_mask, and_le_r, and_comm}
use lib.Pow.{pow-add, pow_pos, pow-lt, split}
use Rattle.clmul.specs.Clmul.{clmul}
use Rattle.clmul.proofs.Sums.{sum4, sum4-turn, sum4-next, sum4-both, and-sum4}
use Rattle.clmul.proofs.Laws.{clmul-xor-l, clmul-xor-r, clmul-shift-l, clmul-shift-r, clmul-past}
use Rattle.clmul.proofs.Holes.{mask, mask-sparse, digits_product}

-- Class i of x, moved down to the lowest one; and where it stands.
abbrev digits : ℕ → ℕ → ℕ
digits i x = bit_and (x / 2 ^ i) (mask 8)

abbrev class : ℕ → ℕ → ℕ
class i x = bit_and x (mask 8 * 2 ^ i)

class-digits : (i x : ℕ) → class i x ≡ digits i x * 2 ^ i
class-digits i x =
    ap₂ bit_and (sym (split x i)) (sym (add-zero (mask 8 * 2 ^ i)))
    ∙ and_block i (x / 2 ^ i) (mask 8) (x % 2 ^ i) 0 (mod-lt x (pow_pos i)) (pow_pos i)
    ∙ ap (λ (z : ℕ). digits i x * 2 ^ i + z) (and_zero_r (x % 2 ^ i)) ∙ add-zero (digits i x * 2 ^ i)

digits_lt : (i x : ℕ) → digits i x < 2 ^ 29
digits_lt i x = lt_of_le_of_lt (and_le_r (x / 2 ^ i) (mask 8)) (omega arith)

-- The product of two classes without carries.
shifted_product : (i j a b : ℕ) → i ≤ 3 → a < 2 ^ 29 → clmul 32 (a * 2 ^ i) (b * 2 ^ j) ≡ clmul 32 a b * 2 ^ (i + j)
shifted_product i j a b h l =
    let e : 32 ≡ i + (32 - i) = omega arith in
    let f : 32 - i ≡ (3 - i) + 29 = omega arith in
    clmul-shift-r 32 j (a * 2 ^ i) b
    ∙ ap (λ (z : ℕ). z * 2 ^ j)
    (ap (λ (z : ℕ). clmul z (a * 2 ^ i) b) e ∙ clmul-shift-l (32 - i) i a b
    ∙ ap (λ (z : ℕ). z * 2 ^ i) (ap (λ (z : ℕ). clmul z a b) f ∙ clmul-past (3 - i) 29 a b l ∙ sym (clmul-past 3 29 a b l)))
    ∙ mul_assoc (clmul 32 a b) (2 ^ i) (2 ^ j) ∙ ap (λ (z : ℕ). clmul 32 a b * z) (sym (pow-add 2 i j))

-- It is what the mask of its own class leaves of the integer product; below the lowest bit of the product, r, there is nothing.
class-product : (n i j r x y : ℕ) → 15 ≤ n → i ≤ 3 → r < 2 ^ (i + j)
    → bit_and (class i x * class j y) (mask n * 2 ^ (i + j) + r) ≡ clmul 32 (class i x) (class j y)
class-product n i j r x y h k l =
    let a : ℕ = digits i x in
    let b : ℕ = digits j y in
    let p : class i x * class j y ≡ a * b * 2 ^ (i + j) + 0 =
    ap₂ (λ (u v : ℕ). u * v) (class-digits i x) (class-digits j y) ∙ exchange a (2 ^ i) b (2 ^ j)
    ∙ ap (λ (z : ℕ). a * b * z) (sym (pow-add 2 i j)) ∙ sym (add-zero (a * b * 2 ^ (i + j))) in
    ap (λ (z : ℕ). bit_and z (mask n * 2 ^ (i + j) + r)) p
    ∙ and_block (i + j) (a * b) (mask n) 0 r (pow_pos (i + j)) l
    ∙ ap₂ (λ (u v : ℕ). u * 2 ^ (i + j) + v)
    (digits_product n a b h (mask-sparse 8 (x / 2 ^ i)) (mask-sparse 8 (y / 2 ^ j)) (omega (arith, digits_lt i x))) (and_zero_l r)
    ∙ add-zero (clmul 32 a b * 2 ^ (i + j))
    ∙ sym (ap₂ (clmul 32) (class-digits i x) (class-digits j y) ∙ shifted_product i j a b k (digits_lt i x))
  where
    exchange : (a p b q : ℕ) → a * p * (b * q) ≡ a * b * (p * q)
    exchange a p b q =
        mul_assoc a p (b * q) ∙ ap (λ (z : ℕ). a * z) (sym (mul_assoc p b q) ∙ ap (λ (z : ℕ). z * q) (mul_comm p b) ∙ mul_assoc b p q)
        ∙ sym (mul_assoc a b (p * q))

-- A word is the sum of its classes.
classes : (x : ℕ) → x < 2 ^ 32 → sum4 (class 0 x) (class 1 x) (class 2 x) (class 3 x) ≡ x
classes x h =
    ap₂ bit_xor (ap₂ bit_xor (and_comm x (mask 8 * 2 ^ 0)) (and_comm x (mask 8 * 2 ^ 1))) (ap₂ bit_xor (and_comm x (mask 8 * 2 ^ 2)) (and_comm x (mask 8 * 2 ^ 3)))
    ∙ sym (and-sum4 (mask 8 * 2 ^ 0) (mask 8 * 2 ^ 1) (mask 8 * 2 ^ 2) (mask 8 * 2 ^ 3) x) ∙ and_comm (2 ^ 32 - 1) x
    ∙ and_mask x 32 ∙ mod-eq_of_lt h

-- The product of sums.
clmul-sum4-l : (n a b c d y : ℕ) → sum4 (clmul n a y) (clmul n b y) (clmul n c y) (clmul n d y) ≡ clmul n (sum4 a b c d) y
clmul-sum4-l n a b c d y =
    sym (clmul-xor-l n (bit_xor a b) (bit_xor c d) y ∙ ap₂ bit_xor (clmul-xor-l n a b y) (clmul-xor-l n c d y))

clmul-sum4-r : (n x p q r s : ℕ) → sum4 (clmul n x p) (clmul n x q) (clmul n x r) (clmul n x s) ≡ clmul n x (sum4 p q r s)
clmul-sum4-r n x p q r s =
    sym (clmul-xor-r n x (bit_xor p q) (bit_xor r s) ∙ ap₂ bit_xor (clmul-xor-r n x p q) (clmul-xor-r n x r s))

-- The sixteen products of classes, by the class that each falls into, are the product.
rearranged : (n a b c d p q r s : ℕ)
    → sum4 (sum4 (clmul n a p) (clmul n b s) (clmul n c r) (clmul n d q)) (sum4 (clmul n a q) (clmul n b p) (clmul n c s) (clmul n d r))
    (sum4 (clmul n a r) (clmul n b q) (clmul n c p) (clmul n d s)) (sum4 (clmul n a s) (clmul n b r) (clmul n c q) (clmul n d p))
    ≡ clmul n (sum4 a b c d) (sum4 p q r s)
rearranged n a b c d p q r s =
    let f = clmul n in
    sum4-turn (f a p) (f b s) (f c r) (f d q) (f a q) (f b p) (f c s) (f d r) (f a r) (f b q) (f c p) (f d s) (f a s) (f b r) (f c q) (f d p)
    ∙ ap₂ bit_xor
    (ap₂ bit_xor (clmul-sum4-r n a p q r s) (sum4-next (f b s) (f b p) (f b q) (f b r) ∙ clmul-sum4-r n b p q r s))
    (ap₂ bit_xor (sum4-both (f c r) (f c s) (f c p) (f c q) ∙ clmul-sum4-r n c p q r s) (sym (sum4-next (f d p) (f d q) (f d r) (f d s)) ∙ clmul-sum4-r n d p q r s))
    ∙ clmul-sum4-l n a b c d (sum4 p q r s)

-- What a mask leaves of a sum of four products.
kept : (m a b c d p q r s : ℕ) → bit_and (a * p) m ≡ clmul 32 a p → bit_and (b * q) m ≡ clmul 32 b q → bit_and (c * r) m ≡ clmul 32 c r
    → bit_and (d * s) m ≡ clmul 32 d s
    → bit_and (sum4 (a * p) (b * q) (c * r) (d * s)) m ≡ sum4 (clmul 32 a p) (clmul 32 b q) (clmul 32 c r) (clmul 32 d s)
kept m a b c d p q r s e f g h = and-sum4 (a * p) (b * q) (c * r) (d * s) m ∙ ap₂ bit_xor (ap₂ bit_xor e f) (ap₂ bit_xor g h)

module _ (x y : ℕ) where
  -- The product falls into class i + j, or past the four classes into the first ones again.
  low : (i j : ℕ) → i + j ≤ 3 → bit_and (class i x * class j y) (mask 16 * 2 ^ (i + j) + 0) ≡ clmul 32 (class i x) (class j y)
  low i j h = class-product 16 i j 0 x y (omega arith) (omega arith) (pow_pos (i + j))

  high : (i j k : ℕ) → i ≤ 3 → i + j ≡ 4 + k → bit_and (class i x * class j y) (mask 15 * 2 ^ (i + j) + 2 ^ k) ≡ clmul 32 (class i x) (class j y)
  high i j k h e = class-product 15 i j (2 ^ k) x y (omega arith) h (rw e (pow-lt (omega arith)))

  pub products : x < 2 ^ 32 → y < 2 ^ 32
      → sum4 (bit_and (sum4 (class 0 x * class 0 y) (class 1 x * class 3 y) (class 2 x * class 2 y) (class 3 x * class 1 y)) 0x1111111111111111)
      (bit_and (sum4 (class 0 x * class 1 y) (class 1 x * class 0 y) (class 2 x * class 3 y) (class 3 x * class 2 y)) 0x2222222222222222)
      (bit_and (sum4 (class 0 x * class 2 y) (class 1 x * class 1 y) (class 2 x * class 0 y) (class 3 x * class 3 y)) 0x4444444444444444)
      (bit_and (sum4 (class 0 x * class 3 y) (class 1 x * class 2 y) (class 2 x * class 1 y) (class 3 x * class 0 y)) 0x8888888888888888)
      ≡ clmul 32 x y
  products h l =
      ap₂ bit_xor
      (ap₂ bit_xor
      (kept 0x1111111111111111 (class 0 x) (class 1 x) (class 2 x) (class 3 x) (class 0 y) (class 3 y) (class 2 y) (class 1 y)
      (low 0 0 (omega arith)) (high 1 3 0 (omega arith) refl) (high 2 2 0 (omega arith) refl) (high 3 1 0 (omega arith) refl))
      (kept 0x2222222222222222 (class 0 x) (class 1 x) (class 2 x) (class 3 x) (class 1 y) (class 0 y) (class 3 y) (class 2 y)
      (low 0 1 (omega arith)) (low 1 0 (omega arith)) (high 2 3 1 (omega arith) refl) (high 3 2 1 (omega arith) refl)))
      (ap₂ bit_xor
      (kept 0x4444444444444444 (class 0 x) (class 1 x) (class 2 x) (class 3 x) (class 2 y) (class 1 y) (class 0 y) (class 3 y)
      (low 0 2 (omega arith)) (low 1 1 (omega arith)) (low 2 0 (omega arith)) (high 3 3 2 (omega arith) refl))
      (kept 0x8888888888888888 (class 0 x) (class 1 x) (class 2 x) (class 3 x) (class 3 y) (class 2 y) (class 1 y) (class 0 y)
      (low 0 3 (omega arith)) (low 1 2 (omega arith)) (low 2 1 (omega arith)) (low 3 0 (omega arith))))
      ∙ rearranged 32 (class 0 x) (class 1 x) (class 2 x) (class 3 x) (class 0 y) (class 1 y) (class 2 y) (class 3 y)
      ∙ ap₂ (clmul 32) (classes x h) (classes y l)

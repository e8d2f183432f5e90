-- SPDX-License-Identifier: MIT
-- Laws of the product without carries. Other crates cite `clmul-one`, `clmul-xor-r`, `clmul-shift-r` and `karatsuba-product`.
-- Assumes nothing.
use mathlib.Core.Path.{◌≡◌, refl, ap, ap₂, sym, ◌∙◌}
use Prim.Native.Nat.{ℕ, zero, suc, ◌+◌, ◌*◌, ◌-◌, ◌/◌, ◌%◌, ◌^◌, ◌≤◌, ◌<◌}
use native.Mathlib.Nat.{zero-mul, mul_assoc, mul_comm, add-zero, add-suc, suc-add, zero-add, div-eq_of_lt, lt_of_lt_of_le, one-mul, pow-suc, mod-lt}
use native.Mathlib.Omega.{arith}
use lib.Bits.{bit_xor, xor_zero_l, xor_comm, xor_shifted}
use lib.Pow.{shr-shr, shl-shr, pow-add, pow_mono, pow_pos, mod-pow-add}
use Rattle.octets.proofs.Bits.{xor_assoc, xor-twice}
use Rattle.clmul.specs.Clmul.{clmul}
use Rattle.clmul.specs.Inner.Karatsuba.{karatsuba}
use Rattle.clmul.proofs.Sums.{xor-exchange, bit-sum, bit-times-sum, shift-sum, bit-of-sum}

-- It distributes over sums, on either side.
pub clmul-xor-l : (n a b y : ℕ) → clmul n (bit_xor a b) y ≡ bit_xor (clmul n a y) (clmul n b y)
unfolding clmul
clmul-xor-l zero a b y = refl
clmul-xor-l (suc n) a b y =
    ap₂ bit_xor (ap (λ (x : ℕ). x * (y * 2 ^ n)) (bit-of-sum n a b) ∙ bit-sum (a / 2 ^ n % 2) (b / 2 ^ n % 2) (y * 2 ^ n) (omega arith) (omega arith)) (clmul-xor-l n a b y)
    ∙ xor-exchange (a / 2 ^ n % 2 * (y * 2 ^ n)) (b / 2 ^ n % 2 * (y * 2 ^ n)) (clmul n a y) (clmul n b y)

pub clmul-xor-r : (n x a b : ℕ) → clmul n x (bit_xor a b) ≡ bit_xor (clmul n x a) (clmul n x b)
unfolding clmul
clmul-xor-r zero x a b = refl
clmul-xor-r (suc n) x a b =
    ap₂ bit_xor (ap (λ (z : ℕ). x / 2 ^ n % 2 * z) (shift-sum n a b) ∙ bit-times-sum (x / 2 ^ n % 2) (a * 2 ^ n) (b * 2 ^ n) (omega arith)) (clmul-xor-r n x a b)
    ∙ xor-exchange (x / 2 ^ n % 2 * (a * 2 ^ n)) (x / 2 ^ n % 2 * (b * 2 ^ n)) (clmul n x a) (clmul n x b)

-- It moves up with either factor.
pub clmul-shift-r : (n k x y : ℕ) → clmul n x (y * 2 ^ k) ≡ clmul n x y * 2 ^ k
unfolding clmul
clmul-shift-r zero k x y = sym (zero-mul (2 ^ k))
clmul-shift-r (suc n) k x y =
    ap₂ bit_xor (ap (λ (z : ℕ). x / 2 ^ n % 2 * z) (turn y (2 ^ k) (2 ^ n)) ∙ sym (mul_assoc (x / 2 ^ n % 2) (y * 2 ^ n) (2 ^ k))) (clmul-shift-r n k x y)
    ∙ sym (shift-sum k (x / 2 ^ n % 2 * (y * 2 ^ n)) (clmul n x y))
  where
    turn : (a b c : ℕ) → a * b * c ≡ a * c * b
    turn a b c = mul_assoc a b c ∙ ap (λ (z : ℕ). a * z) (mul_comm b c) ∙ sym (mul_assoc a c b)

-- Below its lowest set bit a factor adds nothing.
bit_below : (x k n : ℕ) → n < k → x * 2 ^ k / 2 ^ n % 2 ≡ 0
bit_below x k n h =
    let e : k ≡ suc (k - suc n) + n = omega arith in
    let p : x * 2 ^ (suc (k - suc n) + n) ≡ x * 2 ^ (k - suc n) * 2 * 2 ^ n =
    ap (λ (z : ℕ). x * z) (pow-add 2 (suc (k - suc n)) n ∙ ap (λ (z : ℕ). z * 2 ^ n) (pow-suc 2 (k - suc n)))
    ∙ sym (mul_assoc x (2 ^ (k - suc n) * 2) (2 ^ n)) ∙ ap (λ (z : ℕ). z * 2 ^ n) (sym (mul_assoc x (2 ^ (k - suc n)) 2)) in
    ap (λ (z : ℕ). x * 2 ^ z / 2 ^ n % 2) e ∙ ap (λ (z : ℕ). z / 2 ^ n % 2) p
    ∙ ap (λ (z : ℕ). z % 2) (shl-shr (x * 2 ^ (k - suc n) * 2) n) ∙ omega arith

clmul-below : (n k x y : ℕ) → n ≤ k → clmul n (x * 2 ^ k) y ≡ 0
unfolding clmul
clmul-below zero k x y h = refl
clmul-below (suc n) k x y h = rw (bit_below x k n (omega arith), clmul-below n k x y (omega arith)) (simp (zero-mul, xor_zero_l))

pub clmul-shift-l : (n k x y : ℕ) → clmul (k + n) (x * 2 ^ k) y ≡ clmul n x y * 2 ^ k
unfolding clmul
clmul-shift-l zero k x y = rw (add-zero k, zero-mul (2 ^ k)) (clmul-below k k x y (omega arith))
clmul-shift-l (suc n) k x y =
    let e : x * 2 ^ k / 2 ^ (k + n) ≡ x / 2 ^ n = sym (shr-shr (x * 2 ^ k) k n) ∙ ap (λ (z : ℕ). z / 2 ^ n) (shl-shr x k) in
    let p : y * 2 ^ (k + n) ≡ y * 2 ^ n * 2 ^ k =
    ap (λ (z : ℕ). y * z) (pow-add 2 k n ∙ mul_comm (2 ^ k) (2 ^ n)) ∙ sym (mul_assoc y (2 ^ n) (2 ^ k)) in
    rw add-suc
    (ap₂ bit_xor (ap₂ (λ (u v : ℕ). u % 2 * v) e p ∙ sym (mul_assoc (x / 2 ^ n % 2) (y * 2 ^ n) (2 ^ k))) (clmul-shift-l n k x y)
    ∙ sym (shift-sum k (x / 2 ^ n % 2 * (y * 2 ^ n)) (clmul n x y)))

-- Past its highest set bit a factor adds nothing.
pub clmul-past : (m n x y : ℕ) → x < 2 ^ n → clmul (m + n) x y ≡ clmul n x y
unfolding clmul
clmul-past zero n x y h = rw zero-add
clmul-past (suc m) n x y h =
    let l : x < 2 ^ (m + n) = lt_of_lt_of_le h (pow_mono (omega arith)) in
    rw (suc-add m n, div-eq_of_lt l) (simp (zero-mul, xor_zero_l) (clmul-past m n x y h))

-- The unit.
pub clmul-one : (n x : ℕ) → clmul n x 1 ≡ x % 2 ^ n
unfolding clmul
clmul-one zero x = omega arith
clmul-one (suc n) x =
    let e : 1 + n ≡ suc n = omega arith in
    ap₂ (λ (u v : ℕ). bit_xor (x / 2 ^ n % 2 * u) v) (one-mul (2 ^ n)) (clmul-one n x)
    ∙ xor_shifted (x / 2 ^ n % 2) n (x % 2 ^ n) (mod-lt x (pow_pos n)) ∙ sym (mod-pow-add x 1 n) ∙ ap (λ (z : ℕ). x % 2 ^ z) e

-- The sums of Karatsuba's products.
cancel : (a b c d : ℕ) → bit_xor (bit_xor (bit_xor (bit_xor a b) (bit_xor c d)) a) d ≡ bit_xor c b
cancel a b c d =
    ap (λ (u : ℕ). bit_xor (bit_xor u a) d) (ap (λ (u : ℕ). bit_xor u (bit_xor c d)) (xor_comm a b) ∙ xor-exchange b a c d)
    ∙ xor_assoc (bit_xor (bit_xor b c) (bit_xor a d)) a d ∙ xor-twice (bit_xor b c) (bit_xor a d) ∙ xor_comm b c

gather : (k a b c d : ℕ) → bit_xor (bit_xor (d * 2 ^ k) c * 2 ^ k) (bit_xor (b * 2 ^ k) a) ≡ bit_xor (bit_xor (d * 2 ^ (k + k)) (bit_xor c b * 2 ^ k)) a
gather k a b c d =
    ap (λ (u : ℕ). bit_xor u (bit_xor (b * 2 ^ k) a))
    (shift-sum k (d * 2 ^ k) c ∙ ap (λ (u : ℕ). bit_xor u (c * 2 ^ k)) (mul_assoc d (2 ^ k) (2 ^ k) ∙ ap (λ (u : ℕ). d * u) (sym (pow-add 2 k k))))
    ∙ sym (xor_assoc (bit_xor (d * 2 ^ (k + k)) (c * 2 ^ k)) (b * 2 ^ k) a)
    ∙ ap (λ (u : ℕ). bit_xor u a) (xor_assoc (d * 2 ^ (k + k)) (c * 2 ^ k) (b * 2 ^ k) ∙ ap (bit_xor (d * 2 ^ (k + k))) (sym (shift-sum k c b)))

-- Two factors, in halves of k bits: x and y the low ones, x' and y' the high ones.
module _ (k x x' y y' : ℕ) (h : x < 2 ^ k) (l : y < 2 ^ k) where
  split-r : (z : ℕ) → clmul k z (y' * 2 ^ k + y) ≡ bit_xor (clmul k z y' * 2 ^ k) (clmul k z y)
  split-r z = ap (clmul k z) (sym (xor_shifted y' k y l)) ∙ clmul-xor-r k z (y' * 2 ^ k) y ∙ ap (λ (u : ℕ). bit_xor u (clmul k z y)) (clmul-shift-r k k z y')

  split-l : (z : ℕ) → clmul (k + k) (x' * 2 ^ k + x) z ≡ bit_xor (clmul k x' z * 2 ^ k) (clmul k x z)
  split-l z =
      ap (λ (u : ℕ). clmul (k + k) u z) (sym (xor_shifted x' k x h)) ∙ clmul-xor-l (k + k) (x' * 2 ^ k) x z
      ∙ ap₂ bit_xor (clmul-shift-l k k x' z) (clmul-past k k x z h)

  -- The sum of the mixed products.
  middle : bit_xor (bit_xor (clmul k (bit_xor x x') (bit_xor y y')) (clmul k x y)) (clmul k x' y') ≡ bit_xor (clmul k x' y) (clmul k x y')
  middle =
      ap (λ (u : ℕ). bit_xor (bit_xor u (clmul k x y)) (clmul k x' y'))
      (clmul-xor-l k x x' (bit_xor y y') ∙ ap₂ bit_xor (clmul-xor-r k x y y') (clmul-xor-r k x' y y'))
      ∙ cancel (clmul k x y) (clmul k x y') (clmul k x' y) (clmul k x' y')

  -- Karatsuba: a product from three of half the length.
  pub karatsuba-product : karatsuba k (clmul k x y) (clmul k x' y') (clmul k (bit_xor x x') (bit_xor y y')) ≡ clmul (k + k) (x' * 2 ^ k + x) (y' * 2 ^ k + y)
  karatsuba-product =
      sym (split-l (y' * 2 ^ k + y) ∙ ap₂ (λ (u v : ℕ). bit_xor (u * 2 ^ k) v) (split-r x') (split-r x)
      ∙ gather k (clmul k x y) (clmul k x y') (clmul k x' y) (clmul k x' y')
      ∙ ap (λ (u : ℕ). bit_xor (bit_xor (clmul k x' y' * 2 ^ (k + k)) (u * 2 ^ k)) (clmul k x y)) (sym middle))

-- SPDX-License-Identifier: MIT
-- Laws of sums by XOR.
-- Assumes nothing.
use mathlib.Core.Path.{◌≡◌, refl, ap, ap₂, sym, ◌∙◌}
use Prim.Native.Nat.{ℕ, zero, suc, ◌+◌, ◌*◌, ◌/◌, ◌%◌, ◌^◌, ◌<◌, min}
use native.Mathlib.Nat.{zero-mul, one-mul, add-zero}
use native.Mathlib.Omega.{arith}
use lib.Arith.{bin_ind}
use lib.Bits.{bit_xor, bit_and, differ, xor_zero_l, xor_zero_r, xor_self, xor_comm, xor_step, xor_shr, xor_mod, xor_block, and_zero_l, and_step, and_shr, and_mod}
use lib.Pow.{pow_pos}
use Rattle.octets.proofs.Bits.{xor_assoc}

-- (a + b) + (c + d) = (a + c) + (b + d).
pub xor-exchange : (a b c d : ℕ) → bit_xor (bit_xor a b) (bit_xor c d) ≡ bit_xor (bit_xor a c) (bit_xor b d)
xor-exchange a b c d =
    xor_assoc a b (bit_xor c d) ∙ ap (bit_xor a) (sym (xor_assoc b c d) ∙ ap (λ (x : ℕ). bit_xor x d) (xor_comm b c) ∙ xor_assoc c b d)
    ∙ sym (xor_assoc a c (bit_xor b d))

-- A bit times a number: it distributes over the bit, and over the number.
pub bit-sum : (p q v : ℕ) → p < 2 → q < 2 → bit_xor p q * v ≡ bit_xor (p * v) (q * v)
bit-sum zero zero v h k = simp (zero-mul, xor_zero_l)
bit-sum zero (suc zero) v h k = simp (zero-mul, one-mul, xor_zero_l)
bit-sum (suc zero) zero v h k = simp (zero-mul, one-mul, xor_zero_r)
bit-sum (suc zero) (suc zero) v h k = simp (zero-mul, one-mul, xor_self)
bit-sum zero (suc (suc q)) v h k = absurd (omega arith)
bit-sum (suc zero) (suc (suc q)) v h k = absurd (omega arith)
bit-sum (suc (suc p)) q v h k = absurd (omega arith)

pub bit-times-sum : (b v w : ℕ) → b < 2 → b * bit_xor v w ≡ bit_xor (b * v) (b * w)
bit-times-sum zero v w h = simp (zero-mul, xor_zero_l)
bit-times-sum (suc zero) v w h = simp one-mul
bit-times-sum (suc (suc b)) v w h = absurd (omega arith)

-- Moving up distributes over a sum.
pub shift-sum : (k a b : ℕ) → bit_xor a b * 2 ^ k ≡ bit_xor (a * 2 ^ k) (b * 2 ^ k)
shift-sum k a b =
    sym (ap₂ bit_xor (sym (add-zero (a * 2 ^ k))) (sym (add-zero (b * 2 ^ k))) ∙ xor_block k a b 0 0 (pow_pos k) (pow_pos k) ∙ add-zero (bit_xor a b * 2 ^ k))

-- Bit n of a sum.
pub bit-of-sum : (n a b : ℕ) → bit_xor a b / 2 ^ n % 2 ≡ bit_xor (a / 2 ^ n % 2) (b / 2 ^ n % 2)
bit-of-sum n a b = ap (λ (x : ℕ). x % 2) (xor_shr a b n) ∙ xor_mod (a / 2 ^ n) (b / 2 ^ n) 1

-- The sum of four, and of four sums.
abbrev pub sum4 : ℕ → ℕ → ℕ → ℕ → ℕ
sum4 a b c d = bit_xor (bit_xor a b) (bit_xor c d)

sum4-sum : (a b c d a' b' c' d' : ℕ) → sum4 (bit_xor a a') (bit_xor b b') (bit_xor c c') (bit_xor d d') ≡ bit_xor (sum4 a b c d) (sum4 a' b' c' d')
sum4-sum a b c d a' b' c' d' =
    ap₂ bit_xor (xor-exchange a a' b b') (xor-exchange c c' d d') ∙ xor-exchange (bit_xor a b) (bit_xor a' b') (bit_xor c d) (bit_xor c' d')

-- Rows and columns.
pub sum4-turn : (a b c d e f g h i j k l m n o p : ℕ)
    → sum4 (sum4 a b c d) (sum4 e f g h) (sum4 i j k l) (sum4 m n o p) ≡ sum4 (sum4 a e i m) (sum4 b f j n) (sum4 c g k o) (sum4 d h l p)
sum4-turn a b c d e f g h i j k l m n o p =
    sum4-sum (bit_xor a b) (bit_xor e f) (bit_xor i j) (bit_xor m n) (bit_xor c d) (bit_xor g h) (bit_xor k l) (bit_xor o p)
    ∙ ap₂ bit_xor (sum4-sum a e i m b f j n) (sum4-sum c g k o d h l p)

pub sum4-next : (a b c d : ℕ) → sum4 a b c d ≡ sum4 b c d a
sum4-next a b c d =
    xor_assoc a b (bit_xor c d) ∙ xor_comm a (bit_xor b (bit_xor c d)) ∙ ap (λ (x : ℕ). bit_xor x a) (sym (xor_assoc b c d)) ∙ xor_assoc (bit_xor b c) d a

pub sum4-both : (a b c d : ℕ) → sum4 a b c d ≡ sum4 c d a b
sum4-both a b c d = xor_comm (bit_xor a b) (bit_xor c d)

-- AND distributes over a sum.
digit_and : (p q r : ℕ) → p < 2 → q < 2 → r < 2 → min (bit_xor p q) r ≡ differ (bit_and p r) (bit_and q r)
digit_and zero zero zero h k l = refl
digit_and zero zero (suc zero) h k l = refl
digit_and zero zero (suc (suc r)) h k l = absurd (omega arith)
digit_and zero (suc zero) zero h k l = refl
digit_and zero (suc zero) (suc zero) h k l = refl
digit_and zero (suc zero) (suc (suc r)) h k l = absurd (omega arith)
digit_and zero (suc (suc q)) r h k l = absurd (omega arith)
digit_and (suc zero) zero zero h k l = refl
digit_and (suc zero) zero (suc zero) h k l = refl
digit_and (suc zero) zero (suc (suc r)) h k l = absurd (omega arith)
digit_and (suc zero) (suc zero) zero h k l = refl
digit_and (suc zero) (suc zero) (suc zero) h k l = refl
digit_and (suc zero) (suc zero) (suc (suc r)) h k l = absurd (omega arith)
digit_and (suc zero) (suc (suc q)) r h k l = absurd (omega arith)
digit_and (suc (suc p)) q r h k l = absurd (omega arith)

pub and-sum : (a b m : ℕ) → bit_and (bit_xor a b) m ≡ bit_xor (bit_and a m) (bit_and b m)
and-sum = bin_ind (λ (a : ℕ). (b m : ℕ) → bit_and (bit_xor a b) m ≡ bit_xor (bit_and a m) (bit_and b m)) base step
  where
    base : (b m : ℕ) → bit_and (bit_xor 0 b) m ≡ bit_xor (bit_and 0 m) (bit_and b m)
    base b m = ap (λ (x : ℕ). bit_and x m) (xor_zero_l b) ∙ sym (ap (λ (x : ℕ). bit_xor x (bit_and b m)) (and_zero_l m) ∙ xor_zero_l (bit_and b m))

    step : (a : ℕ) → ((b m : ℕ) → bit_and (bit_xor (a / 2) b) m ≡ bit_xor (bit_and (a / 2) m) (bit_and b m)) → (b m : ℕ)
        → bit_and (bit_xor a b) m ≡ bit_xor (bit_and a m) (bit_and b m)
    step a ih b m =
        and_step (bit_xor a b) m
        ∙ ap₂ (λ (x y : ℕ). bit_and x (m / 2) * 2 + min y (m % 2)) (xor_shr a b 1) (xor_mod a b 1)
        ∙ ap₂ (λ (x y : ℕ). x * 2 + y) (ih (b / 2) (m / 2)) (digit_and (a % 2) (b % 2) (m % 2) (omega arith) (omega arith) (omega arith))
        ∙ sym (xor_step (bit_and a m) (bit_and b m)
        ∙ ap₂ (λ (x y : ℕ). bit_xor x y * 2 + differ (bit_and a m % 2) (bit_and b m % 2)) (and_shr a m 1) (and_shr b m 1)
        ∙ ap₂ (λ (x y : ℕ). bit_xor (bit_and (a / 2) (m / 2)) (bit_and (b / 2) (m / 2)) * 2 + differ x y) (and_mod a m 1) (and_mod b m 1))

pub and-sum4 : (a b c d m : ℕ) → bit_and (sum4 a b c d) m ≡ sum4 (bit_and a m) (bit_and b m) (bit_and c m) (bit_and d m)
and-sum4 a b c d m = and-sum (bit_xor a b) (bit_xor c d) m ∙ ap₂ bit_xor (and-sum a b m) (and-sum c d m)

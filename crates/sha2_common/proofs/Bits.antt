-- SPDX-License-Identifier: MIT
-- Laws of the bitwise functions: the shorter forms that the code computes. Assumes nothing.
use mathlib.Core.Path.{◌≡◌, refl, ap, sym, ◌∙◌}
use Prim.Native.Nat.{ℕ, zero, suc, ◌-◌, ◌/◌, ◌%◌, ◌^◌, ◌<◌, min}
use native.Mathlib.Nat.{mod-lt, mod-eq_of_lt}
use native.Mathlib.Omega.{arith}
use lib.Arith.{bin_ind, digits_div, digits_mod}
use lib.Bits.{bit_and, bit_xor, differ, and_step, xor_step, and_zero_l, and_comm, xor_comm, and_mask, xor_add_and}
use Rattle.octets.proofs.Bits.{xor_assoc}
use Rattle.sha2_common.specs.Sha2.{Params, complement, Ch, Maj}

-- ---- AND over XOR, digit by digit

both-bit : (x y z : ℕ) → x < 2 → y < 2 → z < 2 → min x (differ y z) ≡ differ (min x y) (min x z)
both-bit zero zero zero h k l = refl
both-bit zero zero (suc zero) h k l = refl
both-bit zero zero (suc (suc z)) h k l = absurd (omega arith)
both-bit zero (suc zero) zero h k l = refl
both-bit zero (suc zero) (suc zero) h k l = refl
both-bit zero (suc zero) (suc (suc z)) h k l = absurd (omega arith)
both-bit zero (suc (suc y)) z h k l = absurd (omega arith)
both-bit (suc zero) zero zero h k l = refl
both-bit (suc zero) zero (suc zero) h k l = refl
both-bit (suc zero) zero (suc (suc z)) h k l = absurd (omega arith)
both-bit (suc zero) (suc zero) zero h k l = refl
both-bit (suc zero) (suc zero) (suc zero) h k l = refl
both-bit (suc zero) (suc zero) (suc (suc z)) h k l = absurd (omega arith)
both-bit (suc zero) (suc (suc y)) z h k l = absurd (omega arith)
both-bit (suc (suc x)) y z h k l = absurd (omega arith)

least-bit : (x y : ℕ) → x < 2 → min x y < 2
least-bit x y h = omega arith

differ-bit : (x y : ℕ) → x < 2 → y < 2 → differ x y < 2
differ-bit zero y h k = k
differ-bit (suc zero) zero h k = omega arith
differ-bit (suc zero) (suc y) h k = omega arith
differ-bit (suc (suc x)) y h k = absurd (omega arith)

bit : (n : ℕ) → n % 2 < 2
bit n = mod-lt n (omega arith)

and-half : (a b : ℕ) → bit_and a b / 2 ≡ bit_and (a / 2) (b / 2)
and-half a b = ap (λ (n : ℕ). n / 2) (and_step a b) ∙ digits_div (bit_and (a / 2) (b / 2)) (least-bit (a % 2) (b % 2) (bit a))

and-odd : (a b : ℕ) → bit_and a b % 2 ≡ min (a % 2) (b % 2)
and-odd a b = ap (λ (n : ℕ). n % 2) (and_step a b) ∙ digits_mod (bit_and (a / 2) (b / 2)) (least-bit (a % 2) (b % 2) (bit a))

xor-half : (a b : ℕ) → bit_xor a b / 2 ≡ bit_xor (a / 2) (b / 2)
xor-half a b = ap (λ (n : ℕ). n / 2) (xor_step a b) ∙ digits_div (bit_xor (a / 2) (b / 2)) (differ-bit (a % 2) (b % 2) (bit a) (bit b))

xor-odd : (a b : ℕ) → bit_xor a b % 2 ≡ differ (a % 2) (b % 2)
xor-odd a b = ap (λ (n : ℕ). n % 2) (xor_step a b) ∙ digits_mod (bit_xor (a / 2) (b / 2)) (differ-bit (a % 2) (b % 2) (bit a) (bit b))

pub and_xor : (a b c : ℕ) → bit_and a (bit_xor b c) ≡ bit_xor (bit_and a b) (bit_and a c)
and_xor = bin_ind (λ (a : ℕ). (b c : ℕ) → bit_and a (bit_xor b c) ≡ bit_xor (bit_and a b) (bit_and a c)) base step
  where
    base : (b c : ℕ) → bit_and 0 (bit_xor b c) ≡ bit_xor (bit_and 0 b) (bit_and 0 c)
    base b c = rw (and_zero_l (bit_xor b c), and_zero_l b, and_zero_l c)

    step : (a : ℕ) → ((b c : ℕ) → bit_and (a / 2) (bit_xor b c) ≡ bit_xor (bit_and (a / 2) b) (bit_and (a / 2) c)) → (b c : ℕ)
        → bit_and a (bit_xor b c) ≡ bit_xor (bit_and a b) (bit_and a c)
    step a ih b c =
        and_step a (bit_xor b c)
        ∙ rw (xor-half b c, xor-odd b c, ih (b / 2) (c / 2), both-bit (a % 2) (b % 2) (c % 2) (bit a) (bit b) (bit c))
        (sym (rw (xor_step (bit_and a b) (bit_and a c), and-half a b, and-half a c, and-odd a b, and-odd a c)))

-- ---- the complement

flipped : (k x : ℕ) → x < 2 ^ k → 2 ^ k - 1 - x ≡ bit_xor x (2 ^ k - 1)
flipped k x h =
    let e : bit_and x (2 ^ k - 1) ≡ x = and_mask x k ∙ mod-eq_of_lt h in
    omega (arith, xor_add_and x (2 ^ k - 1))

module _ (p : Params) where
  pub ch-short : (x y z : ℕ) → x < 2 ^ p.bits → z < 2 ^ p.bits → bit_xor z (bit_and x (bit_xor y z)) ≡ Ch p x y z
  ch-short x y z h k =
      let all : bit_and z (2 ^ p.bits - 1) ≡ z = and_mask z p.bits ∙ mod-eq_of_lt k in
      let other : bit_and (complement p x) z ≡ bit_xor (bit_and x z) z =
      rw (flipped p.bits x h, and_comm (bit_xor x (2 ^ p.bits - 1)) z, and_xor z x (2 ^ p.bits - 1), all, and_comm z x) in
      rw (other, and_xor x y z)
      (xor_comm z (bit_xor (bit_and x y) (bit_and x z)) ∙ xor_assoc (bit_and x y) (bit_and x z) z)

  pub maj-short : (x y z : ℕ) → bit_xor (bit_and x (bit_xor y z)) (bit_and y z) ≡ Maj p x y z
  maj-short x y z = rw (and_xor x y z)

-- SPDX-License-Identifier: MIT
-- Laws of XOR and OR on numbers. Assumes nothing.
use mathlib.Core.Path.{◌≡◌, refl, sym, ◌∙◌, ap}
use Prim.Native.Nat.{ℕ, zero, suc, ◌+◌, ◌*◌, ◌/◌, ◌%◌, ◌<◌}
use native.Mathlib.Nat.{mod-lt}
use native.Mathlib.Omega.{arith}
use lib.Arith.{bin_ind, digits_div, digits_mod}
use lib.Bits.{bit_xor, bit_or, differ, xor_step, xor_zero_l, xor_self, xor_zero_r, or_add_and, and_le_l, and_le_r}

differ-bit : (x y : ℕ) → x < 2 → y < 2 → differ x y < 2
differ-bit zero y h k = k
differ-bit (suc zero) zero h k = omega arith
differ-bit (suc zero) (suc y) h k = omega arith
differ-bit (suc (suc x)) y h k = absurd (omega arith)

differ-assoc : (x y z : ℕ) → x < 2 → y < 2 → z < 2 → differ (differ x y) z ≡ differ x (differ y z)
differ-assoc zero y z h k l = refl
differ-assoc (suc zero) zero z h k l = refl
differ-assoc (suc zero) (suc zero) zero h k l = refl
differ-assoc (suc zero) (suc zero) (suc zero) h k l = refl
differ-assoc (suc zero) (suc zero) (suc (suc z)) h k l = absurd (omega arith)
differ-assoc (suc zero) (suc (suc y)) z h k l = absurd (omega arith)
differ-assoc (suc (suc x)) y z h k l = absurd (omega arith)

bit : (n : ℕ) → n % 2 < 2
bit n = mod-lt n (omega arith)

-- the lowest digit of an XOR, and the others
xor-half : (a b : ℕ) → bit_xor a b / 2 ≡ bit_xor (a / 2) (b / 2)
xor-half a b = ap (λ (n : ℕ). n / 2) (xor_step a b) ∙ digits_div (bit_xor (a / 2) (b / 2)) (differ-bit (a % 2) (b % 2) (bit a) (bit b))

xor-odd : (a b : ℕ) → bit_xor a b % 2 ≡ differ (a % 2) (b % 2)
xor-odd a b = ap (λ (n : ℕ). n % 2) (xor_step a b) ∙ digits_mod (bit_xor (a / 2) (b / 2)) (differ-bit (a % 2) (b % 2) (bit a) (bit b))

-- XOR is associative
pub xor_assoc : (a b c : ℕ) → bit_xor (bit_xor a b) c ≡ bit_xor a (bit_xor b c)
xor_assoc = bin_ind (λ (a : ℕ). (b c : ℕ) → bit_xor (bit_xor a b) c ≡ bit_xor a (bit_xor b c)) base step
  where
    base : (b c : ℕ) → bit_xor (bit_xor 0 b) c ≡ bit_xor 0 (bit_xor b c)
    base b c = ap (λ (n : ℕ). bit_xor n c) (xor_zero_l b) ∙ sym (xor_zero_l (bit_xor b c))

    digit : (a b c : ℕ) → differ (bit_xor a b % 2) (c % 2) ≡ differ (a % 2) (bit_xor b c % 2)
    digit a b c = rw (xor-odd a b, xor-odd b c) (differ-assoc (a % 2) (b % 2) (c % 2) (bit a) (bit b) (bit c))

    step : (a : ℕ) → ((b c : ℕ) → bit_xor (bit_xor (a / 2) b) c ≡ bit_xor (a / 2) (bit_xor b c)) → (b c : ℕ)
        → bit_xor (bit_xor a b) c ≡ bit_xor a (bit_xor b c)
    step a ih b c =
        xor_step (bit_xor a b) c
        ∙ ap (λ (n : ℕ). bit_xor n (c / 2) * 2 + differ (bit_xor a b % 2) (c % 2)) (xor-half a b)
        ∙ ap (λ (n : ℕ). n * 2 + differ (bit_xor a b % 2) (c % 2)) (ih (b / 2) (c / 2))
        ∙ ap (λ (n : ℕ). bit_xor (a / 2) n * 2 + differ (bit_xor a b % 2) (c % 2)) (sym (xor-half b c))
        ∙ ap (λ (n : ℕ). bit_xor (a / 2) (bit_xor b c / 2) * 2 + n) (digit a b c)
        ∙ sym (xor_step a (bit_xor b c))

-- a mask put on twice is off again
pub xor-twice : (a b : ℕ) → bit_xor (bit_xor a b) b ≡ a
xor-twice a b = xor_assoc a b b ∙ ap (bit_xor a) (xor_self b) ∙ xor_zero_r a

-- numbers whose XOR is 0 are equal
pub xor-zero : (a b : ℕ) → bit_xor a b ≡ 0 → a ≡ b
xor-zero a b e = sym (xor-twice a b) ∙ ap (λ (n : ℕ). bit_xor n b) e ∙ xor_zero_l b

-- an OR is 0 just where both are
pub or-zero : (a b : ℕ) → bit_or a b ≡ 0 → (a ≡ 0) × (b ≡ 0)
or-zero a b e = (omega (arith, or_add_and a b, and_le_l a b, and_le_r a b), omega (arith, or_add_and a b, and_le_l a b, and_le_r a b))

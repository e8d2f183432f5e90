-- SPDX-License-Identifier: MIT
-- The bit operations act on each bit of a word apart. Assumes nothing.
use mathlib.Core.Path.{◌≡◌, refl, ◌∙◌, ap}
use Prim.Native.Nat.{ℕ, zero, suc, ◌+◌, ◌-◌, ◌/◌, ◌%◌, ◌^◌, ◌<◌, min}
use native.Mathlib.Nat.{mod-lt, mod-eq_of_lt, pow-suc}
use native.Mathlib.Omega.{arith}
use lib.Arith.{digits_mod}
use lib.Pow.{pow_pos, ones_split, ones_lt, high}
use lib.Bits.{bit_xor, bit_and, differ, xor_shr, and_shr, xor_step, and_step, and_mask, xor_add_and}
use Rattle.bitslice.specs.Lanes.{lane}

pub bit : (n : ℕ) → n % 2 < 2
bit n = mod-lt n (omega arith)

differ-bit : (x y : ℕ) → x < 2 → y < 2 → differ x y < 2
differ-bit zero y h k = k
differ-bit (suc zero) zero h k = omega arith
differ-bit (suc zero) (suc y) h k = omega arith
differ-bit (suc (suc x)) y h k = absurd (omega arith)

pub xor-odd : (a b : ℕ) → bit_xor a b % 2 ≡ differ (a % 2) (b % 2)
xor-odd a b = ap (λ (n : ℕ). n % 2) (xor_step a b) ∙ digits_mod (bit_xor (a / 2) (b / 2)) (differ-bit (a % 2) (b % 2) (bit a) (bit b))

and-odd : (a b : ℕ) → bit_and a b % 2 ≡ min (a % 2) (b % 2)
and-odd a b = ap (λ (n : ℕ). n % 2) (and_step a b) ∙ digits_mod (bit_and (a / 2) (b / 2)) (omega (arith, bit a, bit b))

pub lane-bit : (j w : ℕ) → lane j w < 2
unfolding lane
lane-bit j w = bit (w / 2 ^ j)

pub lane_xor : (j a b : ℕ) → lane j (bit_xor a b) ≡ differ (lane j a) (lane j b)
unfolding lane
lane_xor j a b = ap (λ (n : ℕ). n % 2) (xor_shr a b j) ∙ xor-odd (a / 2 ^ j) (b / 2 ^ j)

pub lane_and : (j a b : ℕ) → lane j (bit_and a b) ≡ min (lane j a) (lane j b)
unfolding lane
lane_and j a b = ap (λ (n : ℕ). n % 2) (and_shr a b j) ∙ and-odd (a / 2 ^ j) (b / 2 ^ j)

-- The words of w bits: a number taken from the largest is its complement.
abbrev pub ones : ℕ → ℕ
ones w = 2 ^ w - 1

flip-xor : (w a : ℕ) → a < 2 ^ w → ones w - a ≡ bit_xor a (ones w)
flip-xor w a h =
    let e : bit_and a (2 ^ w - 1) ≡ a = and_mask a w ∙ mod-eq_of_lt h in
    omega (arith, xor_add_and a (2 ^ w - 1), e)

pub lane_ones : (w j : ℕ) → j < w → lane j (ones w) ≡ 1
unfolding lane
lane_ones w j h =
    let e : w ≡ suc (w - suc j) + j = omega arith in
    let p : (2 ^ (suc (w - suc j) + j) - 1) / 2 ^ j ≡ 2 ^ suc (w - suc j) - 1 =
    ap (λ (x : ℕ). x / 2 ^ j) (ones_split (suc (w - suc j)) j) ∙ high (2 ^ suc (w - suc j) - 1) j (ones_lt j) in
    ap (λ (x : ℕ). (2 ^ x - 1) / 2 ^ j % 2) e ∙ ap (λ (x : ℕ). x % 2) p
    ∙ omega (arith, pow-suc 2 (w - suc j), pow_pos (w - suc j))

flip-bit : (x : ℕ) → x < 2 → differ x 1 ≡ 1 - x
flip-bit zero h = refl
flip-bit (suc zero) h = refl
flip-bit (suc (suc x)) h = absurd (omega arith)

pub lane-flip : (w j a : ℕ) → a < 2 ^ w → j < w → lane j (ones w - a) ≡ 1 - lane j a
lane-flip w j a h k =
    ap (lane j) (flip-xor w a h) ∙ lane_xor j a (ones w) ∙ ap (differ (lane j a)) (lane_ones w j k) ∙ flip-bit (lane j a) (lane-bit j a)

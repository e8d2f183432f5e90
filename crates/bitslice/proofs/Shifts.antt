-- SPDX-License-Identifier: MIT
-- Bits of a word that is shifted, cut, joined or turned. Assumes nothing.
use mathlib.Core.Path.{◌≡◌, sym, ◌∙◌, ap, ap₂}
use Prim.Native.Nat.{ℕ, suc, ◌+◌, ◌*◌, ◌-◌, ◌/◌, ◌%◌, ◌^◌, ◌≤◌, ◌<◌, max}
use native.Mathlib.Nat.{pow-suc, zero-max, max-zero, mul_assoc, lt_of_lt_of_le, div-eq_of_lt}
use native.Mathlib.Omega.{arith}
use lib.Arith.{digits_mod, mod-mul}
use lib.Pow.{pow_pos, pow-add, shr-shr, shl-shr, field, pow_mono}
use lib.Bits.{bit_or, or_shr, or_step}
use Rattle.bitslice.specs.Lanes.{lane}
use Rattle.bitslice.proofs.Bits.{bit}

or-odd : (a b : ℕ) → bit_or a b % 2 ≡ max (a % 2) (b % 2)
or-odd a b = ap (λ (n : ℕ). n % 2) (or_step a b) ∙ digits_mod (bit_or (a / 2) (b / 2)) (omega (arith, bit a, bit b))

pub lane_or : (j a b : ℕ) → lane j (bit_or a b) ≡ max (lane j a) (lane j b)
unfolding lane
lane_or j a b = ap (λ (n : ℕ). n % 2) (or_shr a b j) ∙ or-odd (a / 2 ^ j) (b / 2 ^ j)

pub lane-shr : (j n w : ℕ) → lane j (w / 2 ^ n) ≡ lane (n + j) w
unfolding lane
lane-shr j n w = ap (λ (x : ℕ). x % 2) (shr-shr w n j)

-- Past its highest bit a number has zeros.
pub lane_past : (k j w : ℕ) → w < 2 ^ k → k ≤ j → lane j w ≡ 0
unfolding lane
lane_past k j w h l =
    let e : w / 2 ^ j ≡ 0 = div-eq_of_lt (lt_of_lt_of_le h (pow_mono l)) in
    ap (λ (x : ℕ). x % 2) e

pub lane-shl : (j n w : ℕ) → lane (n + j) (w * 2 ^ n) ≡ lane j w
lane-shl j n w = sym (lane-shr j n (w * 2 ^ n)) ∙ ap (lane j) (shl-shr w n)

pub lane-shl-below : (j n w : ℕ) → j < n → lane j (w * 2 ^ n) ≡ 0
unfolding lane
lane-shl-below j n w h =
    let e : n ≡ suc (n - suc j) + j = omega arith in
    let p : w * 2 ^ (suc (n - suc j) + j) ≡ w * 2 ^ (n - suc j) * 2 * 2 ^ j =
    ap (λ (x : ℕ). w * x) (pow-add 2 (suc (n - suc j)) j ∙ ap (λ (x : ℕ). x * 2 ^ j) (pow-suc 2 (n - suc j)))
    ∙ sym (mul_assoc w (2 ^ (n - suc j) * 2) (2 ^ j)) ∙ ap (λ (x : ℕ). x * 2 ^ j) (sym (mul_assoc w (2 ^ (n - suc j)) 2)) in
    ap (λ (x : ℕ). w * 2 ^ x / 2 ^ j % 2) e ∙ ap (λ (x : ℕ). x / 2 ^ j % 2) p
    ∙ ap (λ (x : ℕ). x % 2) (shl-shr (w * 2 ^ (n - suc j) * 2) j) ∙ omega arith

-- The lowest k bits stay.
pub lane_low : (k j w : ℕ) → j < k → lane j (w % 2 ^ k) ≡ lane j w
unfolding lane
lane_low k j w h =
    let e : k ≡ suc (k - suc j) + j = omega arith in
    ap (λ (x : ℕ). w % 2 ^ x / 2 ^ j % 2) e ∙ ap (λ (x : ℕ). x % 2) (field w (suc (k - suc j)) j)
    ∙ ap (λ (x : ℕ). w / 2 ^ j % x % 2) (pow-suc 2 (k - suc j)) ∙ mod-two (w / 2 ^ j) (2 ^ (k - suc j)) (pow_pos (k - suc j))
  where
    two_pos : 0 < 2
    two_pos = omega arith

    mod-two : (x m : ℕ) → 0 < m → x % (m * 2) % 2 ≡ x % 2
    mod-two x m p = omega (arith, mod-mul x p two_pos)

-- A word of 64 bits turned to the right by n.
abbrev pub turned : ℕ → ℕ → ℕ
turned n w = bit_or (w / 2 ^ n) (w * 2 ^ (64 - n) % 2 ^ 64)

-- Where bit j of the result comes from.
pub from-above : (n w j : ℕ) → w < 2 ^ 64 → n < 64 → j < 64 - n → lane j (bit_or (w / 2 ^ n) (w * 2 ^ (64 - n) % 2 ^ 64)) ≡ lane (n + j) w
from-above n w j h l k =
    lane_or j (w / 2 ^ n) (w * 2 ^ (64 - n) % 2 ^ 64)
    ∙ ap₂ max (lane-shr j n w) (lane_low 64 j (w * 2 ^ (64 - n)) (omega arith) ∙ lane-shl-below j (64 - n) w k)
    ∙ max-zero (lane (n + j) w)

pub from-below : (n w j : ℕ) → w < 2 ^ 64 → n < 64 → j < 64 → 64 - n ≤ j → lane j (bit_or (w / 2 ^ n) (w * 2 ^ (64 - n) % 2 ^ 64)) ≡ lane (j - (64 - n)) w
from-below n w j h l k g =
    let e : j ≡ (64 - n) + (j - (64 - n)) = omega arith in
    lane_or j (w / 2 ^ n) (w * 2 ^ (64 - n) % 2 ^ 64)
    ∙ ap₂ max (lane-shr j n w ∙ lane_past 64 (n + j) w h (omega arith))
    (lane_low 64 j (w * 2 ^ (64 - n)) k ∙ ap (λ (x : ℕ). lane x (w * 2 ^ (64 - n))) e ∙ lane-shl (j - (64 - n)) (64 - n) w)
    ∙ zero-max (lane (j - (64 - n)) w)

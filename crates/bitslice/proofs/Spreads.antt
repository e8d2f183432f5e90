-- SPDX-License-Identifier: MIT
-- Laws of bits and bytes that are spread over the lanes where they stand.
-- Assumes nothing.
use mathlib.Core.Path.{◌≡◌, refl, sym, ◌∙◌, ap}
use mathlib.Core.Logic.{◌⊎◌, inl, inr}
use Prim.Native.Nat.{ℕ, zero, suc, ◌+◌, ◌*◌, ◌/◌, ◌%◌, ◌^◌, ◌-◌, ◌≤◌, ◌<◌}
use native.Mathlib.Nat.{div-add-mod', add_comm, div-one}
use native.Mathlib.Omega.{arith}
use lib.Bits.{bit_and, and_block, and_mask}
use lib.Pow.{shr-shr}
use lib.Arith.{mod-mul}
use Rattle.bitslice.specs.Lanes.{lane, byte_of, lane_byte, Lowest, Spread}
use Rattle.bitslice.proofs.Bits.{lane_ones}
use Rattle.bitslice.proofs.Shifts.{lane-shr, lane_low, lane_past}
use Rattle.bitslice.proofs.Turns.{le-or-lt}

-- ---- every eighth bit

one_more : (w m : ℕ) → bit_and w (m * 256 + 1) ≡ bit_and (w / 256) m * 256 + w % 2
one_more w m =
    ap (λ (x : ℕ). bit_and x (m * 256 + 1)) (sym (div-add-mod' w 256))
    ∙ and_block 8 (w / 256) m (w % 256) 1 (omega arith) (omega arith)
    ∙ ap (λ (x : ℕ). bit_and (w / 256) m * 256 + x) (and_mask (w % 256) 1 ∙ low)
  where
    low : w % 256 % 2 ≡ w % 2
    low = omega arith

-- 1 in each of n bytes.
unfoldable pub ones : ℕ → ℕ
ones zero = 0
ones (suc n) = ones n * 256 + 1

-- n bits of a word, each eight from the next, in bytes.
unfoldable pub eighths : ℕ → ℕ → ℕ
eighths zero w = 0
eighths (suc n) w = eighths n (w / 256) * 256 + w % 2

pub masked : (n w : ℕ) → bit_and w (ones n) ≡ eighths n w
unfolding ones eighths
masked zero w = and_mask w 0 ∙ omega arith
masked (suc n) w = one_more w (ones n) ∙ ap (λ (x : ℕ). x * 256 + w % 2) (masked n (w / 256))

-- ---- eight times over

-- Bit t of a byte that is all ones or all zeros.
all_ones : (b t : ℕ) → b < 2 → t < 8 → lane t (b * 255) ≡ b
all_ones zero t h l = lane_past 0 t 0 (omega arith) (omega arith)
all_ones (suc zero) t h l = lane_ones 8 t l
all_ones (suc (suc b)) t h l = absurd (omega arith)

-- A bit in the lowest byte, and one above it.
in-byte : (x d j : ℕ) → d < 256 → j < 8 → lane j (x * 256 + d) ≡ lane j d
in-byte x d j h l =
    let e : (x * 256 + d) % 256 ≡ d = omega arith in
    sym (lane_low 8 j (x * 256 + d) l) ∙ ap (lane j) e

above-byte : (x d j : ℕ) → d < 256 → 8 ≤ j → lane j (x * 256 + d) ≡ lane (j - 8) x
above-byte x d j h l =
    let e : (x * 256 + d) / 256 ≡ x = omega arith in
    let f : 8 + (j - 8) ≡ j = omega arith in
    ap (λ (n : ℕ). lane n (x * 256 + d)) (sym f) ∙ sym (lane-shr (j - 8) 8 (x * 256 + d)) ∙ ap (lane (j - 8)) e

lowest-bit : (w : ℕ) → w % 2 ≡ lane 0 w
unfolding lane
lowest-bit w = ap (λ (x : ℕ). x % 2) (sym (div-one w))

-- Each bit of the eighths, eight times over, is the lowest of its byte.
filled : (n w j : ℕ) → j < 8 * n → lane j (eighths n w * 255) ≡ lane (8 * (j / 8)) w
unfolding eighths
filled zero w j h = absurd (omega arith)
filled (suc n) w j h = go (le-or-lt 8 j) (filled n (w / 256) (j - 8))
  where
    x : ℕ
    x = eighths n (w / 256) * 255

    split : (eighths n (w / 256) * 256 + w % 2) * 255 ≡ x * 256 + w % 2 * 255
    split = omega arith

    go : (8 ≤ j) ⊎ (j < 8) → (j - 8 < 8 * n → lane (j - 8) x ≡ lane (8 * ((j - 8) / 8)) (w / 256))
        → lane j ((eighths n (w / 256) * 256 + w % 2) * 255) ≡ lane (8 * (j / 8)) w
    go (inr l) f =
        let e : 8 * (j / 8) ≡ 0 = omega arith in
        ap (lane j) split ∙ in-byte x (w % 2 * 255) j (omega arith) l ∙ all_ones (w % 2) j (omega arith) l ∙ rw e (lowest-bit w)
    go (inl l) f =
        let e : 8 + 8 * ((j - 8) / 8) ≡ 8 * (j / 8) = omega arith in
        ap (lane j) split ∙ above-byte x (w % 2 * 255) j (omega arith) l ∙ f (omega arith)
        ∙ lane-shr (8 * ((j - 8) / 8)) 8 w ∙ ap (λ (k : ℕ). lane k w) e

pub lowest : (w r : ℕ) → r ≡ bit_and w 0x101010101010101 * 255 → Lowest w r
unfolding ones
lowest w r e = record { each = λ j h. ap (lane j) (e ∙ ap (λ (x : ℕ). x * 255) (masked 8 w)) ∙ filled 8 w j (omega arith) }

-- ---- bytes

swap-shr : (x i k : ℕ) → x / 2 ^ i / 2 ^ k ≡ x / 2 ^ k / 2 ^ i
swap-shr x i k = shr-shr x i k ∙ ap (λ (n : ℕ). x / 2 ^ n) (add_comm i k) ∙ sym (shr-shr x k i)

digit : (z m : ℕ) → 0 < m → z / 2 % m * 2 + z % 2 ≡ z % (m * 2)
digit z m h = sym (mod-mul z h two_pos)
  where
    two_pos : 0 < 2
    two_pos = omega arith

half : (y i : ℕ) → y / 2 ^ (i + 1) ≡ y / 2 ^ i / 2
half y i = sym (shr-shr y i 1)

next : (y i m x : ℕ) → 0 < m → x ≡ y / 2 ^ (i + 1) % m → x * 2 + y / 2 ^ i % 2 ≡ y / 2 ^ i % (m * 2)
next y i m x h e = ap (λ (n : ℕ). n * 2 + y / 2 ^ i % 2) (e ∙ ap (λ (n : ℕ). n % m) (half y i)) ∙ digit (y / 2 ^ i) m h

byte-of-bits : (y : ℕ) → byte_of (y / 128 % 2) (y / 64 % 2) (y / 32 % 2) (y / 16 % 2) (y / 8 % 2) (y / 4 % 2) (y / 2 % 2) (y / 1 % 2) ≡ y / 1 % 256
unfolding byte_of
byte-of-bits y =
    next y 0 128 _ (omega arith) (next y 1 64 _ (omega arith) (next y 2 32 _ (omega arith) (next y 3 16 _ (omega arith)
    (next y 4 8 _ (omega arith) (next y 5 4 _ (omega arith) (next y 6 2 _ (omega arith) refl))))))

-- Lane k of a word and its seven shifts is the byte from bit k on.
pub shifts : (x k : ℕ)
    → byte_of (lane k (x / 128)) (lane k (x / 64)) (lane k (x / 32)) (lane k (x / 16)) (lane k (x / 8)) (lane k (x / 4)) (lane k (x / 2)) (lane k x)
    ≡ x / 2 ^ k % 256
unfolding lane
shifts x k =
    rw (swap-shr x 7 k, swap-shr x 6 k, swap-shr x 5 k, swap-shr x 4 k, swap-shr x 3 k, swap-shr x 2 k, swap-shr x 1 k)
    (ap (byte_of (y / 128 % 2) (y / 64 % 2) (y / 32 % 2) (y / 16 % 2) (y / 8 % 2) (y / 4 % 2) (y / 2 % 2)) (ap (λ (n : ℕ). n % 2) (sym (div-one y)))
    ∙ byte-of-bits y ∙ ap (λ (n : ℕ). n % 256) (div-one y))
  where
    y : ℕ
    y = x / 2 ^ k

-- The lowest bits of a word and its seven shifts, spread.
pub spread : (w p0 p1 p2 p3 p4 p5 p6 p7 : ℕ) → Lowest w p0 → Lowest (w / 2) p1 → Lowest (w / 4) p2 → Lowest (w / 8) p3
    → Lowest (w / 16) p4 → Lowest (w / 32) p5 → Lowest (w / 64) p6 → Lowest (w / 128) p7
    → Spread w (record { p0 = p0; p1 = p1; p2 = p2; p3 = p3; p4 = p4; p5 = p5; p6 = p6; p7 = p7 })
unfolding lane_byte
spread w p0 p1 p2 p3 p4 p5 p6 p7 e0 e1 e2 e3 e4 e5 e6 e7 =
    record {
      each = λ j h.
          rw (e0.each j h, e1.each j h, e2.each j h, e3.each j h, e4.each j h, e5.each j h, e6.each j h, e7.each j h)
          (shifts w (8 * (j / 8)));
    }

-- SPDX-License-Identifier: MIT
-- Bits that change places between two words.
-- Assumes nothing.
use mathlib.Core.Path.{◌≡◌, refl, sym, ◌∙◌, ap}
use mathlib.Core.Bool.{Bool}
use mathlib.Core.Logic.{⊎_elim}
use Prim.Native.Nat.{ℕ, zero, suc, ◌+◌, ◌*◌, ◌-◌, ◌/◌, ◌%◌, ◌^◌, ◌≤◌, ◌<◌, min}
use native.Mathlib.Nat.{min-zero, mod-lt, lt_of_le_of_lt}
use native.Mathlib.Omega.{arith}
use lib.Bits.{bit_xor, bit_and, differ, xor_lt, and_le_r}
use lib.Dec.{T, eqb, eqb→eq}
use lib.ListN.{replicate}
use Rattle.octets.proofs.Entries.{all, entry-rule}
use Rattle.bitslice.specs.Lanes.{lane}
use Rattle.bitslice.proofs.Bits.{lane-bit, lane_xor, lane_and}
use Rattle.bitslice.proofs.Shifts.{lane-shr, lane_low, lane-shl, lane-shl-below}
use Rattle.bitslice.proofs.Turns.{le-or-lt}
use Rattle.bit_transpose.specs.Transposition.{Mask, Swapped}

-- ---- the masks, each tested on its 64 bits

unfoldable alternates : (n m j x : ℕ) → Bool
alternates n m j x = eqb (lane j m) (1 - j / n % 2)

masked : (n m : ℕ) → T (all (alternates n m) 0 (replicate 64 0)) → (j : ℕ) → j < 64 → lane j m ≡ 1 - j / n % 2
unfolding alternates
masked n m t j h = eqb→eq _ _ (entry-rule (alternates n m) (replicate 64 0) t j h)

pub mask-1 : Mask 1 0x5555555555555555
unfolding alternates lane
mask-1 = record { lanes = masked 1 _ tt; down = λ j e. (omega arith, omega arith); above = λ j l e. omega arith }

pub mask-2 : Mask 2 0x3333333333333333
unfolding alternates lane
mask-2 = record { lanes = masked 2 _ tt; down = λ j e. (omega arith, omega arith); above = λ j l e. omega arith }

pub mask-4 : Mask 4 0xf0f0f0f0f0f0f0f
unfolding alternates lane
mask-4 = record { lanes = masked 4 _ tt; down = λ j e. (omega arith, omega arith); above = λ j l e. omega arith }

pub mask-8 : Mask 8 0xff00ff00ff00ff
unfolding alternates lane
mask-8 = record { lanes = masked 8 _ tt; down = λ j e. (omega arith, omega arith); above = λ j l e. omega arith }

pub mask-16 : Mask 16 0xffff0000ffff
unfolding alternates lane
mask-16 = record { lanes = masked 16 _ tt; down = λ j e. (omega arith, omega arith); above = λ j l e. omega arith }

pub mask-32 : Mask 32 0xffffffff
unfolding alternates lane
mask-32 = record { lanes = masked 32 _ tt; down = λ j e. (omega arith, omega arith); above = λ j l e. omega arith }

-- ---- one exchange

cancel : (x y : ℕ) → x < 2 → y < 2 → differ y (min (differ x y) 1) ≡ x
cancel zero zero h k = refl
cancel zero (suc zero) h k = refl
cancel zero (suc (suc y)) h k = absurd (omega arith)
cancel (suc zero) zero h k = refl
cancel (suc zero) (suc zero) h k = refl
cancel (suc zero) (suc (suc y)) h k = absurd (omega arith)
cancel (suc (suc x)) y h k = absurd (omega arith)

cancel_left : (x y : ℕ) → x < 2 → y < 2 → differ x (min (differ x y) 1) ≡ y
cancel_left zero zero h k = refl
cancel_left zero (suc zero) h k = refl
cancel_left zero (suc (suc y)) h k = absurd (omega arith)
cancel_left (suc zero) zero h k = refl
cancel_left (suc zero) (suc zero) h k = refl
cancel_left (suc zero) (suc (suc y)) h k = absurd (omega arith)
cancel_left (suc (suc x)) y h k = absurd (omega arith)

differ-none : (x : ℕ) → differ x 0 ≡ x
differ-none zero = refl
differ-none (suc x) = refl

kept : (x z : ℕ) → differ x (min z 0) ≡ x
kept x z = ap (differ x) (min-zero z) ∙ differ-none x

module _ (a b m n : ℕ) (k : Mask n m) (hn : n < 64) where
  abbrev t : ℕ
  t = bit_and (bit_xor (a / 2 ^ n) b) m

  t-lane : (j : ℕ) → lane j t ≡ min (differ (lane (n + j) a) (lane j b)) (lane j m)
  t-lane j =
      lane_and j (bit_xor (a / 2 ^ n) b) m
      ∙ ap (λ (x : ℕ). min x (lane j m)) (lane_xor j (a / 2 ^ n) b ∙ ap (λ (x : ℕ). differ x (lane j b)) (lane-shr j n a))

  module _ (j : ℕ) (h : j < 64) where
    under : j / n % 2 ≡ 0 → lane j m ≡ 1
    under d = k.lanes j h ∙ rw d

    beside : j / n % 2 ≡ 1 → lane j m ≡ 0
    beside d = k.lanes j h ∙ rw d

    b-lane : lane j (bit_xor b t) ≡ differ (lane j b) (min (differ (lane (n + j) a) (lane j b)) (lane j m))
    b-lane = lane_xor j b t ∙ ap (differ (lane j b)) (t-lane j)

    low-b : j / n % 2 ≡ 0 → lane j (bit_xor b t) ≡ lane (n + j) a
    low-b d =
        b-lane ∙ ap (λ (x : ℕ). differ (lane j b) (min (differ (lane (n + j) a) (lane j b)) x)) (under d)
        ∙ cancel (lane (n + j) a) (lane j b) (lane-bit (n + j) a) (lane-bit j b)

    high-b : j / n % 2 ≡ 1 → lane j (bit_xor b t) ≡ lane j b
    high-b d =
        b-lane ∙ ap (λ (x : ℕ). differ (lane j b) (min (differ (lane (n + j) a) (lane j b)) x)) (beside d)
        ∙ kept (lane j b) (differ (lane (n + j) a) (lane j b))

    moved : lane j (bit_xor a (t * 2 ^ n % 2 ^ 64)) ≡ differ (lane j a) (lane j (t * 2 ^ n))
    moved = lane_xor j a (t * 2 ^ n % 2 ^ 64) ∙ ap (differ (lane j a)) (lane_low 64 j (t * 2 ^ n) h)

    from : n ≤ j → lane j (t * 2 ^ n) ≡ min (differ (lane j a) (lane (j - n) b)) (lane (j - n) m)
    from l =
        let e : n + (j - n) ≡ j = omega arith in
        ap (λ (x : ℕ). lane x (t * 2 ^ n)) (sym e) ∙ lane-shl (j - n) n t ∙ t-lane (j - n)
        ∙ ap (λ (x : ℕ). min (differ (lane x a) (lane (j - n) b)) (lane (j - n) m)) e

    low-a : j / n % 2 ≡ 0 → lane j (bit_xor a (t * 2 ^ n % 2 ^ 64)) ≡ lane j a
    low-a d =
        moved
        ∙ ⊎_elim
        (λ (l : n ≤ j). ap (differ (lane j a)) (from l ∙ ap (min (differ (lane j a) (lane (j - n) b))) (k.lanes (j - n) (omega arith) ∙ rw (k.above j l d)))
        ∙ kept (lane j a) (differ (lane j a) (lane (j - n) b)))
        (λ (l : j < n). ap (differ (lane j a)) (lane-shl-below j n t l) ∙ differ-none (lane j a))
        (le-or-lt n j)

    high-a : j / n % 2 ≡ 1 → lane j (bit_xor a (t * 2 ^ n % 2 ^ 64)) ≡ lane (j - n) b
    high-a d =
        moved
        ∙ ap (differ (lane j a)) (from (k.down j d).0 ∙ ap (min (differ (lane j a) (lane (j - n) b))) (k.lanes (j - n) (omega arith) ∙ rw (k.down j d).1))
        ∙ cancel_left (lane j a) (lane (j - n) b) (lane-bit j a) (lane-bit (j - n) b)

  pub swapped : a < 2 ^ 64 → b < 2 ^ 64 → m < 2 ^ 64 → Swapped n a b (bit_xor a (t * 2 ^ n % 2 ^ 64)) (bit_xor b t)
  swapped ha hb hm =
      record {
        low-a = low-a;
        high-a = high-a;
        low-b = low-b;
        high-b = high-b;
        small = (xor_lt 64 _ _ ha (mod-lt (t * 2 ^ n) (omega arith)), xor_lt 64 _ _ hb (lt_of_le_of_lt (and_le_r (bit_xor (a / 2 ^ n) b) m) hm));
      }

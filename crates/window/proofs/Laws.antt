-- SPDX-License-Identifier: MIT
-- Laws of the replay window. Assumes nothing.
use mathlib.Core.Path.{◌≡◌, refl, sym, ◌∙◌, ap}
use mathlib.Core.Bool.{Bool, true, false, false≢true}
use Prim.Native.Nat.{ℕ, zero, suc, ◌+◌, ◌*◌, ◌-◌, ◌/◌, ◌%◌, ◌^◌, ◌<◌, ◌≤◌}
use native.Mathlib.Omega.{arith}
use lib.Dec.{leb, ltb, eqb}
use native.Mathlib.Nat.{pow-suc, mod-le, mod-lt, add-mul, one-mul, mul_assoc, mul-mod_left, lt_of_lt_of_le}
use lib.Arith.{digits_lt}
use lib.Pow.{pow-add, pow_mono, shl_lt, shl-shr, shr-shr, shr_lt, split, high, field, mod-mod-pow}
use borrow.Author.Tests.{lt-ltb, le-ltb, le-leb, lt-leb, eq-eqb, ne_eqb, ltb-true, ltb-false, leb-true, leb-false, eqb-true, eqb-false}
use Rattle.octets.specs.Octets.{pick, both}
use Rattle.answers.proofs.Basics.{Two, yes', no', two, both_true, both-and}
use Rattle.window.specs.Window.{span, bit, fresh, fits, seen, too_old, moved}
use Rattle.window.specs.declared.Window.{Window}

-- ---- bits

pub power-some : (i : ℕ) → 0 < 2 ^ i
power-some i = lt_of_lt_of_le (omega arith) (pow_mono {i = 0} {j = i} (omega arith))

bit-two : (mask i : ℕ) → bit mask i < 2
unfolding bit
bit-two mask i = mod-lt (mask / 2 ^ i) (omega arith)

one_more : (d : ℕ) → 1 + d ≡ suc d
one_more d = omega arith

-- with a bit set that was not: that bit, those below it, those above it
module _ (mask j : ℕ) (unset : bit mask j ≡ 0) where
  at_place : (mask + 2 ^ j) / 2 ^ j ≡ mask / 2 ^ j + 1
  at_place =
      let e : mask + 2 ^ j ≡ (mask / 2 ^ j + 1) * 2 ^ j + mask % 2 ^ j =
      omega (arith, split mask j, add-mul (mask / 2 ^ j) 1 (2 ^ j), one-mul (2 ^ j))
      in
      ap (λ (x : ℕ). x / 2 ^ j) e ∙ high (mask / 2 ^ j + 1) j (mod-lt mask (power-some j))

  pub set_here : bit (mask + 2 ^ j) j ≡ 1
  unfolding bit
  set_here = ap (λ (x : ℕ). x % 2) at_place ∙ omega (arith, unset)

  pub set_below : (i : ℕ) → i < j → bit (mask + 2 ^ j) i ≡ bit mask i
  unfolding bit
  set_below i h =
      let d = j - suc i in
      let e : j ≡ suc d + i = omega arith in
      let p : 2 ^ j ≡ 2 ^ d * 2 * 2 ^ i = ap (λ (k : ℕ). 2 ^ k) e ∙ pow-add 2 (suc d) i ∙ ap (λ (x : ℕ). x * 2 ^ i) (pow-suc 2 d) in
      let q : mask + 2 ^ j ≡ (mask / 2 ^ i + 2 ^ d * 2) * 2 ^ i + mask % 2 ^ i = omega (arith, split mask i, add-mul (mask / 2 ^ i) (2 ^ d * 2) (2 ^ i), p) in
      ap (λ (x : ℕ). x % 2) (ap (λ (x : ℕ). x / 2 ^ i) q ∙ high (mask / 2 ^ i + 2 ^ d * 2) i (mod-lt mask (power-some i))) ∙ omega arith

  pub set-above : (i : ℕ) → j < i → bit (mask + 2 ^ j) i ≡ bit mask i
  unfolding bit
  set-above i h =
      let d = i - suc j in
      let e : i ≡ j + suc d = omega arith in
      let halves : (x : ℕ) → x / 2 ^ j / 2 ^ suc d ≡ x / 2 ^ i = λ x. shr-shr x j (suc d) ∙ ap (λ (k : ℕ). x / 2 ^ k) (sym e) in
      let one : (x : ℕ) → x / 2 ^ 1 / 2 ^ d ≡ x / 2 ^ suc d = λ x. shr-shr x 1 d ∙ ap (λ (k : ℕ). x / 2 ^ k) (one_more d) in
      let same_half : (mask / 2 ^ j + 1) / 2 ^ 1 ≡ mask / 2 ^ j / 2 ^ 1 = omega (arith, unset) in
      ap (λ (x : ℕ). x % 2)
      (sym (halves (mask + 2 ^ j)) ∙ ap (λ (x : ℕ). x / 2 ^ suc d) at_place ∙ sym (one (mask / 2 ^ j + 1)) ∙ ap (λ (x : ℕ). x / 2 ^ d) same_half ∙ one (mask / 2 ^ j) ∙ halves mask)

-- a mask moved up by d places
module _ (mask d : ℕ) where
  pub up-bit : (i : ℕ) → d ≤ i → i < span → bit (mask * 2 ^ d % 2 ^ span) i ≡ bit mask (i - d)
  unfolding bit
  up-bit i h k =
      let j = span - suc i in
      let e : span ≡ suc j + i = omega arith in
      let cut : mask * 2 ^ d % 2 ^ span / 2 ^ i ≡ mask * 2 ^ d / 2 ^ i % 2 ^ suc j = ap (λ (n : ℕ). mask * 2 ^ d % 2 ^ n / 2 ^ i) e ∙ field (mask * 2 ^ d) (suc j) i in
      let low : mask * 2 ^ d / 2 ^ i % 2 ^ suc j % 2 ≡ mask * 2 ^ d / 2 ^ i % 2 = ap (λ (n : ℕ). mask * 2 ^ d / 2 ^ i % 2 ^ n % 2) (suc-last j) ∙ mod-mod-pow (mask * 2 ^ d / 2 ^ i) j 1 in
      let f : i ≡ d + (i - d) = omega arith in
      let down : mask * 2 ^ d / 2 ^ i ≡ mask / 2 ^ (i - d) = ap (λ (n : ℕ). mask * 2 ^ d / 2 ^ n) f ∙ sym (shr-shr (mask * 2 ^ d) d (i - d)) ∙ ap (λ (x : ℕ). x / 2 ^ (i - d)) (shl-shr mask d) in
      ap (λ (x : ℕ). x % 2) cut ∙ low ∙ ap (λ (x : ℕ). x % 2) down
    where
      suc-last : (j : ℕ) → suc j ≡ j + 1
      suc-last j = omega arith

  pub up_none : (i : ℕ) → i < d → i < span → bit (mask * 2 ^ d % 2 ^ span) i ≡ 0
  unfolding bit
  up_none i h k =
      let j = span - suc i in
      let e : span ≡ suc j + i = omega arith in
      let cut : mask * 2 ^ d % 2 ^ span / 2 ^ i ≡ mask * 2 ^ d / 2 ^ i % 2 ^ suc j = ap (λ (n : ℕ). mask * 2 ^ d % 2 ^ n / 2 ^ i) e ∙ field (mask * 2 ^ d) (suc j) i in
      let low : mask * 2 ^ d / 2 ^ i % 2 ^ suc j % 2 ≡ mask * 2 ^ d / 2 ^ i % 2 = ap (λ (n : ℕ). mask * 2 ^ d / 2 ^ i % 2 ^ n % 2) (suc-last j) ∙ mod-mod-pow (mask * 2 ^ d / 2 ^ i) j 1 in
      let f : d ≡ suc (d - suc i) + i = omega arith in
      let p : mask * 2 ^ d ≡ mask * (2 ^ (d - suc i) * 2) * 2 ^ i = ap (λ (n : ℕ). mask * 2 ^ n) f ∙ ap (λ (x : ℕ). mask * x) (pow-add 2 (suc (d - suc i)) i ∙ ap (λ (x : ℕ). x * 2 ^ i) (pow-suc 2 (d - suc i))) ∙ sym (mul_assoc mask (2 ^ (d - suc i) * 2) (2 ^ i)) in
      let down : mask * 2 ^ d / 2 ^ i ≡ mask * (2 ^ (d - suc i) * 2) = ap (λ (x : ℕ). x / 2 ^ i) p ∙ shl-shr (mask * (2 ^ (d - suc i) * 2)) i in
      ap (λ (x : ℕ). x % 2) cut ∙ low ∙ ap (λ (x : ℕ). x % 2) (down ∙ sym (mul_assoc mask (2 ^ (d - suc i)) 2)) ∙ mul-mod_left (mask * 2 ^ (d - suc i)) 2
    where
      suc-last : (j : ℕ) → suc j ≡ j + 1
      suc-last j = omega arith

  -- nothing stands below its place
  pub up-even : 0 < d → mask * 2 ^ d % 2 ^ span % 2 ≡ 0
  up-even h =
      let e : d ≡ suc (d - 1) = omega arith in
      mod-mod-pow (mask * 2 ^ d) 63 1 ∙ ap (λ (k : ℕ). mask * 2 ^ k % 2 ^ 1) e ∙ rw (pow-suc 2 (d - 1)) (omega arith)

  pub up-gone : span ≤ d → mask * 2 ^ d % 2 ^ span ≡ 0
  up-gone h =
      let e : d ≡ (d - span) + span = omega arith in
      let p : 2 ^ d ≡ 2 ^ (d - span) * 2 ^ span = ap (λ (k : ℕ). 2 ^ k) e ∙ pow-add 2 (d - span) span in
      ap (λ (x : ℕ). mask * x % 2 ^ span) p ∙ ap (λ (x : ℕ). x % 2 ^ span) (sym (mul_assoc mask (2 ^ (d - span)) (2 ^ span))) ∙ mul-mod_left (mask * 2 ^ (d - span)) (2 ^ span)

pub first_bit : (mask : ℕ) → bit mask 0 ≡ mask % 2
unfolding bit
first_bit mask = omega arith

-- ---- what a window in order is

pub record InOrder (w : Window) : Type 0 where
  pub none_yet : w.mask ≡ 0 → w.highest ≡ 0
  pub newest-set : (w.mask ≡ 0 → ⊥) → w.mask % 2 ≡ 1
  pub none_above : w.mask < 2 ^ (w.highest + 1)

pub in_order_lem : (w : Window) → fits w ≡ true → InOrder w
unfolding fits
in_order_lem w e = by (two (eqb w.mask 0))
  where
    by : Two (eqb w.mask 0) → InOrder w
    by (yes' t) =
        let z = eqb-true w.mask 0 t in
        record { none_yet = λ q. eqb-true w.highest 0 (rw z at e); newest-set = λ d. absurd (d z); none_above = rw z (power-some (w.highest + 1)) }
    by (no' t) =
        let q : both (eqb (bit w.mask 0) 1) (ltb w.mask (2 ^ (w.highest + 1))) ≡ true = rw t at e in
        let b = both_true (eqb (bit w.mask 0) 1) (ltb w.mask (2 ^ (w.highest + 1))) q in
        record {
          none_yet = λ z. absurd (eqb-false w.mask 0 t z);
          newest-set = λ d. sym (first_bit w.mask) ∙ eqb-true (bit w.mask 0) 1 b.0;
          none_above = ltb-true w.mask (2 ^ (w.highest + 1)) b.1;
        }

fits-some : (w : Window) → w.mask % 2 ≡ 1 → w.mask < 2 ^ (w.highest + 1) → fits w ≡ true
unfolding fits
fits-some w o l =
    let d : w.mask ≡ 0 → ⊥ = λ z. omega arith in
    rw (ne_eqb w.mask 0 d, eq-eqb (bit w.mask 0) 1 (first_bit w.mask ∙ o), lt-ltb w.mask (2 ^ (w.highest + 1)) l)

-- a bit that is not set is added below the same power
pub set-lt : (mask i j : ℕ) → mask < 2 ^ (suc j + i) → bit mask i ≡ 0 → mask + 2 ^ i < 2 ^ (suc j + i)
unfolding bit
set-lt mask i j l e =
    let q : mask / 2 ^ i < 2 ^ suc j = shr_lt (suc j) i l in
    let p : 2 ^ suc j ≡ 2 ^ j * 2 = pow-suc 2 j in
    let m : mask / 2 ^ i + 1 < 2 ^ suc j = omega arith in
    let d : (mask / 2 ^ i + 1) * 2 ^ i + mask % 2 ^ i < 2 ^ suc j * 2 ^ i = digits_lt m (mod-lt mask (power-some i)) in
    let t : (mask / 2 ^ i + 1) * 2 ^ i ≡ mask / 2 ^ i * 2 ^ i + 2 ^ i = add-mul (mask / 2 ^ i) 1 (2 ^ i) ∙ ap (λ (x : ℕ). mask / 2 ^ i * 2 ^ i + x) (one-mul (2 ^ i)) in
    rw (pow-add 2 (suc j) i) (omega (arith, d, t, split mask i))

sub_self : (n : ℕ) → n - n ≡ 0
sub_self n = omega arith

seen_at : (w : Window) (ctr : ℕ) → ctr ≤ w.highest → w.highest - ctr < span → bit w.mask (w.highest - ctr) ≡ 1 → seen w ctr ≡ true
unfolding seen
seen_at w ctr h n b = rw (le-leb ctr w.highest h, lt-ltb (w.highest - ctr) span n, eq-eqb (bit w.mask (w.highest - ctr)) 1 b)

seen-above : (w : Window) (k : ℕ) → w.highest < k → seen w k ≡ false
unfolding seen
seen-above w k h = rw (lt-leb k w.highest h)

seen_same : (w : Window) (mask k : ℕ) → bit mask (w.highest - k) ≡ bit w.mask (w.highest - k) → seen (record { highest = w.highest; mask = mask }) k ≡ seen w k
unfolding seen
seen_same w mask k e = ap (λ (b : ℕ). both (leb k w.highest) (both (ltb (w.highest - k) span) (eqb b 1))) e

zero_bit : both (leb 0 0) (both (ltb (0 - 0) span) (eqb (bit 0 (0 - 0)) 1)) ≡ false
unfolding bit
zero_bit = refl

-- what a higher counter does to a counter above the old highest, and to one below it
module _ (w : Window) (ctr k : ℕ) where
  abbrev up : ℕ
  up = w.mask * 2 ^ (ctr - w.highest) % 2 ^ span

  abbrev after : Window
  after = record { highest = ctr; mask = up + 1 }

  -- adding the lowest bit leaves the others
  up_next : w.highest < ctr → (i : ℕ) → 0 < i → bit (up + 1) i ≡ bit up i
  up_next h i p = set-above up 0 (first_bit up ∙ up-even w.mask (ctr - w.highest) (omega arith)) i p

  newer-above : w.highest < k → (k ≡ ctr → ⊥) → seen after k ≡ false
  unfolding seen
  newer-above h d = by (two (leb k ctr)) (two (ltb (ctr - k) span))
    where
      by : Two (leb k ctr) → Two (ltb (ctr - k) span) → both (leb k ctr) (both (ltb (ctr - k) span) (eqb (bit (up + 1) (ctr - k)) 1)) ≡ false
      by (no' t) s = rw t
      by (yes' t) (no' s) = rw (t, s)
      by (yes' t) (yes' s) =
          let le = leb-true k ctr t in
          let near_by = ltb-true (ctr - k) span s in
          let z : bit (up + 1) (ctr - k) ≡ 0 = up_next (omega arith) (ctr - k) (omega (arith, d)) ∙ up_none w.mask (ctr - w.highest) (ctr - k) (omega (arith, d)) near_by in
          rw (t, s, z)

  newer-below : w.highest < ctr → k ≤ w.highest → too_old after k ≡ false → seen after k ≡ seen w k
  unfolding seen too_old
  newer-below h le y =
      let near_by : ctr - k < span = omega (arith, leb-false (k + span) ctr y) in
      let e : (ctr - k) - (ctr - w.highest) ≡ w.highest - k = omega arith in
      let b : bit (up + 1) (ctr - k) ≡ bit w.mask (w.highest - k) =
      up_next h (ctr - k) (omega arith) ∙ up-bit w.mask (ctr - w.highest) (ctr - k) (omega arith) near_by ∙ ap (bit w.mask) e
      in
      rw (le-leb k ctr (omega arith), lt-ltb (ctr - k) span near_by, le-leb k w.highest le, lt-ltb (w.highest - k) span (omega arith)) (ap (λ (x : ℕ). eqb x 1) b)

-- what is too old is not told as opened
pub old-unseen : (w : Window) (k : ℕ) → too_old w k ≡ true → seen w k ≡ false
unfolding seen too_old
old-unseen w k e = let h = leb-true (k + span) w.highest e in rw (le-leb k w.highest (omega arith), le-ltb (w.highest - k) span (omega arith))

-- ---- a window that moves

module _ (w : Window) (ctr : ℕ) where
  pub moved-newer : w.highest < ctr → moved w ctr ≡ record { highest = ctr; mask = w.mask * 2 ^ (ctr - w.highest) % 2 ^ span + 1 }
  unfolding moved
  moved-newer h = rw (lt-ltb w.highest ctr h)

  pub moved-older : ctr ≤ w.highest → moved w ctr ≡ record { highest = w.highest; mask = w.mask + 2 ^ (w.highest - ctr) }
  unfolding moved
  moved-older h = rw (le-ltb w.highest ctr h)

  -- the new mask: odd, and within 64 bits and the bits that a higher counter has
  pub newer-bound : w.highest < ctr → w.mask < 2 ^ (w.highest + 1) → w.mask * 2 ^ (ctr - w.highest) % 2 ^ span + 1 < 2 ^ (ctr + 1)
  newer-bound h l =
      let d = ctr - w.highest in
      let x = w.mask * 2 ^ d in
      let below : x < 2 ^ (w.highest + 1 + d) = shl_lt (w.highest + 1) d l in
      let k : w.highest + 1 + d ≡ suc ctr = omega arith in
      let p : 2 ^ suc ctr ≡ 2 ^ ctr * 2 = pow-suc 2 ctr in
      let k' : ctr + 1 ≡ suc ctr = omega arith in
      rw k' (omega (arith, rw k at below, mod-le x (2 ^ span), up-even w.mask d (omega arith), p))

  pub newer-room : w.highest < ctr → w.mask * 2 ^ (ctr - w.highest) % 2 ^ span + 1 < 2 ^ span
  newer-room h = omega (arith, mod-lt (w.mask * 2 ^ (ctr - w.highest)) {m = 2 ^ span} (omega arith), up-even w.mask (ctr - w.highest) (omega arith))

  module _ (f : fits w ≡ true) (new : seen w ctr ≡ false) (young : too_old w ctr ≡ false) where
    order : InOrder w
    order = in_order_lem w f

    -- how far below the highest the counter stands, where it does
    pub near : ctr ≤ w.highest → w.highest - ctr < span
    unfolding too_old
    near h = omega (arith, leb-false (ctr + span) w.highest young)

    pub unset : ctr ≤ w.highest → bit w.mask (w.highest - ctr) ≡ 0
    unfolding seen
    unset h =
        let q : eqb (bit w.mask (w.highest - ctr)) 1 ≡ false = rw (le-leb ctr w.highest h, lt-ltb (w.highest - ctr) span (near h)) at new in
        omega (arith, eqb-false (bit w.mask (w.highest - ctr)) 1 q, bit-two w.mask (w.highest - ctr))

    pub moved-fits : fits (moved w ctr) ≡ true
    moved-fits = by (two (ltb w.highest ctr))
      where
        by : Two (ltb w.highest ctr) → fits (moved w ctr) ≡ true
        by (yes' t) =
            let h = ltb-true w.highest ctr t in
            ap fits (moved-newer h) ∙ fits-some _ (omega (arith, up-even w.mask (ctr - w.highest) (omega arith))) (newer-bound h order.none_above)
        by (no' t) =
            let h = ltb-false w.highest ctr t in
            ap fits (moved-older h) ∙ fits-some _ (odd (two (eqb (w.highest - ctr) 0)) h) (higher h)
          where
            higher : ctr ≤ w.highest → w.mask + 2 ^ (w.highest - ctr) < 2 ^ (w.highest + 1)
            higher h =
                let e : w.highest + 1 ≡ suc ctr + (w.highest - ctr) = omega arith in
                rw e (set-lt w.mask (w.highest - ctr) ctr (rw e at order.none_above) (unset h))

            odd : Two (eqb (w.highest - ctr) 0) → ctr ≤ w.highest → (w.mask + 2 ^ (w.highest - ctr)) % 2 ≡ 1
            odd (yes' z) h = sym (first_bit _) ∙ ap (λ (i : ℕ). bit (w.mask + 2 ^ i) 0) (eqb-true (w.highest - ctr) 0 z) ∙ set_here w.mask 0 (ap (bit w.mask) (sym (eqb-true (w.highest - ctr) 0 z)) ∙ unset h)
            odd (no' z) h =
                let d : 0 < w.highest - ctr = omega (arith, eqb-false (w.highest - ctr) 0 z) in
                sym (first_bit _) ∙ set_below w.mask (w.highest - ctr) (unset h) 0 d ∙ first_bit w.mask
                ∙ order.newest-set (λ q. omega (arith, order.none_yet q))

    pub moved-seen : seen (moved w ctr) ctr ≡ true
    moved-seen = by (two (ltb w.highest ctr))
      where
        by : Two (ltb w.highest ctr) → seen (moved w ctr) ctr ≡ true
        by (yes' t) =
            let h = ltb-true w.highest ctr t in
            ap (λ (x : Window). seen x ctr) (moved-newer h) ∙ seen_at _ ctr (omega arith) (omega arith)
            (ap (bit _) (sub_self ctr) ∙ first_bit _ ∙ omega (arith, up-even w.mask (ctr - w.highest) (omega arith)))
        by (no' t) =
            let h = ltb-false w.highest ctr t in
            ap (λ (x : Window). seen x ctr) (moved-older h) ∙ seen_at _ ctr h (near h) (set_here w.mask (w.highest - ctr) (unset h))

    -- of the others that the window still tells, none is changed
    pub moved-others : (k : ℕ) → (k ≡ ctr → ⊥) → too_old (moved w ctr) k ≡ false → seen (moved w ctr) k ≡ seen w k
    moved-others k d y = by (two (ltb w.highest ctr)) (two (ltb w.highest k))
      where
        by : Two (ltb w.highest ctr) → Two (ltb w.highest k) → seen (moved w ctr) k ≡ seen w k
        by (yes' t) (yes' s) = ap (λ (x : Window). seen x k) (moved-newer (ltb-true w.highest ctr t)) ∙ newer-above w ctr k (ltb-true w.highest k s) d ∙ sym (seen-above w k (ltb-true w.highest k s))
        by (yes' t) (no' s) =
            let h = ltb-true w.highest ctr t in
            ap (λ (x : Window). seen x k) (moved-newer h) ∙ newer-below w ctr k h (ltb-false w.highest k s) (sym (ap (λ (x : Window). too_old x k) (moved-newer h)) ∙ y)
        by (no' t) (yes' s) =
            let h = ltb-false w.highest ctr t in
            ap (λ (x : Window). seen x k) (moved-older h) ∙ seen-above _ k (ltb-true w.highest k s) ∙ sym (seen-above w k (ltb-true w.highest k s))
        by (no' t) (no' s) =
            let h = ltb-false w.highest ctr t in
            ap (λ (x : Window). seen x k) (moved-older h) ∙ seen_same w (w.mask + 2 ^ (w.highest - ctr)) k (other-bit (two (ltb (w.highest - k) (w.highest - ctr))) h (ltb-false w.highest k s))
          where
            other-bit : Two (ltb (w.highest - k) (w.highest - ctr)) → ctr ≤ w.highest → k ≤ w.highest → bit (w.mask + 2 ^ (w.highest - ctr)) (w.highest - k) ≡ bit w.mask (w.highest - k)
            other-bit (yes' q) a b = set_below w.mask (w.highest - ctr) (unset a) (w.highest - k) (ltb-true (w.highest - k) (w.highest - ctr) q)
            other-bit (no' q) a b = set-above w.mask (w.highest - ctr) (unset a) (w.highest - k) (omega (arith, ltb-false (w.highest - k) (w.highest - ctr) q, d))

    pub older-room : ctr ≤ w.highest → w.mask < 2 ^ span → w.mask + 2 ^ (w.highest - ctr) < 2 ^ span
    older-room h l =
        let i = w.highest - ctr in
        let j = span - suc i in
        let n = near h in
        let p : 2 ^ (suc j + i) ≡ 2 ^ span = let k : suc j + i ≡ span = omega arith in ap (λ (x : ℕ). 2 ^ x) k in
        omega (arith, set-lt w.mask i j (omega (arith, p)) (unset h), p)

    -- both fields stay within 64 bits
    pub moved-below : ctr < 2 ^ span → w.highest < 2 ^ span → w.mask < 2 ^ span → ((moved w ctr).highest < 2 ^ span) × ((moved w ctr).mask < 2 ^ span)
    moved-below c a b = by (two (ltb w.highest ctr))
      where
        by : Two (ltb w.highest ctr) → ((moved w ctr).highest < 2 ^ span) × ((moved w ctr).mask < 2 ^ span)
        by (yes' t) = let h = ltb-true w.highest ctr t in rw (moved-newer h) (c, newer-room h)
        by (no' t) = let h = ltb-false w.highest ctr t in rw (moved-older h) (a, older-room h b)

  -- what is too old stays so
  pub moved-old : (k : ℕ) → too_old w k ≡ true → too_old (moved w ctr) k ≡ true
  unfolding too_old
  moved-old k e = by (two (ltb w.highest ctr))
    where
      by : Two (ltb w.highest ctr) → leb (k + span) (moved w ctr).highest ≡ true
      by (yes' t) =
          let h = ltb-true w.highest ctr t in
          ap (λ (x : Window). leb (k + span) x.highest) (moved-newer h) ∙ le-leb (k + span) ctr (omega (arith, leb-true (k + span) w.highest e))
      by (no' t) = ap (λ (x : Window). leb (k + span) x.highest) (moved-older (ltb-false w.highest ctr t)) ∙ e

pub fresh-fits : fits fresh ≡ true
unfolding fits
fresh-fits = refl

-- a window that has opened none tells of none
pub fresh-opens : (k : ℕ) → (seen fresh k ≡ false) × (too_old fresh k ≡ false)
unfolding seen too_old
fresh-opens k = (by (two (leb k 0)), lt-leb (k + span) 0 (omega arith))
  where
    by : Two (leb k 0) → both (leb k 0) (both (ltb (0 - k) span) (eqb (bit 0 (0 - k)) 1)) ≡ false
    by (yes' t) = let z : k ≡ 0 = omega (arith, leb-true k 0 t) in rw z zero_bit
    by (no' t) = rw t

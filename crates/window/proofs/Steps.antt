-- SPDX-License-Identifier: MIT
-- The steps of the functions, over plain variables. Assumes nothing.
use mathlib.Core.Path.{◌≡◌, sym, ◌∙◌, ap}
use mathlib.Core.Bool.{true, false}
use Prim.Native.Nat.{ℕ, ◌+◌, ◌*◌, ◌-◌, ◌/◌, ◌%◌, ◌^◌, ◌<◌, ◌≤◌}
use native.Mathlib.Omega.{arith}
use native.Mathlib.Nat.{mod-lt, mod-eq_of_lt, one-mul}
use lib.Dec.{leb, ltb, eqb}
use lib.Pow.{pow-lt, pow_mono, shr_lt, split}
use borrow.Author.Tests.{lt-ltb, le-ltb, le-leb, lt-leb, eq-eqb, ne_eqb, ltb-true, ltb-false, leb-true, leb-false}
use Rattle.answers.proofs.Basics.{Two, yes', no', two}
use Rattle.window.specs.Window.{span, bit, fits, seen, too_old, moved}
use Rattle.window.specs.declared.Window.{Window}
use Rattle.window.proofs.Laws.{first_bit, power-some, near, newer-room, older-room, moved-newer, moved-older}

pub one_up : (i : ℕ) → i < span → 1 * 2 ^ i % 2 ^ span ≡ 2 ^ i
one_up i h = mod-eq_of_lt (pow_below i h) ∙ one-mul (2 ^ i)
  where
    pow_below : (i : ℕ) → i < span → 1 * 2 ^ i < 2 ^ span
    pow_below i h = rw (one-mul (2 ^ i)) (pow-lt {i = i} {j = span} h)

none_left : (n k : ℕ) → n < 2 ^ k → n / 2 ^ k ≡ 0
none_left n k h =
    let e : 0 + k ≡ k = omega arith in
    let q : n / 2 ^ k < 2 ^ 0 = shr_lt 0 k (rw e h) in omega arith

none_above : (n k : ℕ) → n / 2 ^ k ≡ 0 → n < 2 ^ k
none_above n k z = let e : 0 * 2 ^ k + n % 2 ^ k ≡ n = rw z at (split n k) in omega (arith, e, mod-lt n (power-some k))

-- ---- is_sound

module _ (w : Window) where
  pub none_yet : w.mask ≡ 0 → eqb w.highest 0 ≡ fits w
  unfolding fits
  none_yet e = rw (eq-eqb w.mask 0 e)

  module _ (some : w.mask ≡ 0 → ⊥) where
    pub even-mask : w.mask % 2 ≡ 0 → false ≡ fits w
    unfolding fits
    even-mask e = rw (ne_eqb w.mask 0 some, ne_eqb (bit w.mask 0) 1 (λ q. omega (arith, first_bit w.mask)))

    module _ (odd : w.mask % 2 ≡ 0 → ⊥) where
      lowest : bit w.mask 0 ≡ 1
      lowest = omega (arith, first_bit w.mask, odd, mod-lt w.mask {m = 2} (omega arith))

      pub all-bits : w.mask < 2 ^ span → span - 1 ≤ w.highest → true ≡ fits w
      unfolding fits
      all-bits l h =
          let p : 2 ^ span ≤ 2 ^ (w.highest + 1) = pow_mono {i = span} {j = w.highest + 1} (omega arith) in
          rw (ne_eqb w.mask 0 some, eq-eqb (bit w.mask 0) 1 lowest, lt-ltb w.mask (2 ^ (w.highest + 1)) (omega arith))

      pub few_bits : eqb (w.mask / 2 ^ (w.highest + 1)) 0 ≡ fits w
      unfolding fits
      few_bits = rw (ne_eqb w.mask 0 some, eq-eqb (bit w.mask 0) 1 lowest) (by (two (ltb w.mask (2 ^ (w.highest + 1)))))
        where
          by : Two (ltb w.mask (2 ^ (w.highest + 1))) → eqb (w.mask / 2 ^ (w.highest + 1)) 0 ≡ ltb w.mask (2 ^ (w.highest + 1))
          by (yes' t) = eq-eqb (w.mask / 2 ^ (w.highest + 1)) 0 (none_left w.mask (w.highest + 1) (ltb-true w.mask (2 ^ (w.highest + 1)) t)) ∙ sym t
          by (no' t) = ne_eqb (w.mask / 2 ^ (w.highest + 1)) 0 (λ z. omega (arith, ltb-false w.mask (2 ^ (w.highest + 1)) t, none_above w.mask (w.highest + 1) z)) ∙ sym t

-- ---- is_seen and is_too_old

module _ (w : Window) (ctr : ℕ) where
  pub seen-newer : w.highest < ctr → false ≡ seen w ctr
  unfolding seen
  seen-newer h = rw (lt-leb ctr w.highest h)

  pub old-newer : w.highest < ctr → false ≡ too_old w ctr
  unfolding too_old
  old-newer h = rw (lt-leb (ctr + span) w.highest (omega arith))

  module _ (le : ctr ≤ w.highest) where
    pub seen-far : span ≤ w.highest - ctr → false ≡ seen w ctr
    unfolding seen
    seen-far h = rw (le-leb ctr w.highest le, le-ltb (w.highest - ctr) span h)

    pub seen-bit : (b : ℕ) → w.highest - ctr < span → b ≡ bit w.mask (w.highest - ctr) → eqb b 1 ≡ seen w ctr
    unfolding seen
    seen-bit b h e = rw (le-leb ctr w.highest le, lt-ltb (w.highest - ctr) span h) (ap (λ (x : ℕ). eqb x 1) e)

    pub old-told : leb span (w.highest - ctr) ≡ too_old w ctr
    unfolding too_old
    old-told = by (two (leb span (w.highest - ctr)))
      where
        by : Two (leb span (w.highest - ctr)) → leb span (w.highest - ctr) ≡ leb (ctr + span) w.highest
        by (yes' t) = t ∙ sym (le-leb (ctr + span) w.highest (omega (arith, leb-true span (w.highest - ctr) t)))
        by (no' t) = t ∙ sym (lt-leb (ctr + span) w.highest (omega (arith, leb-false span (w.highest - ctr) t)))

  -- ---- open

  pub opened-newer : w.highest < ctr → (m : ℕ) → m ≡ w.mask * 2 ^ (ctr - w.highest) % 2 ^ span → record { highest = ctr; mask = m + 1 } ≡ moved w ctr
  opened-newer h m e = ap (λ (x : ℕ). record { highest = ctr; mask = x + 1 }) e ∙ sym (moved-newer w ctr h)

  pub opened-older : ctr ≤ w.highest → w.highest - ctr < span → (m : ℕ) → m ≡ 1 * 2 ^ (w.highest - ctr) % 2 ^ span → record { highest = w.highest; mask = w.mask + m } ≡ moved w ctr
  opened-older h n m e = ap (λ (x : ℕ). record { highest = w.highest; mask = w.mask + x }) (e ∙ one_up (w.highest - ctr) n) ∙ sym (moved-older w ctr h)

  -- no sum wraps
  pub newer-adds : w.highest < ctr → (m : ℕ) → m ≡ w.mask * 2 ^ (ctr - w.highest) % 2 ^ span → m + 1 < 2 ^ span
  newer-adds h m e = rw e (newer-room w ctr h)

  pub older-adds : fits w ≡ true → seen w ctr ≡ false → too_old w ctr ≡ false → ctr ≤ w.highest → w.mask < 2 ^ span → (m : ℕ) → m ≡ 1 * 2 ^ (w.highest - ctr) % 2 ^ span → w.mask + m < 2 ^ span
  older-adds f new young h l m e = rw (e ∙ one_up (w.highest - ctr) (near w ctr f new young h)) (older-room w ctr f new young h l)

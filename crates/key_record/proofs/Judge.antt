-- SPDX-License-Identifier: MIT
-- The steps of the functions that judge a record, over plain variables. Assumes nothing.
use mathlib.Core.Path.{◌≡◌, refl, sym, ◌∙◌, ap}
use mathlib.Core.Bool.{Bool, true, false, not}
use mathlib.Core.List.{List}
use Prim.Native.Nat.{ℕ, ◌+◌, ◌*◌, ◌-◌, ◌%◌, ◌<◌, ◌≤◌}
use native.Mathlib.Omega.{arith}
use lib.Dec.{leb, eqb}
use lib.ListN.{length, get_or, take, drop}
use lib.Seq.{get_or-drop}
use borrow.Author.Tests.{le-leb, lt-leb, eq-eqb, ne_eqb, not-true, not-false}
use Rattle.octets.specs.Octets.{number, pick, both}
use Rattle.octets.proofs.Laws.{part-rest, number-suc}
use Rattle.answers.proofs.Basics.{Two, yes', no', two, both_true}
use Rattle.window.specs.Window.{bit, fits as in_order}
use Rattle.window.proofs.Laws.{first_bit}
use Rattle.window.specs.declared.Window.{Window}
use Rattle.key_record.specs.Inner.Judging.{holding_mark, counter_fits, has_opened, window_fits, fields_fit}
use Rattle.key_record.specs.Suites.{is_suite}
use Rattle.key_record.specs.Layout.{mark_at, suite_at, spent_at, version_at, counter_at, highest_at, mask_at, sending_mark, receiving_mark, retired_mark, layout_version, window_in}

-- ---- marks

pub mark-low : (m : ℕ) → m < sending_mark → false ≡ holding_mark m
unfolding holding_mark
mark-low m h = rw (lt-leb sending_mark m h)

pub mark-high : (m : ℕ) → sending_mark ≤ m → leb m retired_mark ≡ holding_mark m
unfolding holding_mark
mark-high m h = rw (le-leb sending_mark m h)

-- ---- fields

pub fields-suite : (l : List ℕ) → is_suite (get_or l suite_at 0) ≡ false → false ≡ fields_fit l
unfolding fields_fit
fields-suite l e = rw e

module _ (l : List ℕ) (s : is_suite (get_or l suite_at 0) ≡ true) where
  pub fields-version : (get_or l version_at 0 ≡ layout_version → ⊥) → false ≡ fields_fit l
  unfolding fields_fit
  fields-version d = rw (s, ne_eqb (get_or l version_at 0) layout_version d)

  module _ (e : get_or l version_at 0 ≡ layout_version) (b : Bool) (v : ℕ) (p : v ≡ number 8 (take (length l - counter_at) (drop counter_at l))) (q : b ≡ counter_fits (get_or l mark_at 0) (get_or l spent_at 0) v) where
    counted : counter_fits (get_or l mark_at 0) (get_or l spent_at 0) (number 8 (drop counter_at l)) ≡ b
    counted = ap (λ (n : ℕ). counter_fits (get_or l mark_at 0) (get_or l spent_at 0) n) (sym (p ∙ ap (number 8) (part-rest counter_at l))) ∙ sym q

    pub fields-counter : not b ≡ true → false ≡ fields_fit l
    unfolding fields_fit
    fields-counter t = sym (rw (s, eq-eqb (get_or l version_at 0) layout_version e, counted, not-true b t))

    pub fields-window : not b ≡ false → (r : Bool) → r ≡ window_fits (get_or l mark_at 0) (window_in l) → r ≡ fields_fit l
    unfolding fields_fit
    fields-window t r f = f ∙ sym (rw (s, eq-eqb (get_or l version_at 0) layout_version e, counted, not-false b t))

-- the suite of fields that fit
pub suite-fits : (l : List ℕ) → fields_fit l ≡ true → is_suite (get_or l suite_at 0) ≡ true
unfolding fields_fit
suite-fits l e = (both_true (is_suite (get_or l suite_at 0)) _ e).0

-- ---- the window

pub window-told : (l : List ℕ) (a b : ℕ) → a ≡ number 8 (take (length l - highest_at) (drop highest_at l)) → b ≡ number 8 (take (length l - mask_at) (drop mask_at l)) → record { highest = a; mask = b } ≡ window_in l
unfolding window_in
window-told l a b p q =
    let x : a ≡ number 8 (drop highest_at l) = p ∙ ap (number 8) (part-rest highest_at l) in
    let y : b ≡ number 8 (drop mask_at l) = q ∙ ap (number 8) (part-rest mask_at l) in
    (λ i. record { highest = x i; mask = y i })

pub opened-other : (l : List ℕ) → (get_or l mark_at 0 ≡ receiving_mark → ⊥) → false ≡ has_opened l
unfolding has_opened
opened-other l d = rw (ne_eqb (get_or l mark_at 0) receiving_mark d)

pub opened-last : (l : List ℕ) → get_or l mark_at 0 ≡ receiving_mark → eqb (get_or l (mask_at + 7) 0 % 2) 1 ≡ has_opened l
unfolding has_opened
opened-last l e = rw e

last-digit : (n a : ℕ) → (n * 256 + a) % 2 ≡ a % 2
last-digit n a = omega arith

module _ (l : List ℕ) where
  -- a mask and its last byte
  mask-last : (window_in l).mask % 2 ≡ get_or l (mask_at + 7) 0 % 2
  unfolding window_in
  mask-last = ap (λ (n : ℕ). n % 2) (number-suc 7 (drop mask_at l)) ∙ last-digit (number 7 (drop mask_at l)) (get_or (drop mask_at l) 7 0) ∙ ap (λ (n : ℕ). n % 2) (get_or-drop mask_at l 7 0)

  pub window-opened : (w : Window) (r : Bool) → has_opened l ≡ true → w ≡ window_in l → r ≡ in_order w → r ≡ window_fits (get_or l mark_at 0) (window_in l)
  unfolding has_opened window_fits
  window-opened w r t z e = rw (both_true (eqb (get_or l mark_at 0) receiving_mark) (eqb (get_or l (mask_at + 7) 0 % 2) 1) t).0 (e ∙ ap in_order z)

  -- where nothing was opened, both fields are zero
  module _ (f : has_opened l ≡ false) (a : ℕ) (p : a ≡ number 8 (take (length l - highest_at) (drop highest_at l))) where
    both_zero : window_fits (get_or l mark_at 0) (window_in l) ≡ both (eqb (window_in l).highest 0) (eqb (window_in l).mask 0)
    unfolding has_opened window_fits in_order
    both_zero = by (two (eqb (get_or l mark_at 0) receiving_mark))
      where
        picked : (t u : Bool) → pick t u false ≡ both u t
        picked true true = refl
        picked true false = refl
        picked false true = refl
        picked false false = refl

        by : Two (eqb (get_or l mark_at 0) receiving_mark) → window_fits (get_or l mark_at 0) (window_in l) ≡ both (eqb (window_in l).highest 0) (eqb (window_in l).mask 0)
        by (yes' t) =
            let even : eqb (bit (window_in l).mask 0) 1 ≡ false = ap (λ (n : ℕ). eqb n 1) (first_bit (window_in l).mask ∙ mask-last) ∙ (rw t at f) in
            rw (t, even) (picked (eqb (window_in l).mask 0) (eqb (window_in l).highest 0))
        by (no' t) = rw t

    highest-is : (window_in l).highest ≡ a
    unfolding window_in
    highest-is = sym (p ∙ ap (number 8) (part-rest highest_at l))

    pub window-highest : (a ≡ 0 → ⊥) → false ≡ window_fits (get_or l mark_at 0) (window_in l)
    window-highest d = sym (both_zero ∙ ap (λ (t : Bool). both t (eqb (window_in l).mask 0)) (ap (λ (n : ℕ). eqb n 0) highest-is ∙ ne_eqb a 0 d))

    pub window-mask : a ≡ 0 → (b : ℕ) → b ≡ number 8 (take (length l - mask_at) (drop mask_at l)) → eqb b 0 ≡ window_fits (get_or l mark_at 0) (window_in l)
    unfolding window_in
    window-mask e b q =
        ap (λ (n : ℕ). eqb n 0) (q ∙ ap (number 8) (part-rest mask_at l))
        ∙ sym (both_zero ∙ ap (λ (t : Bool). both t (eqb (window_in l).mask 0)) (ap (λ (n : ℕ). eqb n 0) highest-is ∙ eq-eqb a 0 e))

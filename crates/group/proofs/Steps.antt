-- SPDX-License-Identifier: MIT
-- What packing and unpacking answer, cause by cause, over plain variables. Assumes nothing.
use mathlib.Core.Path.{◌≡◌, sym, ◌∙◌, ap}
use mathlib.Core.Bool.{Bool, true, false, not}
use Prim.Native.Nat.{ℕ, ◌+◌, ◌*◌, ◌/◌, ◌%◌, ◌-◌, ◌^◌, ◌<◌, ◌≤◌}
use native.Mathlib.Nat.{mod-eq_of_lt, div-eq_of_lt, lt-mul-div-succ, one-mul, mul-le-mul_right}
use native.Mathlib.Omega.{arith}
use lib.Arith.{digits_lt}
use lib.Dec.{leb, ltb, eqb}
use lib.Pow.{pow-add, pow-lt, pow_pos}
use borrow.Author.Tests.{le-leb, lt-leb, leb-true, leb-false, lt-ltb, le-ltb, ltb-true, ltb-false, eq-eqb, ne_eqb}
use Rattle.answers.specs.Answers.{done, group_part_too_large, group_kid_too_long, first}
use Rattle.answers.proofs.Basics.{Two, yes', no', two, told-false, told-true}
use Rattle.group.specs.Group.{kid_bits, group_kid, context_in, index_in, epoch_in, given, pack_causes, unpack_causes, pack_number, packed, unpack_number}
use Rattle.group.proofs.Laws.{lower-bits}

-- ---- widths and shifts

pub widths-long : (s e : ℕ) → kid_bits < s → false ≡ leb (s + e) kid_bits
widths-long s e h = sym (lt-leb (s + e) kid_bits (omega arith))

pub widths-told : (s e : ℕ) → s ≤ kid_bits → leb e (kid_bits - s) ≡ leb (s + e) kid_bits
widths-told s e h = by (two (leb e (kid_bits - s)))
  where
    by : Two (leb e (kid_bits - s)) → leb e (kid_bits - s) ≡ leb (s + e) kid_bits
    by (yes' t) = t ∙ sym (le-leb (s + e) kid_bits (omega (arith, leb-true e (kid_bits - s) t)))
    by (no' t) = t ∙ sym (lt-leb (s + e) kid_bits (omega (arith, leb-false e (kid_bits - s) t)))

pub above-none : (x n : ℕ) → x < 2 ^ 64 → n ≡ kid_bits → 0 ≡ x / 2 ^ n
above-none x n h e = rw e (omega arith)

pub below_all : (x n : ℕ) → x < 2 ^ 64 → n ≡ kid_bits → x ≡ x % 2 ^ n
below_all x n h e = rw e (sym (mod-eq_of_lt h))

power-is : (n : ℕ) → n < kid_bits → (1 * 2 ^ n) % 2 ^ 64 ≡ 2 ^ n
power-is n h = rw one-mul (mod-eq_of_lt (pow-lt h))

less : (n : ℕ) → n ≤ kid_bits → (n ≡ kid_bits → ⊥) → n < kid_bits
less n h d = by (two (ltb n kid_bits))
  where
    by : Two (ltb n kid_bits) → n < kid_bits
    by (yes' t) = ltb-true n kid_bits t
    by (no' t) = absurd (d (omega (arith, ltb-false n kid_bits t)))

pub power-some : (n : ℕ) → n ≤ kid_bits → (n ≡ kid_bits → ⊥) → 0 < (1 * 2 ^ n) % 2 ^ 64
power-some n h d = rw (power-is n (less n h d)) (pow_pos n)

pub below_rest : (x n : ℕ) → n ≤ kid_bits → (n ≡ kid_bits → ⊥) → x % ((1 * 2 ^ n) % 2 ^ 64) ≡ x % 2 ^ n
below_rest x n h d = ap (λ (k : ℕ). x % k) (power-is n (less n h d))

pub raised-none : (x n : ℕ) → x * 2 ^ n < 2 ^ kid_bits → n ≡ kid_bits → 0 ≡ x * 2 ^ n
raised-none x n h e = let g : x * 2 ^ 64 < 2 ^ 64 = rw e at h in rw e (omega arith)

pub raised_all : (x n : ℕ) → x * 2 ^ n < 2 ^ kid_bits → (x * 2 ^ n) % 2 ^ 64 ≡ x * 2 ^ n
raised_all x n h = mod-eq_of_lt h

pub bits-told : (x n q : ℕ) → q ≡ x / 2 ^ n → eqb q 0 ≡ ltb x (2 ^ n)
bits-told x n q e = by (two (ltb x (2 ^ n)))
  where
    some : 2 ^ n ≤ x → x / 2 ^ n ≡ 0 → ⊥
    some h z =
        let l : x < 2 ^ n * (0 + 1) = rw z at (lt-mul-div-succ x (pow_pos n)) in
        omega (arith, h, l)

    by : Two (ltb x (2 ^ n)) → eqb q 0 ≡ ltb x (2 ^ n)
    by (yes' t) = eq-eqb q 0 (e ∙ div-eq_of_lt (ltb-true x (2 ^ n) t)) ∙ sym t
    by (no' t) = ne_eqb q 0 (λ z. some (ltb-false x (2 ^ n) t) (sym e ∙ z)) ∙ sym t

-- ---- packing

abbrev Made : (number kid s e context index epoch : ℕ) → Type 0
Made number kid s e context index epoch = (number ≡ pack_number s e context index epoch) × (kid ≡ packed s e context index epoch)

module _ (s e context index epoch : ℕ) (b : Bool) (w : b ≡ leb (s + e) kid_bits) where
  pub pack-wide : not b ≡ true → Made group_kid_too_long 0 s e context index epoch
  unfolding packed pack_number pack_causes first
  pack-wide t = let a = lt-ltb kid_bits (s + e) (leb-false (s + e) kid_bits (told-false b _ w t)) in (rw a, rw a)

  module _ (t : not b ≡ false) where
    pub width-most : s + e ≤ kid_bits
    width-most = leb-true (s + e) kid_bits (told-true b _ w t)

    narrow : ltb kid_bits (s + e) ≡ false
    narrow = le-ltb kid_bits (s + e) width-most

    module _ (i : Bool) (f : i ≡ ltb index (2 ^ s)) where
      pub pack-index : not i ≡ true → Made group_part_too_large 0 s e context index epoch
      unfolding packed pack_number pack_causes first
      pack-index u = let a = le-leb (2 ^ s) index (ltb-false index (2 ^ s) (told-false i _ f u)) in (rw (narrow, a), rw (narrow, a))

      module _ (u : not i ≡ false) (k : Bool) (g : k ≡ ltb context (2 ^ (kid_bits - (s + e)))) where
        inside : index < 2 ^ s
        inside = ltb-true index (2 ^ s) (told-true i _ f u)

        held : leb (2 ^ s) index ≡ false
        held = lt-leb (2 ^ s) index inside

        whole : 2 ^ (kid_bits - (s + e)) * 2 ^ (s + e) ≡ 2 ^ kid_bits
        whole = let h = width-most in let n : kid_bits - (s + e) + (s + e) ≡ kid_bits = omega arith in sym (pow-add 2 (kid_bits - (s + e)) (s + e)) ∙ ap (λ (j : ℕ). 2 ^ j) n

        shape : group_kid s e context index epoch ≡ context * 2 ^ (s + e) + (index * 2 ^ e + epoch % 2 ^ e)
        unfolding group_kid
        shape = omega arith

        pub pack-context : not k ≡ true → Made group_kid_too_long 0 s e context index epoch
        unfolding packed pack_number pack_causes first
        pack-context v =
            let h = ltb-false context (2 ^ (kid_bits - (s + e))) (told-false k _ g v) in
            let m : 2 ^ kid_bits ≤ context * 2 ^ (s + e) = rw (sym whole) (mul-le-mul_right (2 ^ (s + e)) h) in
            let a = le-leb (2 ^ kid_bits) (group_kid s e context index epoch) (omega (arith, m, shape)) in
            (rw (narrow, held, a), rw (narrow, held, a))

        module _ (v : not k ≡ false) where
          kid-below : group_kid s e context index epoch < 2 ^ kid_bits
          kid-below =
              let h = digits_lt {q = context} {m = 2 ^ (kid_bits - (s + e))} {r = index * 2 ^ e + epoch % 2 ^ e} {c = 2 ^ (s + e)} (ltb-true context _ (told-true k _ g v)) (lower-bits s e context index epoch inside) in
              rw shape (rw whole at h)

          pub context-fits : context * 2 ^ (s + e) < 2 ^ kid_bits
          context-fits = omega (arith, shape, kid-below)

          pub index-fits : index * 2 ^ e < 2 ^ kid_bits
          index-fits = omega (arith, shape, kid-below)

          module _ (c x r : ℕ) (p : c ≡ context * 2 ^ (s + e)) (q : x ≡ index * 2 ^ e) where
            pub sum_fits : c + x < 2 ^ kid_bits
            sum_fits = omega (arith, shape, kid-below)

            module _ (l : r ≡ epoch % 2 ^ e) where
              is-kid : c + x + r ≡ group_kid s e context index epoch
              unfolding group_kid
              is-kid = rw (p, q, l)

              pub kid-fits : c + x + r < 2 ^ kid_bits
              kid-fits = rw is-kid kid-below

              pub pack-done : Made done (c + x + r) s e context index epoch
              unfolding packed pack_number pack_causes first
              pack-done = let a = lt-leb (2 ^ kid_bits) (group_kid s e context index epoch) kid-below in (rw (narrow, held, a), is-kid ∙ rw (narrow, held, a))

-- ---- unpacking

module _ (s e : ℕ) (b : Bool) (w : b ≡ leb (s + e) kid_bits) where
  pub unpack-wide : not b ≡ true → (kid : ℕ) → (group_kid_too_long ≡ unpack_number s e) × (0 ≡ given (unpack_number s e) (context_in s e kid)) × (0 ≡ given (unpack_number s e) (index_in s e kid)) × (0 ≡ given (unpack_number s e) (epoch_in e kid))
  unfolding unpack_number unpack_causes first
  unpack-wide t kid = let a = lt-ltb kid_bits (s + e) (leb-false (s + e) kid_bits (told-false b _ w t)) in (rw a, rw a, rw a, rw a)

  pub unpack-done : not b ≡ false → (kid x y z v : ℕ) → x ≡ kid / 2 ^ (s + e) → y ≡ kid / 2 ^ e → z ≡ y % 2 ^ s → v ≡ kid % 2 ^ e
      → (done ≡ unpack_number s e) × (x ≡ given (unpack_number s e) (context_in s e kid)) × (z ≡ given (unpack_number s e) (index_in s e kid)) × (v ≡ given (unpack_number s e) (epoch_in e kid))
  unfolding unpack_number unpack_causes first context_in index_in epoch_in
  unpack-done t kid x y z v p q r l =
      let a = le-ltb kid_bits (s + e) (leb-true (s + e) kid_bits (told-true b _ w t)) in
      (rw a, rw a p, rw a (r ∙ ap (λ (k : ℕ). k % 2 ^ s) q), rw a l)

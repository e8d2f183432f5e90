-- SPDX-License-Identifier: MIT
-- A next counter in its two fields, and back. Assumes nothing.
use mathlib.Core.Path.{◌≡◌, sym, ◌∙◌, ap}
use mathlib.Core.Bool.{Bool, true, false, not}
use Prim.Native.Nat.{ℕ, ◌+◌, ◌-◌, ◌^◌, ◌<◌, ◌≤◌}
use native.Mathlib.Omega.{arith}
use lib.Dec.{eqb}
use borrow.Author.Tests.{eq-eqb, ne_eqb, eqb-true, eqb-false}
use Rattle.octets.specs.Octets.{pick, both}
use Rattle.answers.proofs.Basics.{Two, yes', no', two, both_true}
use Rattle.key_record.specs.Layout.{spent_byte, receiving_mark}
use Rattle.key_record.specs.Record.{ceiling}
use Rattle.key_record.specs.Inner.Judging.{last_counter, counter_fits}

-- ---- the byte of a number

pub spent-none : (c : ℕ) → (c ≡ ceiling → ⊥) → spent_byte c ≡ 0
unfolding spent_byte
spent-none c d = rw (ne_eqb c ceiling d)

pub spent_all : (c : ℕ) → c ≡ ceiling → spent_byte c ≡ 1
unfolding spent_byte
spent_all c e = rw (eq-eqb c ceiling e)

-- either, and which of them
pub data Spent (c : ℕ) : Type 0 where
  spent : c ≡ ceiling → spent_byte c ≡ 1 → Spent c
  left : (c ≡ ceiling → ⊥) → spent_byte c ≡ 0 → Spent c

pub spent-or-left : (c : ℕ) → Spent c
spent-or-left c = by (two (eqb c ceiling))
  where
    by : Two (eqb c ceiling) → Spent c
    by (yes' t) = let e = eqb-true c ceiling t in spent e (spent_all c e)
    by (no' t) = let d = eqb-false c ceiling t in left d (spent-none c d)

pub spent-most : (c : ℕ) → spent_byte c ≤ 1
spent-most c = by (spent-or-left c)
  where
    by : Spent c → spent_byte c ≤ 1
    by (spent e b) = omega arith
    by (left d b) = omega arith

module _ (c : ℕ) (h : c ≤ ceiling) where
  pub rest_below : c - spent_byte c < 2 ^ 64
  rest_below = by (spent-or-left c)
    where
      by : Spent c → c - spent_byte c < 2 ^ 64
      by (spent e b) = omega arith
      by (left d b) = omega (arith, d)

  pub rest_back : (c - spent_byte c) + spent_byte c ≡ c
  rest_back = by (spent-or-left c)
    where
      by : Spent c → (c - spent_byte c) + spent_byte c ≡ c
      by (spent e b) = omega arith
      by (left d b) = omega arith

-- ---- two fields that fit

-- The spent byte b and the number n of the other field: what they give is written as they are.
pub record TwoFields (b n : ℕ) : Type 0 where
  pub byte-is : b ≡ spent_byte (n + b)
  pub rest-is : (n + b) - spent_byte (n + b) ≡ n
  pub most : n + b ≤ ceiling

module _ (mark b n : ℕ) where
  pub receiving-fields : mark ≡ receiving_mark → counter_fits mark b n ≡ true → (b ≡ 0) × (n ≡ 0)
  unfolding counter_fits
  receiving-fields m e = let t = both_true (eqb b 0) (eqb n 0) (rw m at e) in (eqb-true b 0 t.0, eqb-true n 0 t.1)

  pub fields-receiving : mark ≡ receiving_mark → b ≡ 0 → n ≡ 0 → counter_fits mark b n ≡ true
  unfolding counter_fits
  fields-receiving m s e = rw (m, s, e)

  module _ (other : mark ≡ receiving_mark → ⊥) where
    pub fields-other : n < 2 ^ 64 → counter_fits mark b n ≡ true → TwoFields b n
    unfolding counter_fits
    fields-other h e = by (two (eqb b 0))
      where
        by : Two (eqb b 0) → TwoFields b n
        by (yes' t) =
            let z = eqb-true b 0 t in
            let s = spent-none (n + b) (λ c. omega arith) in
            record { byte-is = omega arith; rest-is = omega arith; most = omega arith }
        by (no' t) =
            let f : both (eqb b 1) (eqb n last_counter) ≡ true = rw (ne_eqb mark receiving_mark other, t) at e in
            let q = both_true (eqb b 1) (eqb n last_counter) f in
            let one = eqb-true b 1 q.0 in
            let last = eqb-true n last_counter q.1 in
            let s = spent_all (n + b) (omega arith) in
            record { byte-is = omega arith; rest-is = omega arith; most = omega arith }

    pub other-fields : b ≡ spent_byte (n + b) → counter_fits mark b n ≡ true
    unfolding counter_fits
    other-fields e = by (spent-or-left (n + b))
      where
        by : Spent (n + b) → counter_fits mark b n ≡ true
        by (spent c s) =
            let one : b ≡ 1 = e ∙ s in
            let last : n ≡ last_counter = omega arith in
            rw (ne_eqb mark receiving_mark other, one, last)
        by (left d s) = let z : b ≡ 0 = e ∙ s in rw (ne_eqb mark receiving_mark other, z)

  -- ---- the steps of judging them

  pub receiving-spent : mark ≡ receiving_mark → (b ≡ 0 → ⊥) → false ≡ counter_fits mark b n
  unfolding counter_fits
  receiving-spent m d = rw (m, ne_eqb b 0 d)

  pub receiving-zero : mark ≡ receiving_mark → b ≡ 0 → eqb n 0 ≡ counter_fits mark b n
  unfolding counter_fits
  receiving-zero m e = rw (m, e)

  module _ (other : mark ≡ receiving_mark → ⊥) where
    pub other-left : b ≡ 0 → true ≡ counter_fits mark b n
    unfolding counter_fits
    other-left e = rw (ne_eqb mark receiving_mark other, e)

    pub other-unknown : (b ≡ 0 → ⊥) → (b ≡ 1 → ⊥) → false ≡ counter_fits mark b n
    unfolding counter_fits
    other-unknown d f = rw (ne_eqb mark receiving_mark other, ne_eqb b 0 d, ne_eqb b 1 f)

    pub other_last : b ≡ 1 → eqb n last_counter ≡ counter_fits mark b n
    unfolding counter_fits
    other_last e = rw (ne_eqb mark receiving_mark other, e)

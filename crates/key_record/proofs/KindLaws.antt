-- SPDX-License-Identifier: MIT
-- What a record's kind and its KID say of it. Assumes nothing.
use mathlib.Core.Path.{◌≡◌, refl, sym, ◌∙◌, ap₂}
use mathlib.Core.Bool.{Bool, true, false, false≢true}
use Prim.Native.Nat.{ℕ, ◌≤◌}
use native.Mathlib.Omega.{arith}
use lib.Dec.{ltb}
use borrow.Author.Tests.{eq-eqb}
use Rattle.key_record.specs.Record.{KeyRecord, empty, sending, receiving, retired, is_empty, is_sending, is_receiving, kid_of, holds, in_order, counter_of, ceiling}
use Rattle.key_record.specs.Inner.Rows.{kind_of, has_key, precedes}
use Rattle.key_record.proofs.Codec.{Fit}
use Rattle.key_record.specs.declared.Kind.{Kind}
use Rattle.key_record.specs.declared.Kind.TheVariants.{Empty, Sender, Receiver, Retired}

pub kind-sends : (r : KeyRecord) → kind_of r ≡ Sender → is_sending r ≡ true
kind-sends empty e = let z : ◌≡◌ {A = ℕ} 0 1 = cc in absurd (omega arith)
kind-sends (sending r) e = refl
kind-sends (receiving r w) e = let z : ◌≡◌ {A = ℕ} 0 1 = cc in absurd (omega arith)
kind-sends (retired r) e = let z : ◌≡◌ {A = ℕ} 0 1 = cc in absurd (omega arith)

pub sends-keyed : (r : KeyRecord) → is_sending r ≡ true → has_key r ≡ true
sends-keyed empty e = e
sends-keyed (sending r) e = refl
sends-keyed (receiving r w) e = refl
sends-keyed (retired r) e = e

pub receives-keyed : (r : KeyRecord) → is_receiving r ≡ true → has_key r ≡ true
receives-keyed empty e = e
receives-keyed (sending r) e = refl
receives-keyed (receiving r w) e = refl
receives-keyed (retired r) e = e

pub sends-held : (r : KeyRecord) → is_sending r ≡ true → is_empty r ≡ false
sends-held empty e = absurd (false≢true e)
sends-held (sending r) e = refl
sends-held (receiving r w) e = refl
sends-held (retired r) e = refl

pub receives-held : (r : KeyRecord) → is_receiving r ≡ true → is_empty r ≡ false
receives-held empty e = absurd (false≢true e)
receives-held (sending r) e = refl
receives-held (receiving r w) e = refl
receives-held (retired r) e = refl

pub fit-counter : (r : KeyRecord) → Fit r → counter_of r ≤ ceiling
fit-counter empty f = omega arith
fit-counter (sending r) f = f.0.counter-most
fit-counter (receiving r w) f = omega arith
fit-counter (retired r) f = f.counter-most

pub holds-some : (kid : ℕ) (r : KeyRecord) → holds kid r ≡ true → is_empty r ≡ false
unfolding holds
holds-some kid empty h = sym h
holds-some kid (sending r) h = refl
holds-some kid (receiving r w) h = refl
holds-some kid (retired r) h = refl

pub holds-own : (r : KeyRecord) → is_empty r ≡ false → holds (kid_of r) r ≡ true
unfolding holds
holds-own empty h = sym h
holds-own (sending r) h = eq-eqb r.kid r.kid refl
holds-own (receiving r w) h = eq-eqb r.kid r.kid refl
holds-own (retired r) h = eq-eqb r.kid r.kid refl

-- ---- the order of two records, as it is told

module _ (r next : KeyRecord) (b : Bool) (e : b ≡ is_empty next) where
  pub order-vacant : b ≡ true → true ≡ in_order r next
  unfolding in_order
  order-vacant t = rw (sym e ∙ t)

  module _ (a : Bool) (f : a ≡ is_empty r) (n : b ≡ false) where
    pub order-none : a ≡ true → false ≡ in_order r next
    unfolding in_order
    order-none t = rw (sym e ∙ n, sym f ∙ t)

    pub order-kids : (j k : ℕ) → a ≡ false → j ≡ kid_of r → k ≡ kid_of next → ltb j k ≡ in_order r next
    unfolding in_order
    order-kids j k t p q = ap₂ ltb p q ∙ rw (sym e ∙ n, sym f ∙ t)

module _ (kid : ℕ) (r : KeyRecord) (a : Bool) (f : a ≡ is_empty r) where
  pub precedes-none : a ≡ true → false ≡ precedes kid r
  unfolding precedes
  precedes-none t = rw (sym f ∙ t)

  pub precedes-kid : (j : ℕ) → a ≡ false → j ≡ kid_of r → ltb j kid ≡ precedes kid r
  unfolding precedes
  precedes-kid j t p = rw (p, sym f ∙ t)

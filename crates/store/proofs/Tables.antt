-- SPDX-License-Identifier: MIT
-- Laws of the table: what stands under a Key ID after a change, and that Key IDs stay apart. Assumes nothing.
use mathlib.Core.Path.{◌≡◌, refl, sym, ◌∙◌, ap}
use mathlib.Core.Bool.{Bool, true, false, false≢true}
use mathlib.Core.List.{List, [], ◌∷◌}
use Prim.Native.Nat.{ℕ, zero, suc}
use native.Mathlib.Omega.{arith}
use lib.ListN.{length, get_or, set}
use borrow.Author.Tests.{eq-eqb, ne_eqb, eqb-true}
use Rattle.key_record.specs.Record.{KeyRecord, empty, sending, receiving, retired, is_empty, holds}
use Rattle.store.specs.Table.{get, put, alone, apart, place_of}
use Rattle.key_record.proofs.KindLaws.{holds-some}
use Rattle.answers.proofs.Basics.{Two, yes', no', two, both_true, both-and}

-- ---- one record

-- a record is empty, or holds a Key ID
pub data View (r : KeyRecord) : Type 0 where
  vacant : r ≡ empty → View r
  held : (kid : ℕ) → holds kid r ≡ true → View r

pub view : (r : KeyRecord) → View r
unfolding holds
view empty = vacant refl
view (sending r) = held r.kid (eq-eqb r.kid r.kid refl)
view (receiving r w) = held r.kid (eq-eqb r.kid r.kid refl)
view (retired r) = held r.kid (eq-eqb r.kid r.kid refl)

pub empty-is : (r : KeyRecord) → is_empty r ≡ true → r ≡ empty
empty-is empty e = refl
empty-is (sending r) e = absurd (false≢true e)
empty-is (receiving r w) e = absurd (false≢true e)
empty-is (retired r) e = absurd (false≢true e)

-- a record holds one Key ID
pub holds-other : (kid k : ℕ) (r : KeyRecord) → holds kid r ≡ true → (k ≡ kid → ⊥) → holds k r ≡ false
unfolding holds
holds-other kid k empty h d = refl
holds-other kid k (sending r) h d = ne_eqb r.kid k (λ e. d (sym e ∙ eqb-true r.kid kid h))
holds-other kid k (receiving r w) h d = ne_eqb r.kid k (λ e. d (sym e ∙ eqb-true r.kid kid h))
holds-other kid k (retired r) h d = ne_eqb r.kid k (λ e. d (sym e ∙ eqb-true r.kid kid h))

pub holds-empty : (kid : ℕ) → holds kid empty ≡ false
unfolding holds
holds-empty kid = refl

-- ---- the record under a Key ID

pub get-here : (kid : ℕ) (r : KeyRecord) (rs : List KeyRecord) → holds kid r ≡ true → get kid (r ∷ rs) ≡ r
unfolding get
get-here kid r rs h = rw h

pub get-there : (kid : ℕ) (r : KeyRecord) (rs : List KeyRecord) → holds kid r ≡ false → get kid (r ∷ rs) ≡ get kid rs
unfolding get
get-there kid r rs h = rw h

get-past-empty : (kid : ℕ) (rs : List KeyRecord) → get kid (empty ∷ rs) ≡ get kid rs
get-past-empty kid rs = get-there kid empty rs (holds-empty kid)

-- what is found under a Key ID holds it
pub get_holds : (kid : ℕ) (rs : List KeyRecord) → is_empty (get kid rs) ≡ false → holds kid (get kid rs) ≡ true
unfolding get
get_holds kid [] h = absurd (false≢true (sym h))
get_holds kid (r ∷ rs) h = by (two (holds kid r)) (λ q. get_holds kid rs q)
  where
    by : Two (holds kid r) → (is_empty (get kid rs) ≡ false → holds kid (get kid rs) ≡ true) → holds kid (get kid (r ∷ rs)) ≡ true
    by (yes' t) f = rw (get-here kid r rs t) t
    by (no' t) f = rw (get-there kid r rs t) (f (rw (get-there kid r rs t) at h))

-- ---- a record changed

pub put-here : (kid : ℕ) (r x : KeyRecord) (xs : List KeyRecord) → holds kid x ≡ true → put kid r (x ∷ xs) ≡ r ∷ xs
unfolding put
put-here kid r x xs h = rw h

pub put-there : (kid : ℕ) (r x : KeyRecord) (xs : List KeyRecord) → holds kid x ≡ false → put kid r (x ∷ xs) ≡ x ∷ put kid r xs
unfolding put
put-there kid r x xs h = rw h

module _ (kid : ℕ) where
  pub put-length : (r : KeyRecord) (rs : List KeyRecord) → length (put kid r rs) ≡ length rs
  unfolding put
  put-length r [] = refl
  put-length r (x ∷ xs) = by (two (holds kid x)) (put-length r xs)
    where
      by : Two (holds kid x) → length (put kid r xs) ≡ length xs → length (put kid r (x ∷ xs)) ≡ suc (length xs)
      by (yes' t) e = ap length (put-here kid r x xs t)
      by (no' t) e = ap length (put-there kid r x xs t) ∙ ap suc e

  pub put_same : (r : KeyRecord) (rs : List KeyRecord) → holds kid r ≡ true → is_empty (get kid rs) ≡ false → get kid (put kid r rs) ≡ r
  unfolding put get
  put_same r [] h n = absurd (false≢true (sym n))
  put_same r (x ∷ xs) h n = by (two (holds kid x)) (λ q. put_same r xs h q)
    where
      by : Two (holds kid x) → (is_empty (get kid xs) ≡ false → get kid (put kid r xs) ≡ r) → get kid (put kid r (x ∷ xs)) ≡ r
      by (yes' t) f = ap (get kid) (put-here kid r x xs t) ∙ get-here kid r xs h
      by (no' t) f = ap (get kid) (put-there kid r x xs t) ∙ get-there kid x (put kid r xs) t ∙ f (rw (get-there kid x xs t) at n)

  pub put_other : (k : ℕ) (r : KeyRecord) (rs : List KeyRecord) → holds kid r ≡ true → (k ≡ kid → ⊥) → get k (put kid r rs) ≡ get k rs
  unfolding put
  put_other k r [] h d = refl
  put_other k r (x ∷ xs) h d = by (two (holds kid x)) (two (holds k x)) (put_other k r xs h d)
    where
      by : Two (holds kid x) → Two (holds k x) → get k (put kid r xs) ≡ get k xs → get k (put kid r (x ∷ xs)) ≡ get k (x ∷ xs)
      by (yes' t) u e = ap (get k) (put-here kid r x xs t) ∙ get-there k r xs (holds-other kid k r h d) ∙ sym (get-there k x xs (holds-other kid k x t d))
      by (no' t) (yes' u) e = ap (get k) (put-there kid r x xs t) ∙ get-here k x (put kid r xs) u ∙ sym (get-here k x xs u)
      by (no' t) (no' u) e = ap (get k) (put-there kid r x xs t) ∙ get-there k x (put kid r xs) u ∙ e ∙ sym (get-there k x xs u)

-- ---- Key IDs apart

-- that the Key ID which r holds is in no other record
pub alone-get : (kid : ℕ) (r : KeyRecord) (rs : List KeyRecord) → holds kid r ≡ true → alone r rs ≡ is_empty (get kid rs)
unfolding holds alone
alone-get kid empty rs h = absurd (false≢true h)
alone-get kid (sending r) rs h = ap (λ (k : ℕ). is_empty (get k rs)) (eqb-true r.kid kid h)
alone-get kid (receiving r w) rs h = ap (λ (k : ℕ). is_empty (get k rs)) (eqb-true r.kid kid h)
alone-get kid (retired r) rs h = ap (λ (k : ℕ). is_empty (get k rs)) (eqb-true r.kid kid h)

pub alone-empty : (rs : List KeyRecord) → alone empty rs ≡ true
unfolding alone
alone-empty rs = refl

apart_cons : (r : KeyRecord) (rs : List KeyRecord) → apart (r ∷ rs) ≡ true → (alone r rs ≡ true) × (apart rs ≡ true)
unfolding apart
apart_cons r rs e = both_true (alone r rs) (apart rs) e

pub cons-apart : (r : KeyRecord) (rs : List KeyRecord) → alone r rs ≡ true → apart rs ≡ true → apart (r ∷ rs) ≡ true
unfolding apart
cons-apart r rs p q = both-and (alone r rs) (apart rs) p q

-- ---- by place

module _ (kid : ℕ) where
  -- where a later record holds the Key ID, the first does not
  passed : (x : KeyRecord) (xs : List KeyRecord) (i : ℕ) → apart (x ∷ xs) ≡ true → holds kid (get_or xs i empty) ≡ true → get kid xs ≡ get_or xs i empty → holds kid x ≡ false
  passed x xs i a h e = by (two (holds kid x))
    where
      by : Two (holds kid x) → holds kid x ≡ false
      by (no' t) = t
      by (yes' t) = absurd (false≢true (sym (holds-some kid (get_or xs i empty) h) ∙ ap is_empty (sym e) ∙ sym (alone-get kid x xs t) ∙ (apart_cons x xs a).0))

  pub get_at : (rs : List KeyRecord) (i : ℕ) → apart rs ≡ true → holds kid (get_or rs i empty) ≡ true → get kid rs ≡ get_or rs i empty
  get_at [] i a h = absurd (false≢true (sym (holds-empty kid) ∙ h))
  get_at (x ∷ xs) zero a h = get-here kid x xs h
  get_at (x ∷ xs) (suc i) a h =
      let e = get_at xs i (apart_cons x xs a).1 h in
      get-there kid x xs (passed x xs i a h e) ∙ e

  pub put-at : (r : KeyRecord) (rs : List KeyRecord) (i : ℕ) → apart rs ≡ true → holds kid (get_or rs i empty) ≡ true → put kid r rs ≡ set rs i r
  put-at r [] i a h = absurd (false≢true (sym (holds-empty kid) ∙ h))
  put-at r (x ∷ xs) zero a h = put-here kid r x xs h
  put-at r (x ∷ xs) (suc i) a h =
      let b = (apart_cons x xs a).1 in
      put-there kid r x xs (passed x xs i a h (get_at xs i b h)) ∙ ap (λ (t : List KeyRecord). x ∷ t) (put-at r xs i b h)

  pub place_is : (rs : List KeyRecord) (i : ℕ) → apart rs ≡ true → holds kid (get_or rs i empty) ≡ true → place_of kid rs ≡ i
  unfolding place_of
  place_is [] i a h = absurd (false≢true (sym (holds-empty kid) ∙ h))
  place_is (x ∷ xs) zero a h = rw h
  place_is (x ∷ xs) (suc i) a h =
      let b = (apart_cons x xs a).1 in
      rw (passed x xs i a h (get_at xs i b h)) (ap suc (place_is xs i b h))

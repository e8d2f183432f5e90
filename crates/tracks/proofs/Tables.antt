-- SPDX-License-Identifier: MIT
-- Laws of the table: what stands under a track after a change, and that tracks stay apart. Assumes nothing.
use Rattle.std.specs.Prelude.{Some}
use mathlib.Core.Path.{◌≡◌, refl, sym, ◌∙◌, ap}
use mathlib.Core.Bool.{Bool, true, false, false≢true}
use mathlib.Core.List.{List, [], ◌∷◌}
use Prim.Native.Nat.{ℕ, zero, suc}
use native.Mathlib.Omega.{arith}
use lib.ListN.{length, get_or, set}
use Rattle.track_record.specs.Record.{TrackId, TrackRecord, empty, track, is_empty, holds}
use Rattle.tracks.specs.Table.{get, replace, put, fill, full, alone, apart}
use Rattle.tracks.specs.Inner.Places.{FreeIn}
use Rattle.track_record.proofs.Records.{holds-empty, holds-some, holds-own, holds-is, empty-is}
use Rattle.answers.proofs.Basics.{Two, yes', no', two, both_true, both-and}

-- ---- one record

-- a record is empty, or holds a track
pub data View (r : TrackRecord) : Type 0 where
  vacant : r ≡ empty → View r
  held : (id : TrackId) → holds id r ≡ true → View r

pub view : (r : TrackRecord) → View r
view empty = vacant refl
view (track t) = held t.id (holds-own (track t) refl)

-- a record holds one track
pub holds-other : (id k : TrackId) (r : TrackRecord) → holds id r ≡ true → (k ≡ id → ⊥) → holds k r ≡ false
holds-other id k empty h d = holds-empty k
holds-other id k (track t) h d = by (two (holds k (track t)))
  where
    by : Two (holds k (track t)) → holds k (track t) ≡ false
    by (yes' q) = absurd (d (sym (holds-is k t q) ∙ holds-is id t h))
    by (no' q) = q

-- ---- the record under a track

pub get-here : (id : TrackId) (r : TrackRecord) (rs : List TrackRecord) → holds id r ≡ true → get id (r ∷ rs) ≡ r
unfolding get
get-here id r rs h = rw h

pub get-there : (id : TrackId) (r : TrackRecord) (rs : List TrackRecord) → holds id r ≡ false → get id (r ∷ rs) ≡ get id rs
unfolding get
get-there id r rs h = rw h

-- what is found under a track holds it
pub get_holds : (id : TrackId) (rs : List TrackRecord) → is_empty (get id rs) ≡ false → holds id (get id rs) ≡ true
unfolding get
get_holds id [] h = absurd (false≢true (sym h))
get_holds id (r ∷ rs) h = by (two (holds id r)) (λ q. get_holds id rs q)
  where
    by : Two (holds id r) → (is_empty (get id rs) ≡ false → holds id (get id rs) ≡ true) → holds id (get id (r ∷ rs)) ≡ true
    by (yes' t) f = rw (get-here id r rs t) t
    by (no' t) f = rw (get-there id r rs t) (f (rw (get-there id r rs t) at h))

-- ---- a record replaced

replace-here : (test : TrackRecord → Bool) (r x : TrackRecord) (xs : List TrackRecord) → test x ≡ true → replace test r (x ∷ xs) ≡ r ∷ xs
unfolding replace
replace-here test r x xs h = rw h

replace-there : (test : TrackRecord → Bool) (r x : TrackRecord) (xs : List TrackRecord) → test x ≡ false → replace test r (x ∷ xs) ≡ x ∷ replace test r xs
unfolding replace
replace-there test r x xs h = rw h

pub replace-length : (test : TrackRecord → Bool) (r : TrackRecord) (rs : List TrackRecord) → length (replace test r rs) ≡ length rs
unfolding replace
replace-length test r [] = refl
replace-length test r (x ∷ xs) = by (two (test x)) (replace-length test r xs)
  where
    by : Two (test x) → length (replace test r xs) ≡ length xs → length (replace test r (x ∷ xs)) ≡ suc (length xs)
    by (yes' t) e = ap length (replace-here test r x xs t)
    by (no' t) e = ap length (replace-there test r x xs t) ∙ ap suc e

-- a track that neither the old record nor the new one holds finds what it found
replace-other : (test : TrackRecord → Bool) (k : TrackId) (r : TrackRecord) (rs : List TrackRecord) → ((x : TrackRecord) → test x ≡ true → holds k x ≡ false) → holds k r ≡ false
    → get k (replace test r rs) ≡ get k rs
unfolding replace
replace-other test k r [] p h = refl
replace-other test k r (x ∷ xs) p h = by (two (test x)) (two (holds k x)) (replace-other test k r xs p h)
  where
    by : Two (test x) → Two (holds k x) → get k (replace test r xs) ≡ get k xs → get k (replace test r (x ∷ xs)) ≡ get k (x ∷ xs)
    by (yes' t) u e = ap (get k) (replace-here test r x xs t) ∙ get-there k r xs h ∙ sym (get-there k x xs (p x t))
    by (no' t) (yes' u) e = ap (get k) (replace-there test r x xs t) ∙ get-here k x (replace test r xs) u ∙ sym (get-here k x xs u)
    by (no' t) (no' u) e = ap (get k) (replace-there test r x xs t) ∙ get-there k x (replace test r xs) u ∙ e ∙ sym (get-there k x xs u)

-- ---- tracks apart

-- that the track which r holds is in no other record
pub alone-get : (id : TrackId) (r : TrackRecord) (rs : List TrackRecord) → holds id r ≡ true → alone r rs ≡ is_empty (get id rs)
unfolding alone
alone-get id empty rs h = absurd (false≢true (sym (holds-empty id) ∙ h))
alone-get id (track t) rs h = ap (λ (k : TrackId). is_empty (get k rs)) (holds-is id t h)

alone-empty : (rs : List TrackRecord) → alone empty rs ≡ true
unfolding alone
alone-empty rs = refl

apart_cons : (r : TrackRecord) (rs : List TrackRecord) → apart (r ∷ rs) ≡ true → (alone r rs ≡ true) × (apart rs ≡ true)
unfolding apart
apart_cons r rs e = both_true (alone r rs) (apart rs) e

cons-apart : (r : TrackRecord) (rs : List TrackRecord) → alone r rs ≡ true → apart rs ≡ true → apart (r ∷ rs) ≡ true
unfolding apart
cons-apart r rs p q = both-and (alone r rs) (apart rs) p q

-- where every other track finds what it found, a record that does not hold id stays alone
alone-other : (id : TrackId) (x : TrackRecord) (old new : List TrackRecord) → holds id x ≡ false → ((k : TrackId) → (k ≡ id → ⊥) → get k new ≡ get k old) → alone x old ≡ true → alone x new ≡ true
alone-other id x old new h p a = by (view x)
  where
    by : View x → alone x new ≡ true
    by (vacant e) = ap (λ (y : TrackRecord). alone y new) e ∙ alone-empty new
    by (held k t) =
        alone-get k x new t
        ∙ ap is_empty (p k (λ e. false≢true (sym h ∙ ap (λ (j : TrackId). holds j x) (sym e) ∙ t)))
        ∙ sym (alone-get k x old t)
        ∙ a

-- ---- put, fill

module _ (id : TrackId) where
  pub put_same : (r : TrackRecord) (rs : List TrackRecord) → holds id r ≡ true → is_empty (get id rs) ≡ false → get id (put id r rs) ≡ r
  unfolding put get replace
  put_same r [] h n = absurd (false≢true (sym n))
  put_same r (x ∷ xs) h n = by (two (holds id x)) (λ q. put_same r xs h q)
    where
      by : Two (holds id x) → (is_empty (get id xs) ≡ false → get id (replace (holds id) r xs) ≡ r) → get id (replace (holds id) r (x ∷ xs)) ≡ r
      by (yes' t) f = ap (get id) (replace-here (holds id) r x xs t) ∙ get-here id r xs h
      by (no' t) f = ap (get id) (replace-there (holds id) r x xs t) ∙ get-there id x (replace (holds id) r xs) t ∙ f (rw (get-there id x xs t) at n)

  pub put_other : (k : TrackId) (r : TrackRecord) (rs : List TrackRecord) → holds id r ≡ true → (k ≡ id → ⊥) → get k (put id r rs) ≡ get k rs
  unfolding put
  put_other k r rs h d = replace-other (holds id) k r rs (λ x q. holds-other id k x q d) (holds-other id k r h d)

  -- a track that is nowhere is not in the first record, nor in the others
  missing : (x : TrackRecord) (xs : List TrackRecord) → is_empty (get id (x ∷ xs)) ≡ true → (holds id x ≡ false) × (is_empty (get id xs) ≡ true)
  missing x xs n = by (two (holds id x))
    where
      by : Two (holds id x) → (holds id x ≡ false) × (is_empty (get id xs) ≡ true)
      by (yes' t) = absurd (false≢true (sym (holds-some id x t) ∙ ap is_empty (sym (get-here id x xs t)) ∙ n))
      by (no' t) = (t, ap is_empty (sym (get-there id x xs t)) ∙ n)

  pub fill-same : (r : TrackRecord) (rs : List TrackRecord) → holds id r ≡ true → is_empty (get id rs) ≡ true → full rs ≡ false → get id (fill r rs) ≡ r
  unfolding fill full replace
  fill-same r [] h n f = absurd (false≢true (sym f))
  fill-same r (x ∷ xs) h n f = by (two (is_empty x)) (λ q. fill-same r xs h (missing x xs n).1 q)
    where
      by : Two (is_empty x) → (full xs ≡ false → get id (replace is_empty r xs) ≡ r) → get id (replace is_empty r (x ∷ xs)) ≡ r
      by (yes' t) g = ap (get id) (replace-here is_empty r x xs t) ∙ get-here id r xs h
      by (no' t) g = ap (get id) (replace-there is_empty r x xs t) ∙ get-there id x (replace is_empty r xs) (missing x xs n).0 ∙ g (rw t at f)

  pub fill-other : (k : TrackId) (r : TrackRecord) (rs : List TrackRecord) → holds id r ≡ true → (k ≡ id → ⊥) → get k (fill r rs) ≡ get k rs
  unfolding fill
  fill-other k r rs h d = replace-other is_empty k r rs (λ x q. ap (holds k) (empty-is x q) ∙ holds-empty k) (holds-other id k r h d)

  pub put-apart : (r : TrackRecord) (rs : List TrackRecord) → holds id r ≡ true → apart rs ≡ true → apart (put id r rs) ≡ true
  unfolding put replace
  put-apart r [] h a = a
  put-apart r (x ∷ xs) h a = by (two (holds id x)) (put-apart r xs h p.1)
    where
      p : (alone x xs ≡ true) × (apart xs ≡ true)
      p = apart_cons x xs a

      by : Two (holds id x) → apart (replace (holds id) r xs) ≡ true → apart (replace (holds id) r (x ∷ xs)) ≡ true
      by (yes' t) e = ap apart (replace-here (holds id) r x xs t) ∙ cons-apart r xs (alone-get id r xs h ∙ sym (alone-get id x xs t) ∙ p.0) p.1
      by (no' t) e =
          ap apart (replace-there (holds id) r x xs t)
          ∙ cons-apart x (replace (holds id) r xs) (alone-other id x xs (put id r xs) t (λ k d. put_other k r xs h d) p.0) e

  pub fill-apart : (r : TrackRecord) (rs : List TrackRecord) → holds id r ≡ true → is_empty (get id rs) ≡ true → apart rs ≡ true → apart (fill r rs) ≡ true
  unfolding fill replace
  fill-apart r [] h n a = a
  fill-apart r (x ∷ xs) h n a = by (two (is_empty x)) (fill-apart r xs h (missing x xs n).1 p.1)
    where
      p : (alone x xs ≡ true) × (apart xs ≡ true)
      p = apart_cons x xs a

      by : Two (is_empty x) → apart (replace is_empty r xs) ≡ true → apart (replace is_empty r (x ∷ xs)) ≡ true
      by (yes' t) e = ap apart (replace-here is_empty r x xs t) ∙ cons-apart r xs (alone-get id r xs h ∙ (missing x xs n).1) p.1
      by (no' t) e =
          ap apart (replace-there is_empty r x xs t)
          ∙ cons-apart x (replace is_empty r xs) (alone-other id x xs (fill r xs) (missing x xs n).0 (λ k d. fill-other k r xs h d) p.0) e

  -- ---- by place

  -- where a later record holds the track, the first does not
  passed : (x : TrackRecord) (xs : List TrackRecord) (i : ℕ) → apart (x ∷ xs) ≡ true → holds id (get_or xs i empty) ≡ true → get id xs ≡ get_or xs i empty → holds id x ≡ false
  passed x xs i a h e = by (two (holds id x))
    where
      by : Two (holds id x) → holds id x ≡ false
      by (no' t) = t
      by (yes' t) = absurd (false≢true (sym (holds-some id (get_or xs i empty) h) ∙ ap is_empty (sym e) ∙ sym (alone-get id x xs t) ∙ (apart_cons x xs a).0))

  pub get_at : (rs : List TrackRecord) (i : ℕ) → apart rs ≡ true → holds id (get_or rs i empty) ≡ true → get id rs ≡ get_or rs i empty
  get_at [] i a h = absurd (false≢true (sym (holds-empty id) ∙ h))
  get_at (x ∷ xs) zero a h = get-here id x xs h
  get_at (x ∷ xs) (suc i) a h =
      let e = get_at xs i (apart_cons x xs a).1 h in
      get-there id x xs (passed x xs i a h e) ∙ e

  pub put-at : (r : TrackRecord) (rs : List TrackRecord) (i : ℕ) → apart rs ≡ true → holds id (get_or rs i empty) ≡ true → put id r rs ≡ set rs i r
  unfolding put
  put-at r [] i a h = absurd (false≢true (sym (holds-empty id) ∙ h))
  put-at r (x ∷ xs) zero a h = replace-here (holds id) r x xs h
  put-at r (x ∷ xs) (suc i) a h =
      let b = (apart_cons x xs a).1 in
      replace-there (holds id) r x xs (passed x xs i a h (get_at xs i b h)) ∙ ap (λ (t : List TrackRecord). x ∷ t) (put-at r xs i b h)

-- the lowest-numbered empty record is the one that is filled
pub fill-at : (r : TrackRecord) (rs : List TrackRecord) (i : ℕ) → FreeIn (Some i) rs → (fill r rs ≡ set rs i r) × (full rs ≡ false)
unfolding fill full
fill-at r [] i f = absurd (omega (arith, f.0))
fill-at r (x ∷ xs) zero f = (replace-here is_empty r x xs f.1, rw f.1)
fill-at r (x ∷ xs) (suc i) f =
    let n : is_empty x ≡ false = f.2 0 (omega arith) in
    let g = fill-at r xs i (omega (arith, f.0), f.1, λ j h. f.2 (suc j) (omega arith)) in
    (replace-there is_empty r x xs n ∙ ap (λ (t : List TrackRecord). x ∷ t) g.0, rw n g.1)

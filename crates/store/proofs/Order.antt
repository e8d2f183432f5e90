-- SPDX-License-Identifier: MIT
-- Laws of records in order: Key IDs that rise, empty records last. What is inserted and what is taken out keeps the order, and
-- every other Key ID finds what it found. Assumes nothing.
use mathlib.Core.Path.{◌≡◌, refl, sym, ◌∙◌, ap, ap₂}
use mathlib.Core.Bool.{Bool, true, false, not, false≢true}
use mathlib.Core.List.{List, [], ◌∷◌, ◌++◌}
use Prim.Native.Nat.{ℕ, zero, suc, ◌+◌, ◌-◌, ◌<◌, ◌≤◌}
use native.Mathlib.Omega.{arith}
use lib.Dec.{ltb}
use lib.ListN.{length, get_or, take, drop, length-append, length-take}
use lib.Seq.{take-length}
use borrow.Author.Tests.{lt-ltb, le-ltb, ltb-true, ltb-false, eq-eqb, ne_eqb, eqb-true, not-true, not-false}
use Rattle.octets.specs.Octets.{pick, both}
use Rattle.key_record.specs.Record.{KeyRecord, empty, sending, receiving, retired, is_empty, kid_of, holds, in_order}
use Rattle.key_record.specs.Inner.Rows.{precedes}
use Rattle.key_record.proofs.KindLaws.{holds-some, holds-own}
use Rattle.answers.proofs.Basics.{Two, yes', no', two, both_true, both-and}
use Rattle.store.specs.Table.{get, put, insert, without, full, ordered_from, ordered, alone, apart}
use Rattle.store.specs.Inner.Places.{rank, closed}
use Rattle.store.proofs.Tables.{empty-is, holds-empty, holds-other, get-here, get-there, alone-get, alone-empty, cons-apart, put-here, put-there, get_at}

-- ---- two records, one behind the other

pub holds-kid : (kid : ℕ) (r : KeyRecord) → holds kid r ≡ true → kid_of r ≡ kid
unfolding holds
holds-kid kid empty h = absurd (false≢true h)
holds-kid kid (sending r) h = eqb-true r.kid kid h
holds-kid kid (receiving r w) h = eqb-true r.kid kid h
holds-kid kid (retired r) h = eqb-true r.kid kid h

-- a record with another Key ID, or none
differs : (kid : ℕ) (r : KeyRecord) → (is_empty r ≡ false → kid_of r ≡ kid → ⊥) → holds kid r ≡ false
differs kid r d = by (two (holds kid r))
  where
    by : Two (holds kid r) → holds kid r ≡ false
    by (no' t) = t
    by (yes' t) = absurd (d (holds-some kid r t) (holds-kid kid r t))

vacant-holds : (kid : ℕ) (r : KeyRecord) → is_empty r ≡ true → holds kid r ≡ false
vacant-holds kid r e = ap (holds kid) (empty-is r e) ∙ holds-empty kid

-- what may stand behind r: an empty record, or one with a higher Key ID
data Behind (r x : KeyRecord) : Type 0 where
  vacant : is_empty x ≡ true → Behind r x
  higher : is_empty r ≡ false → is_empty x ≡ false → kid_of r < kid_of x → Behind r x

module _ (r x : KeyRecord) where
  behind : in_order r x ≡ true → Behind r x
  unfolding in_order
  behind e = by (two (is_empty x))
    where
      by : Two (is_empty x) → Behind r x
      by (yes' t) = vacant t
      by (no' t) =
          let b = both_true (not (is_empty r)) (ltb (kid_of r) (kid_of x)) (rw t at e) in
          higher (not-true (is_empty r) b.0) t (ltb-true (kid_of r) (kid_of x) b.1)

  order-vacant : is_empty x ≡ true → in_order r x ≡ true
  unfolding in_order
  order-vacant e = rw e

  order-higher : is_empty r ≡ false → is_empty x ≡ false → kid_of r < kid_of x → in_order r x ≡ true
  unfolding in_order
  order-higher a b h = rw (b, a, lt-ltb (kid_of r) (kid_of x) h)

  order-not : is_empty x ≡ false → kid_of x ≤ kid_of r → in_order r x ≡ false
  unfolding in_order
  order-not b h = rw (b, le-ltb (kid_of r) (kid_of x) h) (by (two (is_empty r)))
    where
      by : Two (is_empty r) → both (not (is_empty r)) false ≡ false
      by (yes' t) = rw t
      by (no' t) = rw t

-- ---- records in order

pub from_cons : (r x : KeyRecord) (xs : List KeyRecord) → ordered_from r (x ∷ xs) ≡ true → (in_order r x ≡ true) × (ordered_from x xs ≡ true)
unfolding ordered_from
from_cons r x xs e = both_true (in_order r x) (ordered_from x xs) e

pub cons-from : (r x : KeyRecord) (xs : List KeyRecord) → in_order r x ≡ true → ordered_from x xs ≡ true → ordered_from r (x ∷ xs) ≡ true
unfolding ordered_from
cons-from r x xs p q = both-and (in_order r x) (ordered_from x xs) p q

from-none : (r : KeyRecord) → ordered_from r [] ≡ true
unfolding ordered_from
from-none r = refl

ordered-from : (x : KeyRecord) (xs : List KeyRecord) → ordered (x ∷ xs) ≡ ordered_from x xs
unfolding ordered
ordered-from x xs = refl

pub ordered-rest : (x : KeyRecord) (xs : List KeyRecord) → ordered_from x xs ≡ true → ordered xs ≡ true
unfolding ordered
ordered-rest x [] e = refl
ordered-rest x (y ∷ ys) e = (from_cons x y ys e).1

-- a record that is not empty has none but lower Key IDs and non-empty records before it
from_at : (r : KeyRecord) (rs : List KeyRecord) (i : ℕ) → ordered_from r rs ≡ true → is_empty (get_or rs i empty) ≡ false → (is_empty r ≡ false) × (kid_of r < kid_of (get_or rs i empty))
from_at r [] i e n = absurd (false≢true (sym n))
from_at r (x ∷ xs) zero e n = by (behind r x (from_cons r x xs e).0)
  where
    by : Behind r x → (is_empty r ≡ false) × (kid_of r < kid_of x)
    by (vacant v) = absurd (false≢true (sym n ∙ v))
    by (higher a b h) = (a, h)
from_at r (x ∷ xs) (suc i) e n = by (behind r x (from_cons r x xs e).0) (from_at x xs i (from_cons r x xs e).1 n)
  where
    by : Behind r x → (is_empty x ≡ false) × (kid_of x < kid_of (get_or xs i empty)) → (is_empty r ≡ false) × (kid_of r < kid_of (get_or xs i empty))
    by (vacant v) q = absurd (false≢true (sym q.0 ∙ v))
    by (higher a b h) q = (a, omega (arith, q.1))

-- behind a record stands no Key ID up to its own
pub none-behind : (k : ℕ) (r : KeyRecord) (rs : List KeyRecord) → ordered_from r rs ≡ true → (is_empty r ≡ false → k ≤ kid_of r) → get k rs ≡ empty
unfolding get
none-behind k r [] e h = refl
none-behind k r (x ∷ xs) e h = by (behind r x (from_cons r x xs e).0) (λ g. none-behind k x xs (from_cons r x xs e).1 g)
  where
    by : Behind r x → ((is_empty x ≡ false → k ≤ kid_of x) → get k xs ≡ empty) → get k (x ∷ xs) ≡ empty
    by (vacant v) f = get-there k x xs (vacant-holds k x v) ∙ f (λ n. absurd (false≢true (sym n ∙ v)))
    by (higher a b l) f =
        let m = h a in
        get-there k x xs (differs k x (λ n q. omega arith)) ∙ f (λ n. omega arith)

-- no two records in order share a Key ID
pub ordered-apart : (rs : List KeyRecord) → ordered rs ≡ true → apart rs ≡ true
unfolding ordered apart
ordered-apart [] e = refl
ordered-apart (x ∷ xs) e = cons-apart x xs (by (two (is_empty x))) (ordered-apart xs (ordered-rest x xs e))
  where
    by : Two (is_empty x) → alone x xs ≡ true
    by (yes' t) = ap (λ (y : KeyRecord). alone y xs) (empty-is x t) ∙ alone-empty xs
    by (no' t) = alone-get (kid_of x) x xs (holds-own x t) ∙ ap is_empty (none-behind (kid_of x) x xs e (λ n. omega arith))

-- ---- shorter and longer

from-take : (r : KeyRecord) (rs : List KeyRecord) (n : ℕ) → ordered_from r rs ≡ true → ordered_from r (take n rs) ≡ true
from-take r rs zero e = from-none r
from-take r [] (suc n) e = from-none r
from-take r (x ∷ xs) (suc n) e = cons-from r x (take n xs) (from_cons r x xs e).0 (from-take x xs n (from_cons r x xs e).1)

from-snoc : (r : KeyRecord) (rs : List KeyRecord) → ordered_from r rs ≡ true → ordered_from r (rs ++ (empty ∷ [])) ≡ true
from-snoc r [] e = cons-from r empty [] (order-vacant r empty refl) (from-none empty)
from-snoc r (x ∷ xs) e = cons-from r x (xs ++ (empty ∷ [])) (from_cons r x xs e).0 (from-snoc x xs (from_cons r x xs e).1)

-- without the first record, what stood before it goes on with those behind
pub from_past : (r x : KeyRecord) (xs : List KeyRecord) → is_empty x ≡ false → ordered_from r (x ∷ xs) ≡ true → ordered_from r xs ≡ true
from_past r x [] n e = from-none r
from_past r x (y ∷ ys) n e = cons-from r y ys (by (behind r x q.0) (behind x y (from_cons x y ys q.1).0)) (from_cons x y ys q.1).1
  where
    q : (in_order r x ≡ true) × (ordered_from x (y ∷ ys) ≡ true)
    q = from_cons r x (y ∷ ys) e

    by : Behind r x → Behind x y → in_order r y ≡ true
    by b (vacant v) = order-vacant r y v
    by (vacant v) (higher c d l) = absurd (false≢true (sym n ∙ v))
    by (higher a b h) (higher c d l) = order-higher r y a d (omega arith)

get-snoc : (k : ℕ) (rs : List KeyRecord) → get k (rs ++ (empty ∷ [])) ≡ get k rs
unfolding get
get-snoc k [] = get-there k empty [] (holds-empty k)
get-snoc k (x ∷ xs) = by (two (holds k x)) (get-snoc k xs)
  where
    by : Two (holds k x) → get k (xs ++ (empty ∷ [])) ≡ get k xs → get k (x ∷ (xs ++ (empty ∷ []))) ≡ get k (x ∷ xs)
    by (yes' t) e = get-here k x (xs ++ (empty ∷ [])) t ∙ sym (get-here k x xs t)
    by (no' t) e = get-there k x (xs ++ (empty ∷ [])) t ∙ e ∙ sym (get-there k x xs t)

-- ---- room for one more

full-cons : (x : KeyRecord) (xs : List KeyRecord) → is_empty x ≡ false → full (x ∷ xs) ≡ full xs
unfolding full
full-cons x xs e = rw e

full-vacant : (x : KeyRecord) (xs : List KeyRecord) → is_empty x ≡ true → full (x ∷ xs) ≡ false
unfolding full
full-vacant x xs e = rw e

full-none : full [] ≡ true
unfolding full
full-none = refl

-- the records of which one is empty end with an empty one
pub last-vacant : (x : KeyRecord) (xs : List KeyRecord) → ordered_from x xs ≡ true → full (x ∷ xs) ≡ false → x ∷ xs ≡ take (length xs) (x ∷ xs) ++ (empty ∷ [])
last-vacant x [] e f = by (two (is_empty x))
  where
    by : Two (is_empty x) → x ∷ [] ≡ empty ∷ []
    by (yes' t) = ap (λ (y : KeyRecord). y ∷ []) (empty-is x t)
    by (no' t) = absurd (false≢true (sym (sym (full-cons x [] t) ∙ f) ∙ full-none))
last-vacant x (y ∷ ys) e f = ap (λ (t : List KeyRecord). x ∷ t) (last-vacant y ys (from_cons x y ys e).1 (by (two (is_empty x)) (behind x y (from_cons x y ys e).0)))
  where
    by : Two (is_empty x) → Behind x y → full (y ∷ ys) ≡ false
    by (no' t) b = sym (full-cons x (y ∷ ys) t) ∙ f
    by (yes' t) (vacant v) = full-vacant y ys v
    by (yes' t) (higher a b h) = absurd (false≢true (sym a ∙ t))

-- and it is the last that tells
pub full-last : (x : KeyRecord) (xs : List KeyRecord) → ordered_from x xs ≡ true → not (is_empty (get_or (x ∷ xs) (length xs) empty)) ≡ full (x ∷ xs)
unfolding full
full-last x [] e = by (two (is_empty x))
  where
    by : Two (is_empty x) → not (is_empty x) ≡ pick (is_empty x) false true
    by (yes' t) = rw t
    by (no' t) = rw t
full-last x (y ∷ ys) e = by (two (is_empty x)) (full-last y ys (from_cons x y ys e).1)
  where
    last : KeyRecord
    last = get_or (y ∷ ys) (length ys) empty

    none : is_empty x ≡ true → is_empty (get_or (y ∷ ys) (length ys) empty) ≡ true
    none t = at (two (is_empty last))
      where
        at : Two (is_empty (get_or (y ∷ ys) (length ys) empty)) → is_empty (get_or (y ∷ ys) (length ys) empty) ≡ true
        at (yes' u) = u
        at (no' u) = absurd (false≢true (sym (from_at x (y ∷ ys) (length ys) e u).0 ∙ t))

    by : Two (is_empty x) → not (is_empty (get_or (y ∷ ys) (length ys) empty)) ≡ full (y ∷ ys) → not (is_empty (get_or (y ∷ ys) (length ys) empty)) ≡ full (x ∷ y ∷ ys)
    by (yes' t) h = ap not (none t) ∙ sym (full-vacant x (y ∷ ys) t)
    by (no' t) h = h ∙ sym (full-cons x (y ∷ ys) t)

-- ---- a record changed

-- a record stands where another with its Key ID stood
module _ (kid : ℕ) (r x : KeyRecord) (h : holds kid r ≡ true) (t : holds kid x ≡ true) where
  same-behind : (p : KeyRecord) → in_order p r ≡ in_order p x
  unfolding in_order
  same-behind p = rw (holds-some kid r h, holds-some kid x t, holds-kid kid r h, holds-kid kid x t)

  same-before : (xs : List KeyRecord) → ordered_from r xs ≡ ordered_from x xs
  unfolding ordered_from in_order
  same-before [] = refl
  same-before (y ∷ ys) = rw (holds-some kid r h, holds-some kid x t, holds-kid kid r h, holds-kid kid x t)

module _ (kid : ℕ) (r : KeyRecord) (h : holds kid r ≡ true) where
  put-from : (p : KeyRecord) (rs : List KeyRecord) → ordered_from p (put kid r rs) ≡ ordered_from p rs
  unfolding ordered_from put
  put-from p [] = refl
  put-from p (x ∷ xs) = by (two (holds kid x)) (put-from x xs)
    where
      by : Two (holds kid x) → ordered_from x (put kid r xs) ≡ ordered_from x xs → ordered_from p (put kid r (x ∷ xs)) ≡ ordered_from p (x ∷ xs)
      by (yes' t) e = ap (ordered_from p) (put-here kid r x xs t) ∙ ap₂ (λ (a b : Bool). both a b) (same-behind kid r x h t p) (same-before kid r x h t xs)
      by (no' t) e = ap (ordered_from p) (put-there kid r x xs t) ∙ ap (both (in_order p x)) e

  pub put-ordered : (rs : List KeyRecord) → ordered (put kid r rs) ≡ ordered rs
  unfolding ordered put
  put-ordered [] = refl
  put-ordered (x ∷ xs) = by (two (holds kid x))
    where
      by : Two (holds kid x) → ordered (put kid r (x ∷ xs)) ≡ ordered (x ∷ xs)
      by (yes' t) = ap ordered (put-here kid r x xs t) ∙ same-before kid r x h t xs
      by (no' t) = ap ordered (put-there kid r x xs t) ∙ put-from x xs

-- ---- a record inserted

insert-here : (r x : KeyRecord) (xs : List KeyRecord) → in_order r x ≡ true → insert r (x ∷ xs) ≡ r ∷ take (length xs) (x ∷ xs)
unfolding insert
insert-here r x xs h = rw h

insert-there : (r x : KeyRecord) (xs : List KeyRecord) → in_order r x ≡ false → insert r (x ∷ xs) ≡ x ∷ insert r xs
unfolding insert
insert-there r x xs h = rw h

pub insert-length : (r : KeyRecord) (rs : List KeyRecord) → length (insert r rs) ≡ length rs
unfolding insert
insert-length r [] = refl
insert-length r (x ∷ xs) = by (two (in_order r x)) (insert-length r xs)
  where
    by : Two (in_order r x) → length (insert r xs) ≡ length xs → length (insert r (x ∷ xs)) ≡ suc (length xs)
    by (yes' t) e = ap length (insert-here r x xs t) ∙ ap suc (simp length-take (omega arith))
    by (no' t) e = ap length (insert-there r x xs t) ∙ ap suc e

-- a Key ID that is nowhere is not in the first record, nor in the others
missing : (kid : ℕ) (x : KeyRecord) (xs : List KeyRecord) → get kid (x ∷ xs) ≡ empty → (holds kid x ≡ false) × (get kid xs ≡ empty)
missing kid x xs n = by (two (holds kid x))
  where
    by : Two (holds kid x) → (holds kid x ≡ false) × (get kid xs ≡ empty)
    by (yes' t) = absurd (false≢true (sym (holds-some kid x t) ∙ ap is_empty (sym (get-here kid x xs t)) ∙ ap is_empty n))
    by (no' t) = (t, sym (get-there kid x xs t) ∙ n)

module _ (kid : ℕ) (r : KeyRecord) (h : holds kid r ≡ true) where
  -- where r does not come before x, x comes before r
  comes-after : (x : KeyRecord) → holds kid x ≡ false → in_order r x ≡ false → (is_empty x ≡ false) × (in_order x r ≡ true)
  comes-after x d f = by (two (is_empty x))
    where
      by : Two (is_empty x) → (is_empty x ≡ false) × (in_order x r ≡ true)
      by (yes' t) = absurd (false≢true (sym f ∙ order-vacant r x t))
      by (no' t) = (t, order-higher x r t (holds-some kid r h) (low (two (ltb (kid_of x) (kid_of r)))))
        where
          k : kid_of r ≡ kid
          k = holds-kid kid r h

          apart_from : kid_of x ≡ kid → ⊥
          apart_from e = false≢true (sym d ∙ ap (λ (j : ℕ). holds j x) (sym e) ∙ holds-own x t)

          low : Two (ltb (kid_of x) (kid_of r)) → kid_of x < kid_of r
          low (yes' u) = ltb-true (kid_of x) (kid_of r) u
          low (no' u) = high (two (ltb (kid_of r) (kid_of x)))
            where
              high : Two (ltb (kid_of r) (kid_of x)) → kid_of x < kid_of r
              high (yes' v) = absurd (false≢true (sym f ∙ order-higher r x (holds-some kid r h) t (ltb-true (kid_of r) (kid_of x) v)))
              high (no' v) =
                  let a = ltb-false (kid_of x) (kid_of r) u in
                  let b = ltb-false (kid_of r) (kid_of x) v in
                  absurd (apart_from (omega (arith, k)))

  insert-from : (p : KeyRecord) (rs : List KeyRecord) → in_order p r ≡ true → get kid rs ≡ empty → ordered_from p rs ≡ true → ordered_from p (insert r rs) ≡ true
  unfolding insert
  insert-from p [] o n e = e
  insert-from p (x ∷ xs) o n e = by (two (in_order r x)) (λ q. insert-from x xs q m.1 (from_cons p x xs e).1)
    where
      m : (holds kid x ≡ false) × (get kid xs ≡ empty)
      m = missing kid x xs n

      by : Two (in_order r x) → (in_order x r ≡ true → ordered_from x (insert r xs) ≡ true) → ordered_from p (insert r (x ∷ xs)) ≡ true
      by (yes' t) f =
          ap (ordered_from p) (insert-here r x xs t)
          ∙ cons-from p r (take (length xs) (x ∷ xs)) o (from-take r (x ∷ xs) (length xs) (cons-from r x xs t (from_cons p x xs e).1))
      by (no' t) f = ap (ordered_from p) (insert-there r x xs t) ∙ cons-from p x (insert r xs) (from_cons p x xs e).0 (f (comes-after x m.0 t).1)

  pub insert-ordered : (rs : List KeyRecord) → get kid rs ≡ empty → ordered rs ≡ true → ordered (insert r rs) ≡ true
  unfolding ordered insert
  insert-ordered [] n e = e
  insert-ordered (x ∷ xs) n e = by (two (in_order r x))
    where
      m : (holds kid x ≡ false) × (get kid xs ≡ empty)
      m = missing kid x xs n

      by : Two (in_order r x) → ordered (insert r (x ∷ xs)) ≡ true
      by (yes' t) = ap ordered (insert-here r x xs t) ∙ from-take r (x ∷ xs) (length xs) (cons-from r x xs t e)
      by (no' t) = ap ordered (insert-there r x xs t) ∙ insert-from x xs (comes-after x m.0 t).1 m.1 e

  pub insert-same : (rs : List KeyRecord) → get kid rs ≡ empty → ordered rs ≡ true → full rs ≡ false → get kid (insert r rs) ≡ r
  unfolding full ordered
  insert-same [] n e f = absurd (false≢true (sym f))
  insert-same (x ∷ xs) n e f = by (two (in_order r x)) (λ q. insert-same xs m.1 (ordered-rest x xs e) q)
    where
      m : (holds kid x ≡ false) × (get kid xs ≡ empty)
      m = missing kid x xs n

      by : Two (in_order r x) → (full xs ≡ false → get kid (insert r xs) ≡ r) → get kid (insert r (x ∷ xs)) ≡ r
      by (yes' t) g = ap (get kid) (insert-here r x xs t) ∙ get-here kid r (take (length xs) (x ∷ xs)) h
      by (no' t) g =
          ap (get kid) (insert-there r x xs t)
          ∙ get-there kid x (insert r xs) m.0
          ∙ g (sym (full-cons x xs (comes-after x m.0 t).0) ∙ f)

  pub insert-other : (k : ℕ) (rs : List KeyRecord) → (k ≡ kid → ⊥) → get kid rs ≡ empty → ordered rs ≡ true → full rs ≡ false → get k (insert r rs) ≡ get k rs
  unfolding full ordered
  insert-other k [] d n e f = absurd (false≢true (sym f))
  insert-other k (x ∷ xs) d n e f = by (two (in_order r x)) (two (holds k x)) (λ q. insert-other k xs d m.1 (ordered-rest x xs e) q)
    where
      m : (holds kid x ≡ false) × (get kid xs ≡ empty)
      m = missing kid x xs n

      by : Two (in_order r x) → Two (holds k x) → (full xs ≡ false → get k (insert r xs) ≡ get k xs) → get k (insert r (x ∷ xs)) ≡ get k (x ∷ xs)
      by (yes' t) u g =
          ap (get k) (insert-here r x xs t)
          ∙ get-there k r (take (length xs) (x ∷ xs)) (holds-other kid k r h d)
          ∙ sym (ap (get k) (last-vacant x xs e f) ∙ get-snoc k (take (length xs) (x ∷ xs)))
      by (no' t) (yes' u) g = ap (get k) (insert-there r x xs t) ∙ get-here k x (insert r xs) u ∙ sym (get-here k x xs u)
      by (no' t) (no' u) g =
          ap (get k) (insert-there r x xs t)
          ∙ get-there k x (insert r xs) u
          ∙ g (sym (full-cons x xs (comes-after x m.0 t).0) ∙ f)
          ∙ sym (get-there k x xs u)

-- ---- a record taken out

without-here : (kid : ℕ) (x : KeyRecord) (xs : List KeyRecord) → holds kid x ≡ true → without kid (x ∷ xs) ≡ xs ++ (empty ∷ [])
unfolding without
without-here kid x xs h = rw h

without-there : (kid : ℕ) (x : KeyRecord) (xs : List KeyRecord) → holds kid x ≡ false → without kid (x ∷ xs) ≡ x ∷ without kid xs
unfolding without
without-there kid x xs h = rw h

module _ (kid : ℕ) where
  pub without-length : (rs : List KeyRecord) → length (without kid rs) ≡ length rs
  unfolding without
  without-length [] = refl
  without-length (x ∷ xs) = by (two (holds kid x)) (without-length xs)
    where
      by : Two (holds kid x) → length (without kid xs) ≡ length xs → length (without kid (x ∷ xs)) ≡ suc (length xs)
      by (yes' t) e = ap length (without-here kid x xs t) ∙ simp length-append (omega arith)
      by (no' t) e = ap length (without-there kid x xs t) ∙ ap suc e

  without_from : (p : KeyRecord) (rs : List KeyRecord) → ordered_from p rs ≡ true → ordered_from p (without kid rs) ≡ true
  unfolding without
  without_from p [] e = e
  without_from p (x ∷ xs) e = by (two (holds kid x)) (without_from x xs (from_cons p x xs e).1)
    where
      by : Two (holds kid x) → ordered_from x (without kid xs) ≡ true → ordered_from p (without kid (x ∷ xs)) ≡ true
      by (yes' t) f = ap (ordered_from p) (without-here kid x xs t) ∙ from-snoc p xs (from_past p x xs (holds-some kid x t) e)
      by (no' t) f = ap (ordered_from p) (without-there kid x xs t) ∙ cons-from p x (without kid xs) (from_cons p x xs e).0 f

  ordered-snoc : (rs : List KeyRecord) → ordered rs ≡ true → ordered (rs ++ (empty ∷ [])) ≡ true
  unfolding ordered
  ordered-snoc [] e = from-none empty
  ordered-snoc (x ∷ xs) e = from-snoc x xs e

  pub without-ordered : (rs : List KeyRecord) → ordered rs ≡ true → ordered (without kid rs) ≡ true
  unfolding ordered without
  without-ordered [] e = e
  without-ordered (x ∷ xs) e = by (two (holds kid x))
    where
      by : Two (holds kid x) → ordered (without kid (x ∷ xs)) ≡ true
      by (yes' t) = ap ordered (without-here kid x xs t) ∙ ordered-snoc xs (ordered-rest x xs e)
      by (no' t) = ap ordered (without-there kid x xs t) ∙ without_from x xs e

  pub without-same : (rs : List KeyRecord) → ordered rs ≡ true → get kid (without kid rs) ≡ empty
  unfolding ordered without get
  without-same [] e = refl
  without-same (x ∷ xs) e = by (two (holds kid x)) (without-same xs (ordered-rest x xs e))
    where
      by : Two (holds kid x) → get kid (without kid xs) ≡ empty → get kid (without kid (x ∷ xs)) ≡ empty
      by (yes' t) f =
          let k = holds-kid kid x t in
          ap (get kid) (without-here kid x xs t) ∙ get-snoc kid xs ∙ none-behind kid x xs e (λ n. omega arith)
      by (no' t) f = ap (get kid) (without-there kid x xs t) ∙ get-there kid x (without kid xs) t ∙ f

  pub without_other : (k : ℕ) (rs : List KeyRecord) → (k ≡ kid → ⊥) → get k (without kid rs) ≡ get k rs
  unfolding without
  without_other k [] d = refl
  without_other k (x ∷ xs) d = by (two (holds kid x)) (two (holds k x)) (without_other k xs d)
    where
      by : Two (holds kid x) → Two (holds k x) → get k (without kid xs) ≡ get k xs → get k (without kid (x ∷ xs)) ≡ get k (x ∷ xs)
      by (yes' t) u e = ap (get k) (without-here kid x xs t) ∙ get-snoc k xs ∙ sym (get-there k x xs (holds-other kid k x t d))
      by (no' t) (yes' u) e = ap (get k) (without-there kid x xs t) ∙ get-here k x (without kid xs) u ∙ sym (get-here k x xs u)
      by (no' t) (no' u) e = ap (get k) (without-there kid x xs t) ∙ get-there k x (without kid xs) u ∙ e ∙ sym (get-there k x xs u)

  -- taken out by place
  pub without_at : (rs : List KeyRecord) (i : ℕ) → ordered rs ≡ true → holds kid (get_or rs i empty) ≡ true → without kid rs ≡ closed i rs
  unfolding closed ordered
  without_at [] i e h = absurd (false≢true (sym (holds-empty kid) ∙ h))
  without_at (x ∷ xs) zero e h = without-here kid x xs h
  without_at (x ∷ xs) (suc i) e h = without-there kid x xs (differs kid x (λ n q. lower q)) ∙ ap (λ (t : List KeyRecord). x ∷ t) (without_at xs i (ordered-rest x xs e) h)
    where
      lower : kid_of x ≡ kid → ⊥
      lower q =
          let b = (from_at x xs i e (holds-some kid (get_or xs i empty) h)).1 in
          let c = holds-kid kid (get_or xs i empty) h in
          omega arith

-- ---- the place of a Key ID

module _ (kid : ℕ) where
  rank-here : (x : KeyRecord) (xs : List KeyRecord) → precedes kid x ≡ false → rank kid (x ∷ xs) ≡ 0
  unfolding rank
  rank-here x xs h = rw h

  rank-there : (x : KeyRecord) (xs : List KeyRecord) → precedes kid x ≡ true → rank kid (x ∷ xs) ≡ suc (rank kid xs)
  unfolding rank
  rank-there x xs h = rw h

  lower-is : (r : KeyRecord) → precedes kid r ≡ true → (is_empty r ≡ false) × (kid_of r < kid)
  unfolding precedes
  lower-is r h = let b = both_true (not (is_empty r)) (ltb (kid_of r) kid) h in (not-true (is_empty r) b.0, ltb-true (kid_of r) kid b.1)

  is-lower : (r : KeyRecord) → is_empty r ≡ false → kid_of r < kid → precedes kid r ≡ true
  unfolding precedes
  is-lower r n h = rw (n, lt-ltb (kid_of r) kid h)

  pub rank_most : (rs : List KeyRecord) → rank kid rs ≤ length rs
  unfolding rank
  rank_most [] = omega arith
  rank_most (x ∷ xs) = by (two (precedes kid x)) (rank_most xs)
    where
      by : Two (precedes kid x) → rank kid xs ≤ length xs → rank kid (x ∷ xs) ≤ suc (length xs)
      by (yes' t) h = let e = rank-there x xs t in omega arith
      by (no' t) h = let e = rank-here x xs t in omega arith

  -- a lower record stands before the place
  pub rank-above : (rs : List KeyRecord) (i : ℕ) → ordered rs ≡ true → precedes kid (get_or rs i empty) ≡ true → i < rank kid rs
  unfolding ordered
  rank-above [] i e h = absurd (false≢true (sym (lower-is empty h).0))
  rank-above (x ∷ xs) zero e h = let r = rank-there x xs h in omega arith
  rank-above (x ∷ xs) (suc i) e h =
      let l = lower-is (get_or xs i empty) h in
      let b = from_at x xs i e l.0 in
      let r = rank-there x xs (is-lower x b.0 (omega (arith, b.1, l.1))) in
      let q = rank-above xs i (ordered-rest x xs e) h in
      omega arith

  -- any other does not
  pub rank_below : (rs : List KeyRecord) (i : ℕ) → precedes kid (get_or rs i empty) ≡ false → rank kid rs ≤ i
  unfolding rank
  rank_below [] i h = omega arith
  rank_below (x ∷ xs) zero h = let r = rank-here x xs h in omega arith
  rank_below (x ∷ xs) (suc i) h = by (two (precedes kid x)) (rank_below xs i h)
    where
      by : Two (precedes kid x) → rank kid xs ≤ i → rank kid (x ∷ xs) ≤ suc i
      by (yes' t) q = let r = rank-there x xs t in omega arith
      by (no' t) q = let r = rank-here x xs t in omega arith

  -- a Key ID that does not stand at its place is nowhere
  pub rank-missing : (rs : List KeyRecord) → ordered rs ≡ true → holds kid (get_or rs (rank kid rs) empty) ≡ false → get kid rs ≡ empty
  unfolding ordered get
  rank-missing [] e h = refl
  rank-missing (x ∷ xs) e h = by (two (precedes kid x)) (λ q. rank-missing xs (ordered-rest x xs e) q)
    where
      by : Two (precedes kid x) → (holds kid (get_or xs (rank kid xs) empty) ≡ false → get kid xs ≡ empty) → get kid (x ∷ xs) ≡ empty
      by (yes' t) f =
          let l = lower-is x t in
          get-there kid x xs (differs kid x (λ n q. omega (arith, l.1))) ∙ f (rw (rank-there x xs t) at h)
      by (no' t) f =
          let d : holds kid x ≡ false = rw (rank-here x xs t) at h in
          get-there kid x xs d ∙ none-behind kid x xs e (λ n. low n (two (ltb (kid_of x) kid)))
        where
          low : is_empty x ≡ false → Two (ltb (kid_of x) kid) → kid ≤ kid_of x
          low n (yes' u) = absurd (false≢true (sym t ∙ is-lower x n (ltb-true (kid_of x) kid u)))
          low n (no' u) = ltb-false (kid_of x) kid u

  -- a record that is inserted stands at its place
  pub insert-at : (r : KeyRecord) (rs : List KeyRecord) → holds kid r ≡ true → rank kid rs < length rs → holds kid (get_or rs (rank kid rs) empty) ≡ false
      → insert r rs ≡ take (rank kid rs) rs ++ (r ∷ take (length rs - suc (rank kid rs)) (drop (rank kid rs) rs))
  insert-at r [] h l d = absurd (omega arith)
  insert-at r (x ∷ xs) h l d = by (two (precedes kid x)) (λ a b. insert-at r xs h a b)
    where
      k : kid_of r ≡ kid
      k = holds-kid kid r h

      by : Two (precedes kid x)
          → (rank kid xs < length xs → holds kid (get_or xs (rank kid xs) empty) ≡ false → insert r xs ≡ take (rank kid xs) xs ++ (r ∷ take (length xs - suc (rank kid xs)) (drop (rank kid xs) xs)))
          → insert r (x ∷ xs) ≡ take (rank kid (x ∷ xs)) (x ∷ xs) ++ (r ∷ take (suc (length xs) - suc (rank kid (x ∷ xs))) (drop (rank kid (x ∷ xs)) (x ∷ xs)))
      by (yes' t) f =
          let e = rank-there x xs t in
          let b = lower-is x t in
          let less : suc (length xs) - suc (suc (rank kid xs)) ≡ length xs - suc (rank kid xs) = omega arith in
          insert-there r x xs (order-not r x b.0 (omega (arith, k, b.1)))
          ∙ ap (λ (y : List KeyRecord). x ∷ y) (f (omega arith) (rw e at d))
          ∙ sym (ap (λ (j : ℕ). take j (x ∷ xs) ++ (r ∷ take (suc (length xs) - suc j) (drop j (x ∷ xs)))) e ∙ ap (λ (j : ℕ). x ∷ (take (rank kid xs) xs ++ (r ∷ take j (drop (rank kid xs) xs)))) less)
      by (no' t) f =
          let e = rank-here x xs t in
          let less : suc (length xs) - suc 0 ≡ length xs = omega arith in
          insert-here r x xs (fore (two (is_empty x)) (rw e at d))
          ∙ sym (ap (λ (j : ℕ). take j (x ∷ xs) ++ (r ∷ take (suc (length xs) - suc j) (drop j (x ∷ xs)))) e ∙ ap (λ (j : ℕ). r ∷ take j (x ∷ xs)) less)
        where
          fore : Two (is_empty x) → holds kid x ≡ false → in_order r x ≡ true
          fore (yes' v) g = order-vacant r x v
          fore (no' v) g = above (two (ltb kid (kid_of x)))
            where
              above : Two (ltb kid (kid_of x)) → in_order r x ≡ true
              above (yes' u) = let q = ltb-true kid (kid_of x) u in order-higher r x (holds-some kid r h) v (omega (arith, k))
              above (no' u) = same (two (ltb (kid_of x) kid))
                where
                  same : Two (ltb (kid_of x) kid) → in_order r x ≡ true
                  same (yes' w) = absurd (false≢true (sym t ∙ is-lower x v (ltb-true (kid_of x) kid w)))
                  same (no' w) =
                      let p = ltb-false kid (kid_of x) u in
                      let q = ltb-false (kid_of x) kid w in
                      let z : kid_of x ≡ kid = omega arith in
                      absurd (false≢true (sym g ∙ ap (λ (j : ℕ). holds j x) (sym z) ∙ holds-own x v))

-- whether all are full, by the last
pub full-told : (rs : List KeyRecord) → ordered rs ≡ true → 1 ≤ length rs → not (is_empty (get_or rs (length rs - 1) empty)) ≡ full rs
unfolding ordered
full-told [] e h = absurd (omega arith)
full-told (x ∷ xs) e h =
    let n : suc (length xs) - 1 ≡ length xs = omega arith in
    ap (λ (k : ℕ). not (is_empty (get_or (x ∷ xs) k empty))) n ∙ full-last x xs e

-- where a Key ID is not at its place, there is a place for it where one is left
pub rank_room : (kid : ℕ) (rs : List KeyRecord) → ordered rs ≡ true → full rs ≡ false → rank kid rs < length rs
unfolding ordered full rank
rank_room kid [] e f = absurd (false≢true (sym f))
rank_room kid (x ∷ xs) e f = by (two (precedes kid x)) (λ q. rank_room kid xs (ordered-rest x xs e) q)
  where
    by : Two (precedes kid x) → (full xs ≡ false → rank kid xs < length xs) → rank kid (x ∷ xs) < suc (length xs)
    by (yes' t) g =
        let r = rank-there kid x xs t in
        let q = g (sym (full-cons x xs (lower-is kid x t).0) ∙ f) in
        omega arith
    by (no' t) g = let r = rank-here kid x xs t in omega arith

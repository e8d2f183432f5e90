-- SPDX-License-Identifier: MIT
-- A sound store is a table of records in bytes. Assumes nothing.
use mathlib.Core.Path.{◌≡◌, refl, sym, ◌∙◌, ap, ap₂}
use mathlib.Core.Bool.{Bool, true, false}
use mathlib.Core.List.{List, [], ◌∷◌, ◌++◌, append_assoc}
use Prim.Native.Nat.{ℕ, zero, suc, ◌+◌, ◌*◌, ◌/◌, ◌%◌, ◌-◌, ◌<◌, ◌≤◌}
use native.Mathlib.Omega.{arith}
use lib.Dec.{leb, eqb}
use lib.ListN.{length, get_or, set, take, drop, length-append, length-take, length-drop, take-append-drop, drop_of_length-le}
use lib.Seq.{take_at, drop_at, drop-drop, take-append-add}
use borrow.Rule.Slice.PartMut.{put_mid}
use borrow.Author.Tests.{leb-true, le-leb, eq-eqb, eqb-true}
use Rattle.octets.specs.Octets.{Octets, both}
use Rattle.octets.proofs.Laws.{octets-append, octets-take, octets-drop}
use Rattle.key_record.specs.Layout.{record_size, encode, decode, obeys}
use Rattle.key_record.specs.Record.{KeyRecord, empty, is_empty, holds, in_order}
use Rattle.store.specs.Store.{max_records, length_right, encode_all, decode_all, all_obey, records, sound}
use Rattle.store.specs.Table.{get, put, insert, without, full, ordered, apart}
use Rattle.answers.proofs.Basics.{Two, yes', no', two, both_true, both-and}
use Rattle.key_record.proofs.Codec.{Fit, encode-length, encode-octets, decode-encode, obeys-fits, fits-obeys}
use Rattle.store.proofs.Tables.{empty-is, put-length, put_same, put_other}
use Rattle.store.proofs.Order.{ordered-apart, put-ordered, insert-length, insert-ordered, insert-same, insert-other, without-length, without-ordered, without-same, without_other}

abbrev pub AllFit : List KeyRecord → Type 0
AllFit [] = Unit {0}
AllFit (r ∷ rs) = Fit r × AllFit rs

-- the records of a sound store
pub record Table (rs : List KeyRecord) : Type 0 where
  pub fit : AllFit rs
  pub in_order_lem : ordered rs ≡ true
  pub some : 1 ≤ length rs
  pub most : length rs ≤ max_records

-- no two of them share a Key ID
pub kids-apart : {rs : List KeyRecord} → Table rs → apart rs ≡ true
kids-apart {rs} t = ordered-apart rs t.in_order_lem

pub record Right (n : ℕ) : Type 0 where
  pub least : record_size ≤ n
  pub most : n ≤ max_records * record_size
  pub whole : n % record_size ≡ 0

pub length-right : (n : ℕ) → length_right n ≡ true → Right n
unfolding length_right
length-right n e =
    let a = both_true (leb record_size n) (both (leb n (max_records * record_size)) (eqb (n % record_size) 0)) e in
    let b = both_true (leb n (max_records * record_size)) (eqb (n % record_size) 0) a.1 in
    record { least = leb-true record_size n a.0; most = leb-true n (max_records * record_size) b.0; whole = eqb-true (n % record_size) 0 b.1 }

pub right-length : (n : ℕ) → Right n → length_right n ≡ true
unfolding length_right
right-length n r =
    both-and _ _ (le-leb record_size n r.least) (both-and _ _ (le-leb n (max_records * record_size) r.most) (eq-eqb (n % record_size) 0 r.whole))

-- ---- written and read back

pub encode-all-length : (rs : List KeyRecord) → AllFit rs → length (encode_all rs) ≡ length rs * record_size
unfolding encode_all
encode-all-length [] f = refl
encode-all-length (r ∷ rs) f =
    let a = encode-length r f.0 in
    let b = encode-all-length rs f.1 in
    simp length-append (omega arith)

pub encode-all-octets : (rs : List KeyRecord) → AllFit rs → Octets (encode_all rs)
unfolding encode_all
encode-all-octets [] f = λ i. omega arith
encode-all-octets (r ∷ rs) f = octets-append (encode r) (encode_all rs) (encode-octets r f.0) (encode-all-octets rs f.1)

pub decode-encode-all : (rs : List KeyRecord) → AllFit rs → decode_all (length rs) (encode_all rs) ≡ rs
unfolding encode_all decode_all
decode-encode-all [] f = refl
decode-encode-all (r ∷ rs) f =
    let n = encode-length r f.0 in
    ap₂ (λ (x : KeyRecord) (xs : List KeyRecord). x ∷ xs)
    (ap (decode) (take_at (encode r) (encode_all rs) record_size n) ∙ decode-encode r f.0)
    (ap (decode_all (length rs)) (drop_at (encode r) (encode_all rs) record_size n) ∙ decode-encode-all rs f.1)

all-obey : (rs : List KeyRecord) → AllFit rs → all_obey (length rs) (encode_all rs) ≡ true
unfolding encode_all all_obey
all-obey [] f = refl
all-obey (r ∷ rs) f =
    let n = encode-length r f.0 in
    both-and _ _ (ap (obeys) (take_at (encode r) (encode_all rs) record_size n) ∙ fits-obeys r f.0)
    (ap (all_obey (length rs)) (drop_at (encode r) (encode_all rs) record_size n) ∙ all-obey rs f.1)

-- ---- read and written back

obey-all : (n : ℕ) (s : List ℕ) → Octets s → length s ≡ n * record_size → all_obey n s ≡ true
    → AllFit (decode_all n s) × (encode_all (decode_all n s) ≡ s) × (length (decode_all n s) ≡ n)
unfolding encode_all decode_all all_obey
obey-all zero s o e t = (tt, sym (drop_of_length-le s {i = 0} (omega arith)), refl)
obey-all (suc n) s o e t =
    let b = both_true (obeys (take record_size s)) (all_obey n (drop record_size s)) t in
    let one = obeys-fits (take record_size s) (octets-take record_size s o) (simp length-take (omega arith)) b.0 in
    let rest = obey-all n (drop record_size s) (octets-drop record_size s o) (simp length-drop (omega arith)) b.1 in
    ((one.0, rest.0), ap₂ (λ (x y : List ℕ). x ++ y) one.1 rest.1 ∙ take-append-drop record_size s, ap suc rest.2)

-- ---- the two sides

pub sound-table : (s : List ℕ) → Octets s → sound s ≡ true → Table (records s) × (encode_all (records s) ≡ s)
unfolding sound records
sound-table s o e =
    let n = length s / record_size in
    let a = both_true (length_right (length s)) (both (all_obey n s) (ordered (decode_all n s))) e in
    let b = both_true (all_obey n s) (ordered (decode_all n s)) a.1 in
    let r = length-right (length s) a.0 in
    let all = obey-all n s o (omega (arith, r.whole)) b.0 in
    let l = all.2 in
    (record { fit = all.0; in_order_lem = b.1; some = omega (arith, r.least); most = omega (arith, r.most) }, all.1)

pub table-records : (rs : List KeyRecord) → AllFit rs → records (encode_all rs) ≡ rs
unfolding records
table-records rs f =
    let n = encode-all-length rs f in
    let q : length (encode_all rs) / record_size ≡ length rs = omega arith in
    rw q (decode-encode-all rs f)

pub table-sound : (rs : List KeyRecord) → Table rs → sound (encode_all rs) ≡ true
unfolding sound
table-sound rs t =
    let n = encode-all-length rs t.fit in
    let q : length (encode_all rs) / record_size ≡ length rs = omega arith in
    both-and _ _
    (right-length (length (encode_all rs)) (record { least = omega (arith, t.some); most = omega (arith, t.most); whole = omega arith }))
    (both-and _ _ (ap (λ (k : ℕ). all_obey k (encode_all rs)) q ∙ all-obey rs t.fit) (ap ordered (table-records rs t.fit) ∙ t.in_order_lem))

-- ---- a store and its table

-- s is the table rs in bytes
pub record Stored (s : List ℕ) (rs : List KeyRecord) : Type 0 where
  pub table : Table rs
  pub bytes-are : encode_all rs ≡ s

module _ (s : List ℕ) where
  pub sound-stored : Octets s → sound s ≡ true → Stored s (records s)
  sound-stored o e = let t = sound-table s o e in record { table = t.0; bytes-are = t.1 }

  module _ (rs : List KeyRecord) (t : Stored s rs) where
    pub stored-sound : sound s ≡ true
    stored-sound = ap (sound) (sym t.bytes-are) ∙ table-sound rs t.table

    pub stored-records : records s ≡ rs
    stored-records = ap (records) (sym t.bytes-are) ∙ table-records rs t.table.fit

    pub stored-octets : Octets s
    stored-octets = rw t.bytes-are at (encode-all-octets rs t.table.fit)

    pub stored-length : length s ≡ length rs * record_size
    stored-length = ap length (sym t.bytes-are) ∙ encode-all-length rs t.table.fit

-- stores of as many records have as many bytes
pub stored-lengths : (s t : List ℕ) (rs ts : List KeyRecord) → Stored s rs → Stored t ts → length rs ≡ length ts → length s ≡ length t
stored-lengths s t rs ts a b e = stored-length s rs a ∙ ap (λ (k : ℕ). k * record_size) e ∙ sym (stored-length t ts b)

-- ---- a record in the bytes of a store

up : (i : ℕ) → suc i * record_size ≡ record_size + i * record_size
up i = omega arith

pub past_one : (x : KeyRecord) (rs : List KeyRecord) (i : ℕ) → Fit x → drop (suc i * record_size) (encode x ++ encode_all rs) ≡ drop (i * record_size) (encode_all rs)
past_one x rs i f =
    ap (λ (k : ℕ). drop k (encode x ++ encode_all rs)) (up i)
    ∙ sym (drop-drop (i * record_size) record_size (encode x ++ encode_all rs))
    ∙ ap (drop (i * record_size)) (drop_at (encode x) (encode_all rs) record_size (encode-length x f))

pub encode-at : (rs : List KeyRecord) (i : ℕ) → AllFit rs → i < length rs → take record_size (drop (i * record_size) (encode_all rs)) ≡ encode (get_or rs i empty)
unfolding encode_all
encode-at [] i f h = absurd (omega arith)
encode-at (r ∷ rs) zero f h = take_at (encode r) (encode_all rs) record_size (encode-length r f.0)
encode-at (r ∷ rs) (suc i) f h = ap (take record_size) (past_one r rs i f.0) ∙ encode-at rs i f.1 (omega arith)

pub encode-set : (rs : List KeyRecord) (i : ℕ) (r : KeyRecord) → AllFit rs → i < length rs
    → encode_all (set rs i r) ≡ take (i * record_size) (encode_all rs) ++ (encode r ++ drop record_size (drop (i * record_size) (encode_all rs)))
unfolding encode_all
encode-set [] i r f h = absurd (omega arith)
encode-set (x ∷ rs) zero r f h = ap (λ (t : List ℕ). encode r ++ t) (sym (drop_at (encode x) (encode_all rs) record_size (encode-length x f.0)))
encode-set (x ∷ rs) (suc i) r f h =
    let n = encode-length x f.0 in
    let front : take (suc i * record_size) (encode x ++ encode_all rs) ≡ encode x ++ take (i * record_size) (encode_all rs) =
    ap (λ (k : ℕ). take k (encode x ++ encode_all rs)) (up i ∙ ap (λ (k : ℕ). k + i * record_size) (sym n)) ∙ take-append-add (encode x) (encode_all rs) (i * record_size)
    in
    ap (λ (t : List ℕ). encode x ++ t) (encode-set rs i r f.1 (omega arith))
    ∙ sym (append_assoc (encode x) (take (i * record_size) (encode_all rs)) (encode r ++ drop record_size (drop (i * record_size) (encode_all rs))))
    ∙ ap₂ (λ (a b : List ℕ). a ++ (encode r ++ drop record_size b)) (sym front) (sym (past_one x rs i f.0))

-- a store with one record changed is its bytes with one row changed
pub row-changed : (s : List ℕ) (rs : List KeyRecord) → Stored s rs → (i : ℕ) (x q : List ℕ) (end : ℕ) (new : KeyRecord) → i < length rs → end ≡ i * record_size + record_size
    → x ≡ put_mid (i * record_size) (end - i * record_size) s q → q ≡ encode new → x ≡ encode_all (set rs i new)
row-changed s rs st i x q end new h n a b =
    let k : end - i * record_size ≡ record_size = omega arith in
    a
    ∙ ap₂ (λ (y : List ℕ) (j : ℕ). take (i * record_size) s ++ (y ++ drop j (drop (i * record_size) s))) b k
    ∙ ap (λ (y : List ℕ). take (i * record_size) y ++ (encode new ++ drop record_size (drop (i * record_size) y))) (sym st.bytes-are)
    ∙ sym (encode-set rs i new st.table.fit h)

-- ---- one record changed

-- under the Key ID stands new now, and under every other what stood there
pub record Change (kid : ℕ) (new : KeyRecord) (rs rs' : List KeyRecord) : Type 0 where
  pub table : Table rs'
  pub at-kid : get kid rs' ≡ new
  pub elsewhere : (k : ℕ) → (k ≡ kid → ⊥) → get k rs' ≡ get k rs

take-fit : (n : ℕ) (rs : List KeyRecord) → AllFit rs → AllFit (take n rs)
take-fit zero rs a = tt
take-fit (suc n) [] a = tt
take-fit (suc n) (x ∷ xs) a = (a.0, take-fit n xs a.1)

snoc-fit : (rs : List KeyRecord) → AllFit rs → AllFit (rs ++ (empty ∷ []))
snoc-fit [] a = (tt, tt)
snoc-fit (x ∷ xs) a = (a.0, snoc-fit xs a.1)

put_fit : (kid : ℕ) (r : KeyRecord) (rs : List KeyRecord) → Fit r → AllFit rs → AllFit (put kid r rs)
unfolding put
put_fit kid r [] f a = tt
put_fit kid r (x ∷ xs) f a = by (two (holds kid x)) (put_fit kid r xs f a.1)
  where
    by : Two (holds kid x) → AllFit (put kid r xs) → AllFit (put kid r (x ∷ xs))
    by (yes' t) g = rw t (f, a.1)
    by (no' t) g = rw t (a.0, g)

insert-fit : (r : KeyRecord) (rs : List KeyRecord) → Fit r → AllFit rs → AllFit (insert r rs)
unfolding insert
insert-fit r [] f a = tt
insert-fit r (x ∷ xs) f a = by (two (in_order r x)) (insert-fit r xs f a.1)
  where
    by : Two (in_order r x) → AllFit (insert r xs) → AllFit (insert r (x ∷ xs))
    by (yes' t) g = rw t (f, take-fit (length xs) (x ∷ xs) a)
    by (no' t) g = rw t (a.0, g)

without-fit : (kid : ℕ) (rs : List KeyRecord) → AllFit rs → AllFit (without kid rs)
unfolding without
without-fit kid [] a = tt
without-fit kid (x ∷ xs) a = by (two (holds kid x)) (without-fit kid xs a.1)
  where
    by : Two (holds kid x) → AllFit (without kid xs) → AllFit (without kid (x ∷ xs))
    by (yes' t) g = rw t (snoc-fit xs a.1)
    by (no' t) g = rw t (a.0, g)

pub get_fit : (kid : ℕ) (rs : List KeyRecord) → AllFit rs → Fit (get kid rs)
unfolding get
get_fit kid [] a = tt
get_fit kid (x ∷ xs) a = by (two (holds kid x)) (get_fit kid xs a.1)
  where
    by : Two (holds kid x) → Fit (get kid xs) → Fit (get kid (x ∷ xs))
    by (yes' t) g = rw t a.0
    by (no' t) g = rw t g

-- as many records, in order
pub changed-table : (rs new : List KeyRecord) → Table rs → length new ≡ length rs → AllFit new → ordered new ≡ true → Table new
changed-table rs new t n f o = record { fit = f; in_order_lem = o; some = omega (arith, t.some); most = omega (arith, t.most) }

module _ (kid : ℕ) (rs : List KeyRecord) (t : Table rs) where
  pub put-change : (r : KeyRecord) → Fit r → holds kid r ≡ true → is_empty (get kid rs) ≡ false → Change kid r rs (put kid r rs)
  put-change r f h n = record {
    table = changed-table rs (put kid r rs) t (put-length kid r rs) (put_fit kid r rs f t.fit) (put-ordered kid r h rs ∙ t.in_order_lem);
    at-kid = put_same kid r rs h n;
    elsewhere = λ k d. put_other kid k r rs h d;
  }

  pub without-change : Change kid empty rs (without kid rs)
  without-change = record {
    table = changed-table rs (without kid rs) t (without-length kid rs) (without-fit kid rs t.fit) (without-ordered kid rs t.in_order_lem);
    at-kid = without-same kid rs t.in_order_lem;
    elsewhere = λ k d. without_other kid k rs d;
  }

  pub insert-change : (r : KeyRecord) → Fit r → holds kid r ≡ true → is_empty (get kid rs) ≡ true → full rs ≡ false → Change kid r rs (insert r rs)
  insert-change r f h n e =
      let m = empty-is (get kid rs) n in
      record {
        table = changed-table rs (insert r rs) t (insert-length r rs) (insert-fit r rs f t.fit) (insert-ordered kid r h rs m t.in_order_lem);
        at-kid = insert-same kid r h rs m t.in_order_lem e;
        elsewhere = λ k d. insert-other kid r h k rs d m t.in_order_lem e;
      }

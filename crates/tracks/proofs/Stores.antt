-- SPDX-License-Identifier: MIT
-- A sound track store is a table of records in bytes. Assumes nothing.
use mathlib.Core.Path.{◌≡◌, refl, sym, ◌∙◌, ap, ap₂}
use mathlib.Core.Bool.{Bool, true, false}
use mathlib.Core.List.{List, [], ◌∷◌, ◌++◌, append_assoc}
use Prim.Native.Nat.{ℕ, zero, suc, ◌+◌, ◌*◌, ◌/◌, ◌%◌, ◌-◌, ◌<◌, ◌≤◌}
use native.Mathlib.Omega.{arith}
use lib.Dec.{leb, eqb}
use lib.ListN.{length, get_or, set, take, drop, length-append, length-take, length-drop, take-append-drop, drop_of_length-le}
use lib.Seq.{take_at, drop_at, drop-drop, take-append-add}
use borrow.Rule.Slice.PartMut.{put_mid}
use borrow.Author.Tests.{leb-true, le-leb, eq-eqb, eqb-true}
use Rattle.octets.specs.Octets.{Octets, both}
use Rattle.octets.proofs.Laws.{octets-append, octets-take, octets-drop}
use Rattle.track_record.specs.Layout.{record_size, encode, decode, obeys}
use Rattle.track_record.specs.Record.{TrackId, TrackRecord, empty, is_empty, holds}
use Rattle.tracks.specs.Tracks.{max_records, length_right, encode_all, decode_all, all_obey, records, sound}
use Rattle.tracks.specs.Table.{get, replace, put, fill, full, apart}
use Rattle.answers.proofs.Basics.{Two, yes', no', two, both_true, both-and}
use Rattle.track_record.proofs.Codec.{Fit, encode-length, encode-octets, decode-encode, obeys-fits, fits-obeys}
use Rattle.tracks.proofs.Tables.{replace-length, put_same, put_other, put-apart, fill-same, fill-other, fill-apart}

abbrev pub AllFit : List TrackRecord → Type 0
AllFit [] = Unit {0}
AllFit (r ∷ rs) = Fit r × AllFit rs

-- the records of a sound store
pub record Table (rs : List TrackRecord) : Type 0 where
  pub fit : AllFit rs
  pub tracks-apart : apart rs ≡ true
  pub some : 1 ≤ length rs
  pub most : length rs ≤ max_records

pub record Right (n : ℕ) : Type 0 where
  pub least : record_size ≤ n
  pub most : n ≤ max_records * record_size
  pub whole : n % record_size ≡ 0

pub length-right : (n : ℕ) → length_right n ≡ true → Right n
unfolding length_right
length-right n e =
    let a = both_true (leb record_size n) (both (leb n (max_records * record_size)) (eqb (n % record_size) 0)) e in
    let b = both_true (leb n (max_records * record_size)) (eqb (n % record_size) 0) a.1 in
    record { least = leb-true record_size n a.0; most = leb-true n (max_records * record_size) b.0; whole = eqb-true (n % record_size) 0 b.1 }

pub right-length : (n : ℕ) → Right n → length_right n ≡ true
unfolding length_right
right-length n r =
    both-and _ _ (le-leb record_size n r.least) (both-and _ _ (le-leb n (max_records * record_size) r.most) (eq-eqb (n % record_size) 0 r.whole))

-- ---- written and read back

pub encode-all-length : (rs : List TrackRecord) → AllFit rs → length (encode_all rs) ≡ length rs * record_size
unfolding encode_all
encode-all-length [] f = refl
encode-all-length (r ∷ rs) f =
    let a = encode-length r f.0 in
    let b = encode-all-length rs f.1 in
    simp length-append (omega arith)

pub encode-all-octets : (rs : List TrackRecord) → AllFit rs → Octets (encode_all rs)
unfolding encode_all
encode-all-octets [] f = λ i. omega arith
encode-all-octets (r ∷ rs) f = octets-append (encode r) (encode_all rs) (encode-octets r f.0) (encode-all-octets rs f.1)

pub decode-encode-all : (rs : List TrackRecord) → AllFit rs → decode_all (length rs) (encode_all rs) ≡ rs
unfolding encode_all decode_all
decode-encode-all [] f = refl
decode-encode-all (r ∷ rs) f =
    let n = encode-length r f.0 in
    ap₂ (λ (x : TrackRecord) (xs : List TrackRecord). x ∷ xs)
    (ap (decode) (take_at (encode r) (encode_all rs) record_size n) ∙ decode-encode r f.0)
    (ap (decode_all (length rs)) (drop_at (encode r) (encode_all rs) record_size n) ∙ decode-encode-all rs f.1)

all-obey : (rs : List TrackRecord) → AllFit rs → all_obey (length rs) (encode_all rs) ≡ true
unfolding encode_all all_obey
all-obey [] f = refl
all-obey (r ∷ rs) f =
    let n = encode-length r f.0 in
    both-and _ _ (ap (obeys) (take_at (encode r) (encode_all rs) record_size n) ∙ fits-obeys r f.0)
    (ap (all_obey (length rs)) (drop_at (encode r) (encode_all rs) record_size n) ∙ all-obey rs f.1)

-- ---- read and written back

obey-all : (n : ℕ) (s : List ℕ) → Octets s → length s ≡ n * record_size → all_obey n s ≡ true
    → AllFit (decode_all n s) × (encode_all (decode_all n s) ≡ s) × (length (decode_all n s) ≡ n)
unfolding encode_all decode_all all_obey
obey-all zero s o e t = (tt, sym (drop_of_length-le s {i = 0} (omega arith)), refl)
obey-all (suc n) s o e t =
    let b = both_true (obeys (take record_size s)) (all_obey n (drop record_size s)) t in
    let one = obeys-fits (take record_size s) (octets-take record_size s o) (simp length-take (omega arith)) b.0 in
    let rest = obey-all n (drop record_size s) (octets-drop record_size s o) (simp length-drop (omega arith)) b.1 in
    ((one.0, rest.0), ap₂ (λ (x y : List ℕ). x ++ y) one.1 rest.1 ∙ take-append-drop record_size s, ap suc rest.2)

-- ---- the two sides

pub sound-table : (s : List ℕ) → Octets s → sound s ≡ true → Table (records s) × (encode_all (records s) ≡ s)
unfolding sound records
sound-table s o e =
    let n = length s / record_size in
    let a = both_true (length_right (length s)) (both (all_obey n s) (apart (decode_all n s))) e in
    let b = both_true (all_obey n s) (apart (decode_all n s)) a.1 in
    let r = length-right (length s) a.0 in
    let all = obey-all n s o (omega (arith, r.whole)) b.0 in
    let l = all.2 in
    (record { fit = all.0; tracks-apart = b.1; some = omega (arith, r.least); most = omega (arith, r.most) }, all.1)

pub table-records : (rs : List TrackRecord) → AllFit rs → records (encode_all rs) ≡ rs
unfolding records
table-records rs f =
    let n = encode-all-length rs f in
    let q : length (encode_all rs) / record_size ≡ length rs = omega arith in
    rw q (decode-encode-all rs f)

pub table-sound : (rs : List TrackRecord) → Table rs → sound (encode_all rs) ≡ true
unfolding sound
table-sound rs t =
    let n = encode-all-length rs t.fit in
    let q : length (encode_all rs) / record_size ≡ length rs = omega arith in
    both-and _ _
    (right-length (length (encode_all rs)) (record { least = omega (arith, t.some); most = omega (arith, t.most); whole = omega arith }))
    (both-and _ _ (ap (λ (k : ℕ). all_obey k (encode_all rs)) q ∙ all-obey rs t.fit) (ap apart (table-records rs t.fit) ∙ t.tracks-apart))

-- ---- a store and its table

-- s is the table rs in bytes
pub record Stored (s : List ℕ) (rs : List TrackRecord) : Type 0 where
  pub table : Table rs
  pub bytes-are : encode_all rs ≡ s

module _ (s : List ℕ) where
  pub sound-stored : Octets s → sound s ≡ true → Stored s (records s)
  sound-stored o e = let t = sound-table s o e in record { table = t.0; bytes-are = t.1 }

  module _ (rs : List TrackRecord) (t : Stored s rs) where
    pub stored-sound : sound s ≡ true
    stored-sound = ap (sound) (sym t.bytes-are) ∙ table-sound rs t.table

    pub stored-records : records s ≡ rs
    stored-records = ap (records) (sym t.bytes-are) ∙ table-records rs t.table.fit

    pub stored-octets : Octets s
    stored-octets = rw t.bytes-are at (encode-all-octets rs t.table.fit)

    pub stored-length : length s ≡ length rs * record_size
    stored-length = ap length (sym t.bytes-are) ∙ encode-all-length rs t.table.fit

-- stores of as many records have as many bytes
pub stored-lengths : (s t : List ℕ) (rs ts : List TrackRecord) → Stored s rs → Stored t ts → length rs ≡ length ts → length s ≡ length t
stored-lengths s t rs ts a b e = stored-length s rs a ∙ ap (λ (k : ℕ). k * record_size) e ∙ sym (stored-length t ts b)

-- ---- a record in the bytes of a store

up : (i : ℕ) → suc i * record_size ≡ record_size + i * record_size
up i = omega arith

past_one : (x : TrackRecord) (rs : List TrackRecord) (i : ℕ) → Fit x → drop (suc i * record_size) (encode x ++ encode_all rs) ≡ drop (i * record_size) (encode_all rs)
past_one x rs i f =
    ap (λ (k : ℕ). drop k (encode x ++ encode_all rs)) (up i)
    ∙ sym (drop-drop (i * record_size) record_size (encode x ++ encode_all rs))
    ∙ ap (drop (i * record_size)) (drop_at (encode x) (encode_all rs) record_size (encode-length x f))

pub encode-at : (rs : List TrackRecord) (i : ℕ) → AllFit rs → i < length rs → take record_size (drop (i * record_size) (encode_all rs)) ≡ encode (get_or rs i empty)
unfolding encode_all
encode-at [] i f h = absurd (omega arith)
encode-at (r ∷ rs) zero f h = take_at (encode r) (encode_all rs) record_size (encode-length r f.0)
encode-at (r ∷ rs) (suc i) f h = ap (take record_size) (past_one r rs i f.0) ∙ encode-at rs i f.1 (omega arith)

pub encode-set : (rs : List TrackRecord) (i : ℕ) (r : TrackRecord) → AllFit rs → i < length rs
    → encode_all (set rs i r) ≡ take (i * record_size) (encode_all rs) ++ (encode r ++ drop record_size (drop (i * record_size) (encode_all rs)))
unfolding encode_all
encode-set [] i r f h = absurd (omega arith)
encode-set (x ∷ rs) zero r f h = ap (λ (t : List ℕ). encode r ++ t) (sym (drop_at (encode x) (encode_all rs) record_size (encode-length x f.0)))
encode-set (x ∷ rs) (suc i) r f h =
    let n = encode-length x f.0 in
    let front : take (suc i * record_size) (encode x ++ encode_all rs) ≡ encode x ++ take (i * record_size) (encode_all rs) =
    ap (λ (k : ℕ). take k (encode x ++ encode_all rs)) (up i ∙ ap (λ (k : ℕ). k + i * record_size) (sym n)) ∙ take-append-add (encode x) (encode_all rs) (i * record_size)
    in
    ap (λ (t : List ℕ). encode x ++ t) (encode-set rs i r f.1 (omega arith))
    ∙ sym (append_assoc (encode x) (take (i * record_size) (encode_all rs)) (encode r ++ drop record_size (drop (i * record_size) (encode_all rs))))
    ∙ ap₂ (λ (a b : List ℕ). a ++ (encode r ++ drop record_size b)) (sym front) (sym (past_one x rs i f.0))

-- a store with one record changed is its bytes with one row changed
pub row-changed : (s : List ℕ) (rs : List TrackRecord) → Stored s rs → (i : ℕ) (x q : List ℕ) (end : ℕ) (new : TrackRecord) → i < length rs → end ≡ i * record_size + record_size
    → x ≡ put_mid (i * record_size) (end - i * record_size) s q → q ≡ encode new → x ≡ encode_all (set rs i new)
row-changed s rs st i x q end new h n a b =
    let k : end - i * record_size ≡ record_size = omega arith in
    a
    ∙ ap₂ (λ (y : List ℕ) (j : ℕ). take (i * record_size) s ++ (y ++ drop j (drop (i * record_size) s))) b k
    ∙ ap (λ (y : List ℕ). take (i * record_size) y ++ (encode new ++ drop record_size (drop (i * record_size) y))) (sym st.bytes-are)
    ∙ sym (encode-set rs i new st.table.fit h)

-- ---- one record changed

-- under the track stands new now, and under every other what stood there
pub record Change (id : TrackId) (new : TrackRecord) (rs rs' : List TrackRecord) : Type 0 where
  pub table : Table rs'
  pub at-id : get id rs' ≡ new
  pub elsewhere : (k : TrackId) → (k ≡ id → ⊥) → get k rs' ≡ get k rs

replace-fit : (test : TrackRecord → Bool) (r : TrackRecord) (rs : List TrackRecord) → Fit r → AllFit rs → AllFit (replace test r rs)
unfolding replace
replace-fit test r [] f a = tt
replace-fit test r (x ∷ xs) f a = by (two (test x)) (replace-fit test r xs f a.1)
  where
    by : Two (test x) → AllFit (replace test r xs) → AllFit (replace test r (x ∷ xs))
    by (yes' t) g = rw t (f, a.1)
    by (no' t) g = rw t (a.0, g)

pub get_fit : (id : TrackId) (rs : List TrackRecord) → AllFit rs → Fit (get id rs)
unfolding get
get_fit id [] a = tt
get_fit id (x ∷ xs) a = by (two (holds id x)) (get_fit id xs a.1)
  where
    by : Two (holds id x) → Fit (get id xs) → Fit (get id (x ∷ xs))
    by (yes' t) g = rw t a.0
    by (no' t) g = rw t g

replace-table : (test : TrackRecord → Bool) (r : TrackRecord) (rs : List TrackRecord) → Table rs → Fit r → apart (replace test r rs) ≡ true
    → Table (replace test r rs)
replace-table test r rs t f a =
    let n = replace-length test r rs in
    record { fit = replace-fit test r rs f t.fit; tracks-apart = a; some = omega (arith, t.some); most = omega (arith, t.most) }

module _ (id : TrackId) (rs : List TrackRecord) (t : Table rs) where
  pub put-change : (r : TrackRecord) → Fit r → holds id r ≡ true → is_empty (get id rs) ≡ false → Change id r rs (put id r rs)
  unfolding put
  put-change r f h n = record {
    table = replace-table (holds id) r rs t f (put-apart id r rs h t.tracks-apart);
    at-id = put_same id r rs h n;
    elsewhere = λ k d. put_other id k r rs h d;
  }

  pub fill-change : (r : TrackRecord) → Fit r → holds id r ≡ true → is_empty (get id rs) ≡ true → full rs ≡ false → Change id r rs (fill r rs)
  unfolding fill
  fill-change r f h n e = record {
    table = replace-table is_empty r rs t f (fill-apart id r rs h n t.tracks-apart);
    at-id = fill-same id r rs h n e;
    elsewhere = λ k d. fill-other id k r rs h d;
  }

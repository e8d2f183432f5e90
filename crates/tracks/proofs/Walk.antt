-- SPDX-License-Identifier: MIT
-- Walks over the records of a store, one turn each, over plain variables. Assumes nothing.
use Rattle.std.specs.Prelude.{Option, Some, None}
use mathlib.Core.Path.{◌≡◌, refl, sym, ◌∙◌, ap}
use mathlib.Core.Bool.{Bool, true, false, not, false≢true}
use Rattle.std.specs.Option.{is_some}
use mathlib.Core.List.{List, [], ◌∷◌}
use Prim.Native.Nat.{ℕ, zero, suc, ◌+◌, ◌*◌, ◌/◌, ◌%◌, ◌-◌, ◌<◌, ◌≤◌}
use native.Mathlib.Omega.{arith}
use lib.Dec.{eqb}
use lib.ListN.{length, get_or, take, drop, length-drop}
use lib.Seq.{drop-drop}
use borrow.Author.Count.{below_more}
use borrow.Author.Tests.{le-leb, lt-leb}
use Rattle.octets.specs.Octets.{both}
use Rattle.octets.proofs.Laws.{part-rest}
use Rattle.track_record.specs.Layout.{record_size, decode, obeys}
use Rattle.track_record.specs.Record.{TrackId, TrackRecord, empty, is_empty, holds}
use Rattle.track_record.specs.Inner.Rows.{id_of}
use Rattle.tracks.specs.Tracks.{length_right, decode_all, all_obey, records, sound, max_records}
use Rattle.tracks.specs.Table.{get, full, alone, apart}
use Rattle.tracks.specs.Inner.Places.{part_at, FoundIn, FreeIn}
use Rattle.answers.proofs.Basics.{told-false, told-true}
use Rattle.track_record.proofs.Records.{holds-some, holds-own, empty-is}
use Rattle.tracks.proofs.Stores.{length-right}
use Rattle.tracks.proofs.Tables.{get-here, get-there, alone-get}

-- ---- lengths

pub length-short : (n : ℕ) → n < record_size → false ≡ length_right n
unfolding length_right
length-short n h = rw (lt-leb record_size n h)

pub length-long : (n : ℕ) → record_size ≤ n → (max_records * record_size) < n → false ≡ length_right n
unfolding length_right
length-long n h k = rw (le-leb record_size n h, lt-leb n (max_records * record_size) k)

pub length_whole : (n : ℕ) → record_size ≤ n → n ≤ (max_records * record_size) → eqb (n % record_size) 0 ≡ length_right n
unfolding length_right
length_whole n h k = rw (le-leb record_size n h, le-leb n (max_records * record_size) k)

-- ---- records by number

pub decode-all-length : (n : ℕ) (s : List ℕ) → length (decode_all n s) ≡ n
unfolding decode_all
decode-all-length zero s = refl
decode-all-length (suc n) s = ap suc (decode-all-length n (drop record_size s))

pub decode-at : (n : ℕ) (s : List ℕ) (i : ℕ) → i < n → get_or (decode_all n s) i empty ≡ decode (take record_size (drop (i * record_size) s))
unfolding decode_all
decode-at zero s i h = absurd (omega arith)
decode-at (suc n) s zero h = refl
decode-at (suc n) s (suc i) h = decode-at n (drop record_size s) i (omega arith) ∙ ap (λ (x : List ℕ). decode (take record_size x)) (drop-drop (i * record_size) record_size s ∙ ap (λ (k : ℕ). drop k s) up)
  where
    up : record_size + i * record_size ≡ suc i * record_size
    up = omega arith

-- ---- from one record to the next

-- what is left of the records after the first i
abbrev left : List ℕ → ℕ → List TrackRecord
left s i = decode_all (length s / record_size - i) (drop (i * record_size) s)

abbrev left_obey : List ℕ → ℕ → Bool
left_obey s i = all_obey (length s / record_size - i) (drop (i * record_size) s)

abbrev pub Obeying : List ℕ → ℕ → Type 0
Obeying s i = all_obey (length s / record_size) s ≡ left_obey s i

abbrev pub Finding : TrackId → List ℕ → ℕ → Type 0
Finding id s i = get id (records s) ≡ get id (left s i)

abbrev pub Judging : List ℕ → ℕ → Type 0
Judging s i = apart (records s) ≡ apart (left s i)

module _ (s : List ℕ) (i : ℕ) (inside : i < length s / record_size) where
  turn : length s / record_size - i ≡ suc (length s / record_size - (i + 1))
  turn = omega arith

  rest-is : drop record_size (drop (i * record_size) s) ≡ drop ((i + 1) * record_size) s
  rest-is = let e : i * record_size + record_size ≡ (i + 1) * record_size = omega arith in drop-drop record_size (i * record_size) s ∙ ap (λ (k : ℕ). drop k s) e

  obey-turn : left_obey s i ≡ both (obeys (part_at s i)) (left_obey s (i + 1))
  unfolding all_obey
  obey-turn =
      ap (λ (k : ℕ). all_obey k (drop (i * record_size) s)) turn
      ∙ ap (λ (y : List ℕ). both (obeys (part_at s i)) (all_obey (length s / record_size - (i + 1)) y)) rest-is

  records-turn : left s i ≡ decode (part_at s i) ∷ left s (i + 1)
  unfolding decode_all
  records-turn =
      ap (λ (k : ℕ). decode_all k (drop (i * record_size) s)) turn
      ∙ ap (λ (y : List ℕ). decode (part_at s i) ∷ decode_all (length s / record_size - (i + 1)) y) rest-is

  record_is : get_or (records s) i empty ≡ decode (part_at s i)
  unfolding records
  record_is = decode-at (length s / record_size) s i inside

  within : i < length (records s)
  unfolding records
  within = let n = decode-all-length (length s / record_size) s in omega (arith, n, inside)

  -- judging the rows
  module _ (r : Bool) (e : r ≡ obeys (part_at s i)) (f : Obeying s i) where
    pub obey-stop : r ≡ false → false ≡ all_obey (length s / record_size) s
    obey-stop t = sym (f ∙ obey-turn ∙ ap (λ (b : Bool). both b (left_obey s (i + 1))) (sym e ∙ t))

    pub obey-go : r ≡ true → Obeying s (i + 1)
    obey-go t = f ∙ obey-turn ∙ ap (λ (b : Bool). both b (left_obey s (i + 1))) (sym e ∙ t)

  -- looking a track up
  module _ (id : TrackId) (r : Bool) (e : r ≡ holds id (decode (part_at s i))) (f : Finding id s i) where
    pub find-go : r ≡ false → Finding id s (i + 1)
    find-go t = f ∙ ap (get id) records-turn ∙ get-there id (decode (part_at s i)) (left s (i + 1)) (sym e ∙ t)

    pub find-here : r ≡ true → FoundIn (Some i) id (records s)
    find-here t =
        let h : holds id (decode (part_at s i)) ≡ true = sym e ∙ t in
        (within, f ∙ ap (get id) records-turn ∙ get-here id (decode (part_at s i)) (left s (i + 1)) h ∙ sym record_is, ap (holds id) record_is ∙ h)

  -- judging that tracks are apart
  rest-records : records (take (length s - (i + 1) * record_size) (drop ((i + 1) * record_size) s)) ≡ left s (i + 1)
  unfolding records
  rest-records =
      let at = (i + 1) * record_size in
      let e : (length s - at) / record_size ≡ length s / record_size - (i + 1) = omega arith in
      ap (λ (x : List ℕ). decode_all (length x / record_size) x) (part-rest at s)
      ∙ ap (λ (k : ℕ). decode_all (k / record_size) (drop at s)) (length-drop at s)
      ∙ ap (λ (k : ℕ). decode_all k (drop at s)) e

  module _ (r : Bool) (e : r ≡ alone (decode (part_at s i)) (records (take (length s - (i + 1) * record_size) (drop ((i + 1) * record_size) s)))) (f : Judging s i) where
    told : apart (records s) ≡ both r (apart (left s (i + 1)))
    unfolding apart
    told = f ∙ ap apart records-turn ∙ ap (λ (b : Bool). both b (apart (left s (i + 1)))) (ap (alone (decode (part_at s i))) (sym rest-records) ∙ sym e)

    pub apart-stop : r ≡ false → false ≡ apart (records s)
    apart-stop t = sym (told ∙ rw t)

    pub apart-go : r ≡ true → Judging s (i + 1)
    apart-go t = told ∙ rw t

-- ---- the first record, and past the last one

pub obey-start : (s : List ℕ) → Obeying s 0
obey-start s = let e : length s / record_size ≡ length s / record_size - 0 = omega arith in ap (λ (k : ℕ). all_obey k s) e

pub records-start : (s : List ℕ) → records s ≡ left s 0
unfolding records
records-start s = let e : length s / record_size ≡ length s / record_size - 0 = omega arith in ap (λ (k : ℕ). decode_all k s) e

module _ (s : List ℕ) (i : ℕ) (past : length s / record_size ≤ i) where
  none_left : length s / record_size - i ≡ 0
  none_left = omega arith

  pub obey-end : Obeying s i → true ≡ all_obey (length s / record_size) s
  unfolding all_obey
  obey-end f = sym (f ∙ ap (λ (k : ℕ). all_obey k (drop (i * record_size) s)) none_left)

  pub find-end : (id : TrackId) → Finding id s i → get id (records s) ≡ empty
  unfolding decode_all get
  find-end id f = f ∙ ap (λ (k : ℕ). get id (decode_all k (drop (i * record_size) s))) none_left

  pub apart-end : Judging s i → true ≡ apart (records s)
  unfolding decode_all apart
  apart-end f = sym (f ∙ ap (λ (k : ℕ). apart (decode_all k (drop (i * record_size) s))) none_left)

-- ---- one record's track among the others

pub alone-unheld : (x : TrackRecord) (rs : List TrackRecord) (r : Bool) → r ≡ is_empty x → r ≡ true → true ≡ alone x rs
unfolding alone
alone-unheld x rs r e t = sym (ap (λ (y : TrackRecord). alone y rs) (empty-is x (sym e ∙ t)))

module _ (x : TrackRecord) (rs : List TrackRecord) (v : TrackId) (r : Bool) (e : r ≡ is_empty x) (t : r ≡ false) (q : v ≡ id_of x) where
  alone-is : alone x rs ≡ is_empty (get v rs)
  alone-is = alone-get v x rs (ap (λ (k : TrackId). holds k x) q ∙ holds-own x (sym e ∙ t))

  pub alone-nowhere : (p : Option ℕ) → FoundIn p v rs → p ≡ None → true ≡ alone x rs
  alone-nowhere p f w = let g : get v rs ≡ empty = rw w at f in sym (alone-is ∙ ap is_empty g)

  pub alone-found : (p : Option ℕ) (i : ℕ) → FoundIn p v rs → p ≡ Some i → false ≡ alone x rs
  alone-found p i f w =
      let g : FoundIn (Some i) v rs = rw w at f in
      sym (alone-is ∙ ap is_empty g.1 ∙ holds-some v (get_or rs i empty) g.2)

  pub alone-told : (p : Option ℕ) (b : Bool) → FoundIn p v rs → is_some p ≡ not b → b ≡ alone x rs
  alone-told None true f h = alone-nowhere None f refl
  alone-told None false f h = absurd (false≢true h)
  alone-told (Some i) true f h = absurd (false≢true (sym h))
  alone-told (Some i) false f h = alone-found (Some i) i f refl

-- ---- the whole store

pub sound-length : (s : List ℕ) (r : Bool) → r ≡ length_right (length s) → not r ≡ true → false ≡ sound s
unfolding sound
sound-length s r e t = sym (ap (λ (b : Bool). both b (both (all_obey (length s / record_size) s) (apart (records s)))) (told-false r _ e t))

module _ (s : List ℕ) (r : Bool) (e : r ≡ length_right (length s)) (t : not r ≡ false) where
  pub sound-whole : length s % record_size ≡ 0
  sound-whole = (length-right (length s) (told-true r _ e t)).whole

  rest_of : sound s ≡ both (all_obey (length s / record_size) s) (apart (records s))
  unfolding sound
  rest_of = ap (λ (b : Bool). both b (both (all_obey (length s / record_size) s) (apart (records s)))) (told-true r _ e t)

  pub sound-rows : (q : Bool) → q ≡ all_obey (length s / record_size) s → not q ≡ true → false ≡ sound s
  sound-rows q f u = sym (rest_of ∙ ap (λ (b : Bool). both b (apart (records s))) (told-false q _ f u))

  pub sound-tracks : (q b : Bool) → q ≡ all_obey (length s / record_size) s → not q ≡ false → b ≡ apart (decode_all (length s / record_size) s) → b ≡ sound s
  unfolding records
  sound-tracks q b f u g = g ∙ sym (rest_of ∙ ap (λ (x : Bool). both x (apart (records s))) (told-true q _ f u))

-- ---- room for one more

-- none of the first i records is empty
abbrev pub NoneFree : List ℕ → ℕ → Type 0
NoneFree s i = (j : ℕ) → j < i → is_empty (get_or (records s) j empty) ≡ false

module _ (s : List ℕ) (i : ℕ) (inside : i < length s / record_size) (r : Bool) (e : r ≡ is_empty (decode (part_at s i))) (n : NoneFree s i) where
  pub free-here : r ≡ true → FreeIn (Some i) (records s)
  free-here t = (within s i inside, ap is_empty (record_is s i inside) ∙ sym e ∙ t, n)

  pub free-go : r ≡ false → NoneFree s (i + 1)
  free-go t = below_more (λ (j : ℕ). is_empty (get_or (records s) j empty) ≡ false) i n (ap is_empty (record_is s i inside) ∙ sym e ∙ t)

all-full : (rs : List TrackRecord) → ((j : ℕ) → j < length rs → is_empty (get_or rs j empty) ≡ false) → full rs ≡ true
unfolding full
all-full [] n = refl
all-full (x ∷ xs) n = rw (n 0 (omega arith)) (all-full xs (λ j h. n (suc j) (omega arith)))

pub free-end : (s : List ℕ) (i : ℕ) → length s / record_size ≤ i → NoneFree s i → full (records s) ≡ true
unfolding records
free-end s i h n = let l = decode-all-length (length s / record_size) s in all-full (decode_all (length s / record_size) s) (λ j k. n j (omega arith))

-- SPDX-License-Identifier: MIT
-- Walks over the records of a store, one turn each, over plain variables. Assumes nothing.
use mathlib.Core.Path.{◌≡◌, refl, sym, ◌∙◌, ap, ap₂}
use mathlib.Core.Bool.{Bool, true, false, not}
use mathlib.Core.List.{List, [], ◌∷◌, ◌++◌}
use Prim.Native.Nat.{ℕ, zero, suc, ◌+◌, ◌*◌, ◌/◌, ◌%◌, ◌-◌, ◌<◌, ◌≤◌}
use native.Mathlib.Omega.{arith}
use lib.Dec.{ltb, eqb}
use lib.ListN.{length, get_or, take, drop, length-take, length-drop, length-append}
use lib.Seq.{drop-drop, take_at, drop_at}
use borrow.Author.Tests.{le-leb, lt-leb, ltb-true, ltb-false, eq-eqb, ne_eqb}
use Rattle.octets.specs.Octets.{pick, both}
use Rattle.key_record.specs.Layout.{record_size, decode, obeys}
use Rattle.key_record.specs.Record.{KeyRecord, empty, in_order}
use Rattle.store.specs.Store.{length_right, decode_all, all_obey, records, sound, max_records}
use Rattle.store.specs.Table.{ordered_from, ordered}
use Rattle.store.specs.Inner.Places.{row_sound, rows_sound}
use Rattle.answers.proofs.Basics.{Two, yes', no', two, told-false, told-true}
use Rattle.store.proofs.Stores.{length-right}

-- ---- lengths

pub length-short : (n : ℕ) → n < record_size → false ≡ length_right n
unfolding length_right
length-short n h = rw (lt-leb record_size n h)

pub length-long : (n : ℕ) → record_size ≤ n → (max_records * record_size) < n → false ≡ length_right n
unfolding length_right
length-long n h k = rw (le-leb record_size n h, lt-leb n (max_records * record_size) k)

pub length_whole : (n : ℕ) → record_size ≤ n → n ≤ (max_records * record_size) → eqb (n % record_size) 0 ≡ length_right n
unfolding length_right
length_whole n h k = rw (le-leb record_size n h, le-leb n (max_records * record_size) k)

-- ---- records by number

pub decode-all-length : (n : ℕ) (s : List ℕ) → length (decode_all n s) ≡ n
unfolding decode_all
decode-all-length zero s = refl
decode-all-length (suc n) s = ap suc (decode-all-length n (drop record_size s))

pub decode-at : (n : ℕ) (s : List ℕ) (i : ℕ) → i < n → get_or (decode_all n s) i empty ≡ decode (take record_size (drop (i * record_size) s))
unfolding decode_all
decode-at zero s i h = absurd (omega arith)
decode-at (suc n) s zero h = refl
decode-at (suc n) s (suc i) h = decode-at n (drop record_size s) i (omega arith) ∙ ap (λ (x : List ℕ). decode (take record_size x)) (drop-drop (i * record_size) record_size s ∙ ap (λ (k : ℕ). drop k s) up)
  where
    up : record_size + i * record_size ≡ suc i * record_size
    up = omega arith

-- ---- one pass

both-pairs : (a b c d : Bool) → both (both a b) (both c d) ≡ both (both a c) (both b d)
both-pairs true true c d = refl
both-pairs true false true d = refl
both-pairs true false false d = refl
both-pairs false b c d = refl

-- behind a row, the pass finds what the definition says of all rows and of all records
pass-behind : (n : ℕ) (before s : List ℕ) → length before ≡ record_size → length s ≡ n * record_size
    → rows_sound n before s ≡ both (all_obey n s) (ordered_from (decode before) (decode_all n s))
unfolding rows_sound row_sound all_obey decode_all ordered_from
pass-behind zero before s b e = refl
pass-behind (suc n) before s b e =
    let some : eqb (length before) 0 ≡ false = ne_eqb (length before) 0 (λ z. omega arith) in
    let one : length (take record_size s) ≡ record_size = simp length-take (omega arith) in
    let rest : length (drop record_size s) ≡ n * record_size = simp length-drop (omega arith) in
    ap₂ (λ (t u : Bool). both (both (obeys (take record_size s)) (pick t true (in_order (decode before) (decode (take record_size s))))) u) some (pass-behind n (take record_size s) (drop record_size s) one rest)
    ∙ both-pairs (obeys (take record_size s)) (in_order (decode before) (decode (take record_size s))) (all_obey n (drop record_size s)) (ordered_from (decode (take record_size s)) (decode_all n (drop record_size s)))

pub pass : (n : ℕ) (s : List ℕ) → length s ≡ n * record_size → rows_sound n [] s ≡ both (all_obey n s) (ordered (decode_all n s))
unfolding rows_sound row_sound all_obey decode_all ordered
pass zero s e = refl
pass (suc n) s e =
    let one : length (take record_size s) ≡ record_size = simp length-take (omega arith) in
    let rest : length (drop record_size s) ≡ n * record_size = simp length-drop (omega arith) in
    ap (both (both (obeys (take record_size s)) true)) (pass-behind n (take record_size s) (drop record_size s) one rest)
    ∙ both-pairs (obeys (take record_size s)) true (all_obey n (drop record_size s)) (ordered_from (decode (take record_size s)) (decode_all n (drop record_size s)))

-- one row of it
pub row-fails : (before l : List ℕ) (r : Bool) → r ≡ obeys l → not r ≡ true → false ≡ row_sound before l
unfolding row_sound
row-fails before l r e t = sym (ap (λ (b : Bool). both b (pick (eqb (length before) 0) true (in_order (decode before) (decode l)))) (told-false r _ e t))

module _ (before l : List ℕ) (r : Bool) (e : r ≡ obeys l) (t : not r ≡ false) where
  row-rest : row_sound before l ≡ pick (eqb (length before) 0) true (in_order (decode before) (decode l))
  unfolding row_sound
  row-rest = ap (λ (b : Bool). both b (pick (eqb (length before) 0) true (in_order (decode before) (decode l)))) (told-true r _ e t)

  pub row_first : length before ≡ 0 → true ≡ row_sound before l
  row_first z = sym (row-rest ∙ ap (λ (b : Bool). pick b true (in_order (decode before) (decode l))) (eq-eqb (length before) 0 z))

  pub row-behind : (b : Bool) → (length before ≡ 0 → ⊥) → b ≡ in_order (decode before) (decode l) → b ≡ row_sound before l
  row-behind b z q = q ∙ sym (row-rest ∙ ap (λ (x : Bool). pick x true (in_order (decode before) (decode l))) (ne_eqb (length before) 0 z))

-- one turn of it: behind a row before stand the rows of rest, of which row is the first
module _ (before rest row next : List ℕ) (size : ℕ) (is-size : size ≡ record_size) (whole : length rest % record_size ≡ 0) (is : rest ≡ row ++ next) (len : length row ≡ size) where
  sizes : length rest ≡ record_size + length next
  sizes = ap length is ∙ length-append row next ∙ ap (λ (k : ℕ). k + length next) (len ∙ is-size)

  pub next-whole : length next % record_size ≡ 0
  next-whole = let e = sizes in omega arith

  turn : length rest / record_size ≡ suc (length next / record_size)
  turn = let e = sizes in omega arith

  first-is : take record_size rest ≡ row
  first-is = ap (take record_size) is ∙ take_at row next record_size (len ∙ is-size)

  next-is : drop record_size rest ≡ next
  next-is = ap (drop record_size) is ∙ drop_at row next record_size (len ∙ is-size)

  pass-turn : rows_sound (length rest / record_size) before rest ≡ both (row_sound before row) (rows_sound (length next / record_size) row next)
  unfolding rows_sound
  pass-turn =
      ap (λ (k : ℕ). rows_sound k before rest) turn
      ∙ ap₂ (λ (x y : List ℕ). both (row_sound before x) (rows_sound (length next / record_size) x y)) first-is next-is

  module _ (r : Bool) (e : r ≡ row_sound before row) where
    pub pass-stop : r ≡ false → rows_sound (length rest / record_size) before rest ≡ false
    pass-stop t = pass-turn ∙ ap (λ (b : Bool). both b (rows_sound (length next / record_size) row next)) (sym e ∙ t)

    pub pass-go : r ≡ true → rows_sound (length rest / record_size) before rest ≡ rows_sound (length next / record_size) row next
    pass-go t = pass-turn ∙ ap (λ (b : Bool). both b (rows_sound (length next / record_size) row next)) (sym e ∙ t)

pub pass-end : (before rest : List ℕ) (size : ℕ) → size ≡ record_size → length rest < size → rows_sound (length rest / record_size) before rest ≡ true
unfolding rows_sound
pass-end before rest size z h = let none : length rest / record_size ≡ 0 = omega arith in ap (λ (k : ℕ). rows_sound k before rest) none

-- ---- the whole store

pub sound-length : (s : List ℕ) (r : Bool) → r ≡ length_right (length s) → not r ≡ true → false ≡ sound s
unfolding sound
sound-length s r e t = sym (ap (λ (b : Bool). both b (both (all_obey (length s / record_size) s) (ordered (records s)))) (told-false r _ e t))

module _ (s : List ℕ) (r : Bool) (e : r ≡ length_right (length s)) (t : not r ≡ false) where
  pub sound-whole : length s % record_size ≡ 0
  sound-whole = (length-right (length s) (told-true r _ e t)).whole

  pub sound-rows : (b : Bool) → b ≡ rows_sound (length s / record_size) [] s → b ≡ sound s
  unfolding sound records
  sound-rows b q =
      let w = sound-whole in
      let n : length s ≡ length s / record_size * record_size = omega arith in
      q
      ∙ pass (length s / record_size) s n
      ∙ sym (ap (λ (x : Bool). both x (both (all_obey (length s / record_size) s) (ordered (records s)))) (told-true r _ e t))

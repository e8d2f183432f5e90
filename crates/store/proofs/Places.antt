-- SPDX-License-Identifier: MIT
-- Record i of a sound store: its bytes, and the store once it has changed. Assumes nothing.
use Rattle.std.specs.Prelude.{Option, Some, None}
use mathlib.Core.Path.{◌≡◌, refl, sym, ◌∙◌, ap}
use mathlib.Core.Bool.{Bool, true, false, not, false≢true}
use mathlib.Core.List.{List, [], ◌∷◌, ◌++◌}
use Prim.Native.Nat.{ℕ, zero, suc, ◌+◌, ◌*◌, ◌/◌, ◌%◌, ◌-◌, ◌<◌, ◌≤◌}
use native.Mathlib.Omega.{arith}
use lib.ListN.{length, get_or, set, take, drop, length-take, length-drop}
use lib.Seq.{drop-drop}
use borrow.Rule.Slice.PartMut.{put_mid}
use Rattle.octets.specs.Octets.{Octets, both}
use Rattle.answers.proofs.Basics.{Two, yes', no', two, both_true, told-true}
use Rattle.key_record.specs.Layout.{record_size, encode, decode, obeys}
use Rattle.key_record.proofs.Codec.{encode-length}
use lib.Dec.{ltb}
use borrow.Author.Tests.{ltb-true, ltb-false, eq-eqb}
use Rattle.key_record.specs.Record.{KeyRecord, empty, holds}
use Rattle.store.specs.Store.{length_right, encode_all, decode_all, all_obey, records, sound}
use Rattle.store.specs.Table.{insert, ordered, apart}
use Rattle.store.specs.Inner.Places.{Whole, Within, RowOf, rank, Insertable, closed, FoundIn}
use Rattle.suites.specs.declared.sizes.Suite.{Suite}
use Rattle.key_record.specs.Inner.Rows.{fresh}
use Rattle.key_record.specs.declared.Role.{Role}
use Rattle.key_record.specs.declared.Role.TheVariants.{Sending, Receiving}
use Rattle.store.proofs.Stores.{length-right, Stored, sound-stored, stored-length, encode-at, row-changed}
use Rattle.store.proofs.Tables.{holds-empty, get_at}
use Rattle.store.proofs.Order.{ordered-apart, rank-missing, rank_room, insert-at}
use Rattle.store.proofs.Moves.{inserted, taken_out}
use Rattle.store.proofs.Walk.{decode-all-length, decode-at}

-- ---- a store that was tested

module _ (s : List ℕ) (o : Octets s) (r : Bool) (e : r ≡ sound s) (t : not r ≡ false) where
  pub tested-sound : sound s ≡ true
  tested-sound = told-true r _ e t

  pub tested-whole : Whole s
  tested-whole = let n = stored-length s (records s) (sound-stored s o tested-sound) in omega arith

-- ---- the records of a sound store

pub records-count : (s : List ℕ) → length (records s) ≡ length s / record_size
unfolding records
records-count s = decode-all-length (length s / record_size) s

module _ (s : List ℕ) (e : sound s ≡ true) where
  parts : (length_right (length s) ≡ true) × (both (all_obey (length s / record_size) s) (ordered (records s)) ≡ true)
  unfolding sound
  parts = both_true (length_right (length s)) (both (all_obey (length s / record_size) s) (ordered (records s))) e

  rows-obey : all_obey (length s / record_size) s ≡ true
  rows-obey = (both_true (all_obey (length s / record_size) s) (ordered (records s)) parts.1).0

  pub sound-ordered : ordered (records s) ≡ true
  sound-ordered = (both_true (all_obey (length s / record_size) s) (ordered (records s)) parts.1).1

  -- no two non-empty records share a Key ID
  pub sound-apart : apart (records s) ≡ true
  sound-apart = ordered-apart (records s) sound-ordered

  pub sound-some : 1 ≤ length (records s)
  sound-some = omega (arith, (length-right (length s) parts.0).least, records-count s)

-- ---- record i

obey-at : (n : ℕ) (s : List ℕ) (i : ℕ) → i < n → all_obey n s ≡ true → obeys (take record_size (drop (i * record_size) s)) ≡ true
unfolding all_obey
obey-at zero s i h e = absurd (omega arith)
obey-at (suc n) s zero h e = (both_true (obeys (take record_size s)) (all_obey n (drop record_size s)) e).0
obey-at (suc n) s (suc i) h e =
    let up : suc i * record_size ≡ record_size + i * record_size = omega arith in
    ap (λ (k : ℕ). obeys (take record_size (drop k s))) up
    ∙ ap (λ (x : List ℕ). obeys (take record_size x)) (sym (drop-drop (i * record_size) record_size s))
    ∙ obey-at n (drop record_size s) i (omega arith) (both_true (obeys (take record_size s)) (all_obey n (drop record_size s)) e).1

module _ (s : List ℕ) (i : ℕ) (w : Within s i) where
  below : i < length s / record_size
  below = omega (arith, w.1, records-count s)

  pub place_inside : i * record_size + record_size ≤ length s
  place_inside = omega (arith, below)

  module _ (end : ℕ) (n : end ≡ i * record_size + record_size) where
    one-record : end - i * record_size ≡ record_size
    one-record = omega arith

    pub place-row : RowOf s i (take (end - i * record_size) (drop (i * record_size) s))
    unfolding records
    place-row =
        let inside = place_inside in (
          (simp (length-take, length-drop) (omega arith), ap (λ (j : ℕ). obeys (take j (drop (i * record_size) s))) one-record ∙ obey-at (length s / record_size) s i below (rows-obey s w.0)),
          ap (λ (j : ℕ). decode (take j (drop (i * record_size) s))) one-record ∙ sym (decode-at (length s / record_size) s i below),
        )

    module _ (o : Octets s) where
      in-store : Stored s (records s)
      in-store = sound-stored s o w.0

      pub place-bytes : take (end - i * record_size) (drop (i * record_size) s) ≡ encode (get_or (records s) i empty)
      place-bytes =
          ap (λ (j : ℕ). take j (drop (i * record_size) s)) one-record
          ∙ ap (λ (x : List ℕ). take record_size (drop (i * record_size) x)) (sym in-store.bytes-are)
          ∙ encode-at (records s) i in-store.table.fit w.1

      pub place-changed : (x q : List ℕ) (new : KeyRecord) → x ≡ put_mid (i * record_size) (end - i * record_size) s q → q ≡ encode new → x ≡ encode_all (set (records s) i new)
      place-changed x q new a b = row-changed s (records s) in-store i x q end new w.1 n a b

-- ---- record i, once it is found

pub found_within : (s : List ℕ) (kid i : ℕ) (p : Option ℕ) → sound s ≡ true → FoundIn p kid (records s) → p ≡ Some i → Within s i
found_within s kid i p e f w = let g : FoundIn (Some i) kid (records s) = rw w at f in (e, g.0)

-- ---- a place, which may be any number

-- there is no record past the last one
past-last : (rs : List KeyRecord) (i : ℕ) → length rs ≤ i → get_or rs i empty ≡ empty
past-last [] i h = refl
past-last (x ∷ xs) zero h = absurd (omega arith)
past-last (x ∷ xs) (suc i) h = past-last xs i (omega arith)

module _ (s : List ℕ) (kid place : ℕ) where
  pub place-within : sound s ≡ true → place < length s / record_size → Within s place
  place-within e h = (e, omega (arith, records-count s))

  pub place-past : length s / record_size ≤ place → false ≡ holds kid (get_or (records s) place empty)
  place-past h = sym (ap (holds kid) (past-last (records s) place (omega (arith, records-count s))) ∙ holds-empty kid)

  -- a record that stands there is the one that is found
  pub place_found : (b : Bool) → sound s ≡ true → b ≡ holds kid (get_or (records s) place empty) → b ≡ true → FoundIn (Some place) kid (records s)
  place_found b e q t =
      let h : holds kid (get_or (records s) place empty) ≡ true = sym q ∙ t in
      (inside h, get_at kid (records s) place (sound-apart s e) h, h)
    where
      inside : holds kid (get_or (records s) place empty) ≡ true → place < length (records s)
      inside h = by (two (ltb place (length (records s))))
        where
          by : Two (ltb place (length (records s))) → place < length (records s)
          by (yes' t) = ltb-true place (length (records s)) t
          by (no' t) = absurd (false≢true (sym (holds-empty kid) ∙ ap (holds kid) (sym (past-last (records s) place (ltb-false place (length (records s)) t))) ∙ h))

  -- and where none stands at the place of a Key ID, there is none
  pub place-nowhere : (b : Bool) → sound s ≡ true → place ≡ rank kid (records s) → b ≡ holds kid (get_or (records s) place empty) → b ≡ false → FoundIn None kid (records s)
  place-nowhere b e p q t = rank-missing kid (records s) (sound-ordered s e) (ap (λ (k : ℕ). holds kid (get_or (records s) k empty)) (sym p) ∙ sym q ∙ t)

-- the place of a Key ID that is inserted
pub insert-within : (s : List ℕ) (i kid : ℕ) → Insertable s i kid → Within s i
insert-within s i kid h = (h.0, omega (arith, h.1, rank_room kid (records s) (sound-ordered s h.0) h.3))

-- the bytes of an empty record
pub empty-length : (l : List ℕ) → l ≡ encode empty → length l ≡ record_size
empty-length l e = ap length e ∙ encode-length empty tt

pub fresh_holds : (role : Role) (suite : Suite) (kid : ℕ) (base : List ℕ) → holds kid (fresh role suite kid base) ≡ true
unfolding holds
fresh_holds Sending suite kid base = eq-eqb kid kid refl
fresh_holds Receiving suite kid base = eq-eqb kid kid refl

-- and the store once it is inserted
pub insert-bytes : (s : List ℕ) (i kid : ℕ) → Insertable s i kid → Octets s → (r : KeyRecord) (q : List ℕ) → holds kid r ≡ true → q ≡ encode r
    → take (i * record_size) s ++ (q ++ take (length s - i * record_size - record_size) (drop (i * record_size) s)) ≡ encode_all (insert r (records s))
insert-bytes s i kid h o r q k e =
    let w = insert-within s i kid h in
    ap (λ (x : List ℕ). take (i * record_size) s ++ (x ++ take (length s - i * record_size - record_size) (drop (i * record_size) s))) e
    ∙ sym (inserted s (records s) (sound-stored s o h.0) i r w.1)
    ∙ ap encode_all (ap (λ (j : ℕ). take j (records s) ++ (r ∷ take (length (records s) - suc j) (drop j (records s)))) h.1
    ∙ sym (insert-at kid r (records s) k (omega (arith, w.1, h.1)) (ap (λ (j : ℕ). holds kid (get_or (records s) j empty)) (sym h.1) ∙ h.2)))

-- the store once record i is taken out
pub close-bytes : (s : List ℕ) (i : ℕ) → Within s i → Octets s → (q : List ℕ) → q ≡ encode empty
    → (take (i * record_size) s ++ drop record_size (drop (i * record_size) s)) ++ (q ++ []) ≡ encode_all (closed i (records s))
close-bytes s i w o q e =
    ap (λ (x : List ℕ). (take (i * record_size) s ++ drop record_size (drop (i * record_size) s)) ++ (x ++ [])) e
    ∙ sym (taken_out s (records s) (sound-stored s o w.0) i w.1)

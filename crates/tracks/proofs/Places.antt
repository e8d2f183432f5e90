-- SPDX-License-Identifier: MIT
-- Record i of a sound store: its bytes, and the store once it has changed. Assumes nothing.
use Rattle.std.specs.Prelude.{Option, Some}
use mathlib.Core.Path.{◌≡◌, sym, ◌∙◌, ap}
use mathlib.Core.Bool.{Bool, true, false, not}
use mathlib.Core.List.{List}
use Prim.Native.Nat.{ℕ, zero, suc, ◌+◌, ◌*◌, ◌/◌, ◌-◌, ◌<◌, ◌≤◌}
use native.Mathlib.Omega.{arith}
use lib.ListN.{length, get_or, set, take, drop, length-take, length-drop}
use lib.Seq.{drop-drop}
use borrow.Rule.Slice.PartMut.{put_mid}
use Rattle.octets.specs.Octets.{Octets, both}
use Rattle.answers.proofs.Basics.{both_true, told-true}
use Rattle.track_record.specs.Layout.{record_size, encode, decode, obeys}
use Rattle.track_record.specs.Record.{TrackId, TrackRecord, empty}
use Rattle.tracks.specs.Tracks.{length_right, encode_all, all_obey, records, sound}
use Rattle.tracks.specs.Table.{apart}
use Rattle.tracks.specs.Inner.Places.{Whole, Within, RowOf, FoundIn, FreeIn}
use Rattle.tracks.proofs.Stores.{Stored, sound-stored, stored-length, encode-at, row-changed}
use Rattle.tracks.proofs.Walk.{decode-all-length, decode-at}

-- ---- a store that was tested

module _ (s : List ℕ) (o : Octets s) (r : Bool) (e : r ≡ sound s) (t : not r ≡ false) where
  pub tested-sound : sound s ≡ true
  tested-sound = told-true r _ e t

  pub tested-whole : Whole s
  tested-whole = let n = stored-length s (records s) (sound-stored s o tested-sound) in omega arith

-- ---- record i

obey-at : (n : ℕ) (s : List ℕ) (i : ℕ) → i < n → all_obey n s ≡ true → obeys (take record_size (drop (i * record_size) s)) ≡ true
unfolding all_obey
obey-at zero s i h e = absurd (omega arith)
obey-at (suc n) s zero h e = (both_true (obeys (take record_size s)) (all_obey n (drop record_size s)) e).0
obey-at (suc n) s (suc i) h e =
    let up : suc i * record_size ≡ record_size + i * record_size = omega arith in
    ap (λ (k : ℕ). obeys (take record_size (drop k s))) up
    ∙ ap (λ (x : List ℕ). obeys (take record_size x)) (sym (drop-drop (i * record_size) record_size s))
    ∙ obey-at n (drop record_size s) i (omega arith) (both_true (obeys (take record_size s)) (all_obey n (drop record_size s)) e).1

module _ (s : List ℕ) (i : ℕ) (w : Within s i) where
  parts : (length_right (length s) ≡ true) × (both (all_obey (length s / record_size) s) (apart (records s)) ≡ true)
  unfolding sound
  parts = both_true (length_right (length s)) (both (all_obey (length s / record_size) s) (apart (records s))) w.0

  below : i < length s / record_size
  unfolding records
  below = omega (arith, w.1, decode-all-length (length s / record_size) s)

  pub place_inside : i * record_size + record_size ≤ length s
  place_inside = omega (arith, below)

  module _ (end : ℕ) (n : end ≡ i * record_size + record_size) where
    one-record : end - i * record_size ≡ record_size
    one-record = omega arith

    pub place-row : RowOf s i (take (end - i * record_size) (drop (i * record_size) s))
    unfolding records
    place-row =
        let inside = place_inside in (
          (simp (length-take, length-drop) (omega arith), ap (λ (j : ℕ). obeys (take j (drop (i * record_size) s))) one-record ∙ obey-at (length s / record_size) s i below (both_true _ _ parts.1).0),
          ap (λ (j : ℕ). decode (take j (drop (i * record_size) s))) one-record ∙ sym (decode-at (length s / record_size) s i below),
        )

    module _ (o : Octets s) where
      in-store : Stored s (records s)
      in-store = sound-stored s o w.0

      pub place-bytes : take (end - i * record_size) (drop (i * record_size) s) ≡ encode (get_or (records s) i empty)
      place-bytes =
          ap (λ (j : ℕ). take j (drop (i * record_size) s)) one-record
          ∙ ap (λ (x : List ℕ). take record_size (drop (i * record_size) x)) (sym in-store.bytes-are)
          ∙ encode-at (records s) i in-store.table.fit w.1

      pub place-changed : (x q : List ℕ) (new : TrackRecord) → x ≡ put_mid (i * record_size) (end - i * record_size) s q → q ≡ encode new → x ≡ encode_all (set (records s) i new)
      place-changed x q new a b = row-changed s (records s) in-store i x q end new w.1 n a b

-- ---- record i, once it is found

pub found_within : (s : List ℕ) (id : TrackId) (i : ℕ) (p : Option ℕ) → sound s ≡ true → FoundIn p id (records s) → p ≡ Some i → Within s i
found_within s id i p e f w = let g : FoundIn (Some i) id (records s) = rw w at f in (e, g.0)

pub free-within : (s : List ℕ) (i : ℕ) (p : Option ℕ) → sound s ≡ true → FreeIn p (records s) → p ≡ Some i → Within s i
free-within s i p e f w = let g : FreeIn (Some i) (records s) = rw w at f in (e, g.0)

-- SPDX-License-Identifier: MIT
-- What Make and Remove answer, cause by cause, over plain variables. Assumes nothing.
use Rattle.std.specs.Prelude.{Option, Some, None}
use mathlib.Core.Path.{◌≡◌, refl, sym, ◌∙◌, ap}
use mathlib.Core.Bool.{Bool, true, false, not}
use mathlib.Core.List.{List}
use Prim.Native.Nat.{ℕ}
use native.Mathlib.Omega.{arith}
use lib.ListN.{length, get_or, set, replicate}
use Rattle.octets.specs.Octets.{Octets}
use Rattle.answers.specs.Answers.{done, store_invalid, kid_missing, role_refused, first, Outcome, settled}
use Rattle.answers.proofs.Basics.{told-false, told-true}
use Rattle.track_record.specs.Record.{TrackId, TrackRecord, empty, is_empty, is_retired, retired}
use Rattle.track_record.specs.Inner.Rows.{held_of}
use Rattle.track_record.specs.Inner.Rows.{Held}
use Rattle.track_record.specs.declared.Kind.{Kind}
use Rattle.track_record.specs.declared.Kind.TheVariants.{Sender, Receiver, Retired}
use Rattle.track_record.proofs.Records.{parts_of}
use Rattle.track_record.specs.Record as Records
use Rattle.tracks.specs.Calls.{make, remove_causes, remove_at, remove}
use Rattle.tracks.specs.Tracks.{length_right, encode_all, records, sound}
use Rattle.tracks.specs.Table.{get, apart}
use Rattle.tracks.specs.Inner.Places.{FoundIn}
use Rattle.track_record.proofs.Records.{holds-some}
use Rattle.tracks.proofs.Stores.{sound-stored}
use Rattle.tracks.proofs.Tables.{put-at}

-- ---- Make

pub make-refused : (s : List ℕ) (r : Bool) → r ≡ length_right (length s) → not r ≡ true → (store_invalid ≡ (make s).number) × (s ≡ (make s).store)
unfolding make first settled
make-refused s r e t = let f = told-false r _ e t in (rw f, rw f)

pub make-done : (s x : List ℕ) (r : Bool) → r ≡ length_right (length s) → not r ≡ false → x ≡ replicate (length s) 0 → (done ≡ (make s).number) × (x ≡ (make s).store)
unfolding make first settled
make-done s x r e t q = let f = told-true r _ e t in (rw f, rw f q)

-- ---- whether a record is retired

pub retired-none : (r : TrackRecord) (h : Option Held) → h ≡ held_of r → h ≡ None → false ≡ is_retired r
retired-none empty h e n = refl
retired-none (Records.track t) h e n = let z : ◌≡◌ {A = ℕ} 0 1 = cc in absurd (omega arith)

pub rests-else : (k : Kind) → (k ≡ Retired → ⊥) → false ≡ Records.rests k
rests-else Sender d = refl
rests-else Receiver d = refl
rests-else Retired d = absurd (d refl)

pub retired-told : (r : TrackRecord) (h : Option Held) (k : Kind) (s : Rattle.suites.specs.declared.sizes.Suite.Suite) → h ≡ held_of r → h ≡ Some (k, s) → Records.rests k ≡ is_retired r
retired-told empty h k s e n = let z : ◌≡◌ {A = ℕ} 0 1 = cc in absurd (omega arith)
retired-told (Records.track t) h k s e n = ap Records.rests (parts_of k t.kind s t.suite (sym n ∙ e)).0

-- ---- Remove

pub remove-unsound : (s : List ℕ) (id : TrackId) (r : Bool) → r ≡ sound s → not r ≡ true → (store_invalid ≡ (remove s id).number) × (s ≡ (remove s id).store)
unfolding remove remove_at remove_causes first settled
remove-unsound s id r e t = let f = told-false r _ e t in (rw f, rw f)

module _ (s : List ℕ) (id : TrackId) (is-sound : sound s ≡ true) where
  -- what Remove comes to once the record is found
  outcome-of : (held : TrackRecord) → get id (records s) ≡ held → remove s id ≡ remove_at true held (records s) s id
  unfolding remove
  outcome-of held g = ap (λ (v : Bool). remove_at v (get id (records s)) (records s) s id) is-sound ∙ ap (λ (h : TrackRecord). remove_at true h (records s) s id) g

  pub remove-missing : (p : Option ℕ) → FoundIn p id (records s) → p ≡ None → (kid_missing ≡ (remove s id).number) × (s ≡ (remove s id).store)
  unfolding remove_at remove_causes first settled
  remove-missing p f w =
      let g : get id (records s) ≡ empty = rw w at f in
      let q = outcome-of empty g in
      (sym (ap (λ (x : Outcome). x.number) q), sym (ap (λ (x : Outcome). x.store) q))

  module _ (o : Octets s) (p : Option ℕ) (f : FoundIn p id (records s)) (i : ℕ) (w : p ≡ Some i) where
    found : FoundIn (Some i) id (records s)
    found = rw w at f

    pub held-there : is_empty (get_or (records s) i empty) ≡ false
    held-there = holds-some id (get_or (records s) i empty) found.2

    apart-tracks : apart (records s) ≡ true
    apart-tracks = (sound-stored s o is-sound).table.tracks-apart

    module _ (r : TrackRecord) (is : r ≡ get_or (records s) i empty) (t : Bool) (e : t ≡ is_retired r) where
      here : get id (records s) ≡ r
      here = found.1 ∙ sym is

      pub remove-retired : t ≡ true → (role_refused ≡ (remove s id).number) × (s ≡ (remove s id).store)
      unfolding remove_at remove_causes first settled
      remove-retired u =
          let q = outcome-of r here in
          let h : is_empty r ≡ false = ap is_empty is ∙ held-there in
          let v : is_retired r ≡ true = sym e ∙ u in
          (sym (ap (λ (x : Outcome). x.number) q ∙ rw (h, v)), sym (ap (λ (x : Outcome). x.store) q ∙ rw (h, v)))

      pub remove-done : (x : List ℕ) → t ≡ false → x ≡ encode_all (set (records s) i (retired (get_or (records s) i empty))) → (done ≡ (remove s id).number) × (x ≡ (remove s id).store)
      unfolding remove_at remove_causes first settled
      remove-done x u a =
          let q = outcome-of r here in
          let h : is_empty r ≡ false = ap is_empty is ∙ held-there in
          let v : is_retired r ≡ false = sym e ∙ u in (
            sym (ap (λ (y : Outcome). y.number) q ∙ rw (h, v)),
            a ∙ ap encode_all (ap (λ (y : TrackRecord). set (records s) i (retired y)) (sym is) ∙ sym (put-at id (retired r) (records s) i apart-tracks found.2)) ∙ sym (ap (λ (y : Outcome). y.store) q ∙ rw (h, v)),
          )

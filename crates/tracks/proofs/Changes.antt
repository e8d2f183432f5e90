-- SPDX-License-Identifier: MIT
-- What making a track store and removing a track do to the table. Assumes nothing.
use mathlib.Core.Path.{◌≡◌, refl, sym, ◌∙◌, ap, ap₂}
use mathlib.Core.Bool.{Bool, true, false, not}
use mathlib.Core.List.{List, [], ◌∷◌, ◌++◌}
use Prim.Native.Nat.{ℕ, zero, suc, ◌+◌, ◌*◌, ◌/◌}
use native.Mathlib.Omega.{arith}
use lib.ListN.{length, replicate, length-replicate, replicate-append-replicate}
use borrow.Author.Tests.{not-false}
use Rattle.answers.specs.Answers.{store_invalid, ◌if◌, Outcome}
use Rattle.answers.proofs.Basics.{Settled, success, refusal, settle}
use Rattle.track_record.specs.Layout.{record_size, encode}
use Rattle.track_record.specs.Record.{TrackId, TrackRecord, empty, is_empty, retired}
use Rattle.tracks.specs.Calls.{stored, make, remove_causes, remove_at, remove}
use Rattle.tracks.specs.Tracks.{length_right, encode_all}
use Rattle.tracks.specs.Table.{get, put, apart, alone}
use Rattle.track_record.proofs.Records.{holds-empty, retired-holds, retired-fit}
use Rattle.tracks.proofs.Stores.{AllFit, length-right, Stored, stored-sound, stored-records, Change, put-change, get_fit}
use Rattle.tracks.proofs.Tables.{get_holds, get-there}

-- ---- Make

zeros : (n : ℕ) → encode_all (replicate n empty) ≡ replicate (n * record_size) 0
unfolding encode_all encode
zeros zero = refl
zeros (suc n) =
    ap (λ (l : List ℕ). replicate {A = ℕ} record_size 0 ++ l) (zeros n)
    ∙ replicate-append-replicate {A = ℕ} record_size (n * record_size) 0
    ∙ ap (λ (k : ℕ). replicate {A = ℕ} k 0) next
  where
    next : record_size + n * record_size ≡ suc n * record_size
    next = omega arith

empties-fit : (n : ℕ) → AllFit (replicate n empty)
empties-fit zero = tt
empties-fit (suc n) = (tt, empties-fit n)

empties-apart : (n : ℕ) → apart (replicate n empty) ≡ true
unfolding apart alone
empties-apart zero = refl
empties-apart (suc n) = empties-apart n

pub empties-get : (id : TrackId) (n : ℕ) → get id (replicate n empty) ≡ empty
unfolding get
empties-get id zero = refl
empties-get id (suc n) = get-there id empty (replicate n empty) (holds-empty id) ∙ empties-get id n

-- a store that is made is a table of empty records
pub record Made (s : List ℕ) : Type 0 where
  pub count : ℕ
  pub is-stored : Stored (make s).store (replicate count empty)

pub make-stored : (s : List ℕ) → (make s).number ≡ 0 → Made s
unfolding make
make-stored s e = record { count = length s / record_size; is-stored = by (settle ((store_invalid if not (length_right (length s))) ∷ []) s [] (stored (replicate (length s) 0)) refl) }
  where
    n : ℕ
    n = length s / record_size

    by : Settled ((store_invalid if not (length_right (length s))) ∷ []) s [] (stored (replicate (length s) 0)) (make s) → Stored (make s).store (replicate (length s / record_size) empty)
    by (refusal d r) = absurd (d (sym r.number_is ∙ e))
    by (success p q) =
        let r = length-right (length s) (not-false (length_right (length s)) p.0) in
        let m = length-replicate n empty in
        let whole : n * record_size ≡ length s = omega (arith, r.whole) in
        record {
          table = record {
            fit = empties-fit n;
            tracks-apart = empties-apart n;
            some = omega (arith, r.least);
            most = omega (arith, r.most);
          };
          bytes-are = zeros n ∙ ap (λ (k : ℕ). replicate {A = ℕ} k 0) whole ∙ sym (ap (λ (o : Outcome). o.store) q);
        }

-- ---- Remove

pub data RemoveStep (s : List ℕ) (rs : List TrackRecord) (id : TrackId) (o : Outcome) : Type 0 where
  done : o.number ≡ 0 → is_empty (get id rs) ≡ false → Change id (retired (get id rs)) rs (put id (retired (get id rs)) rs) → Stored o.store (put id (retired (get id rs)) rs) → RemoveStep s rs id o
  refused : (o.number ≡ 0 → ⊥) → o.store ≡ s → RemoveStep s rs id o

module _ (s : List ℕ) (rs : List TrackRecord) (t : Stored s rs) where
  pub remove-on : (id : TrackId) → remove s id ≡ remove_at true (get id rs) rs s id
  unfolding remove
  remove-on id = ap₂ (λ (v : Bool) (x : List TrackRecord). remove_at v (get id x) x s id) (stored-sound s rs t) (stored-records s rs t)

  pub remove-step : (id : TrackId) → RemoveStep s rs id (remove s id)
  unfolding remove_at remove_causes
  remove-step id =
      rw (remove-on id) (by (remove_at true (get id rs) rs s id) (settle (remove_causes true (get id rs)) s [] (stored (encode_all (put id (retired (get id rs)) rs))) refl))
    where
      by : (o : Outcome) → Settled (remove_causes true (get id rs)) s [] (stored (encode_all (put id (retired (get id rs)) rs))) o → RemoveStep s rs id o
      by o (refusal d r) = refused (λ e. d (sym r.number_is ∙ e)) r.store-stays
      by o (success p q) =
          let n : is_empty (get id rs) ≡ false = p.1.0 in
          let c = put-change id rs t.table (retired (get id rs)) (retired-fit (get id rs) (get_fit id rs t.table.fit)) (retired-holds id (get id rs) (get_holds id rs n)) n in
          done (ap (λ (x : Outcome). x.number) q) n c (record { table = c.table; bytes-are = sym (ap (λ (x : Outcome). x.store) q) })

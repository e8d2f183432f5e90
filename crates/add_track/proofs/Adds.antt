-- SPDX-License-Identifier: MIT
-- What adding a track does to the table. Assumes nothing.
use Rattle.std.specs.Prelude.{Option, Some, None}
use mathlib.Core.Path.{◌≡◌, refl, sym, ◌∙◌, ap, ap₂}
use mathlib.Core.Bool.{Bool, true, false, false≢true}
use mathlib.Core.List.{List, []}
use Prim.Native.Nat.{ℕ, ◌^◌, ◌<◌, ◌≤◌}
use lib.ListN.{length}
use borrow.Author.Tests.{not-false, ltb-false}
use Rattle.octets.specs.Octets.{Octets}
use Rattle.answers.specs.Answers.{Outcome}
use Rattle.answers.proofs.Basics.{Settled, success, refusal, settle}
use Rattle.suites.specs.Suites.{suite_of}
use Rattle.suites.specs.declared.sizes.Suite.{Suite}
use Rattle.secure_objects.specs.Objects.{name_most}
use Rattle.track_record.specs.Record.{TrackId, TrackRecord, empty, is_empty, fresh}
use Rattle.track_record.specs.declared.Role.{Role}
use Rattle.tracks.specs.Calls.{stored}
use Rattle.tracks.specs.Tracks.{encode_all}
use Rattle.tracks.specs.Table.{get, fill}
use Rattle.track_record.proofs.Records.{empty-is, fresh_holds, fresh-fit}
use Rattle.tracks.proofs.Stores.{Stored, stored-sound, stored-records, Change, fill-change}
use Rattle.add_track.specs.Add.{is_known, barred, added, add_causes, add_at, add}

pub record Added (rs : List TrackRecord) (role : Role) (id : TrackId) (suite : ℕ) (base : List ℕ) (o : Outcome) (s : Suite) : Type 0 where
  pub answers : o.number ≡ 0
  pub known : suite_of suite ≡ Some s
  pub allowed : barred role suite ≡ false
  pub free : get id rs ≡ empty
  pub change : Change id (fresh role s id base) rs (fill (fresh role s id base) rs)
  pub store_is : Stored o.store (fill (fresh role s id base) rs)

pub data AddStep (s : List ℕ) (rs : List TrackRecord) (role : Role) (id : TrackId) (suite : ℕ) (base : List ℕ) (o : Outcome) : Type 0 where
  done : (found : Suite) → Added rs role id suite base o found → AddStep s rs role id suite base o
  refused : (o.number ≡ 0 → ⊥) → o.store ≡ s → AddStep s rs role id suite base o

module _ (s : List ℕ) (rs : List TrackRecord) (t : Stored s rs) where
  pub add-on : (role : Role) (id : TrackId) (suite : ℕ) (base : List ℕ) → add s role id suite base ≡ add_at true rs s role id suite base
  unfolding add
  add-on role id suite base = ap₂ (λ (v : Bool) (x : List TrackRecord). add_at v x s role id suite base) (stored-sound s rs t) (stored-records s rs t)

  pub add_step : (role : Role) (id : TrackId) (suite : ℕ) (base : List ℕ) → id.key_id < 2 ^ 64 → Octets id.name → AddStep s rs role id suite base (add s role id suite base)
  unfolding add_at add_causes added
  add_step role id suite base h n =
      rw (add-on role id suite base) (by (add_at true rs s role id suite base) (suite_of suite) refl (settle (add_causes true role suite (length base) (length id.name) (get id rs) rs) s [] (stored (encode_all (fill (added role (suite_of suite) id base) rs))) refl))
    where
      by : (o : Outcome) (f : Option Suite) → suite_of suite ≡ f → Settled (add_causes true role suite (length base) (length id.name) (get id rs) rs) s [] (stored (encode_all (fill (added role (suite_of suite) id base) rs))) o → AddStep s rs role id suite base o
      by o f g (refusal d r) = refused (λ e. d (sym r.number_is ∙ e)) r.store-stays
      by o None g (success p q) = absurd (false≢true (sym (ap is_known g) ∙ not-false (is_known (suite_of suite)) p.1.0))
      by o (Some k) g (success p q) =
          let free : is_empty (get id rs) ≡ true = not-false (is_empty (get id rs)) p.1.1.1.1.1.0 in
          let most : length id.name ≤ name_most = ltb-false name_most (length id.name) p.1.1.1.1.0 in
          let c = fill-change id rs t.table (fresh role k id base) (fresh-fit role k id base h most n) (fresh_holds role k id base) free p.1.1.1.1.1.1.0 in
          let e : encode_all (fill (added role (suite_of suite) id base) rs) ≡ encode_all (fill (fresh role k id base) rs) = ap (λ (x : Option Suite). encode_all (fill (added role x id base) rs)) g in
          done k (record {
            answers = ap (λ (x : Outcome). x.number) q;
            known = g;
            allowed = p.1.1.0;
            free = empty-is (get id rs) free;
            change = c;
            store_is = record { table = c.table; bytes-are = sym (ap (λ (x : Outcome). x.store) q ∙ e) };
          })

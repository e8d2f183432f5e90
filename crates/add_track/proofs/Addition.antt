-- SPDX-License-Identifier: MIT
-- What an Add answers, cause by cause, over plain variables. Assumes nothing.
use Rattle.std.specs.Prelude.{Option, Some, None}
use mathlib.Core.Path.{◌≡◌, refl, sym, ◌∙◌, ap}
use mathlib.Core.Bool.{Bool, true, false, not}
use mathlib.Core.List.{List, [], ◌∷◌}
use Prim.Native.Nat.{ℕ, ◌<◌, ◌≤◌}
use lib.ListN.{length, get_or, set}
use borrow.Author.Tests.{le-leb, lt-leb, lt-ltb, le-ltb}
use Rattle.answers.specs.Answers.{done, store_invalid, suite_unknown, sending_barred, base_key_size, input_too_long, kid_held, store_full, ◌if◌, first, Outcome, settled}
use Rattle.answers.specs.Limits.{base_key_least, base_key_most}
use Rattle.answers.proofs.Basics.{told-false, told-true}
use Rattle.suites.specs.Suites.{suite_of}
use Rattle.suites.specs.declared.sizes.Suite.{Suite}
use Rattle.secure_objects.specs.Objects.{name_most}
use Rattle.track_record.specs.Record.{TrackId, TrackRecord, empty, is_empty, fresh}
use Rattle.track_record.specs.declared.Role.{Role}
use Rattle.tracks.specs.Calls.{stored}
use Rattle.tracks.specs.Tracks.{encode_all, records, sound}
use Rattle.tracks.specs.Table.{get, fill, full}
use Rattle.tracks.specs.Inner.Places.{FoundIn, FreeIn}
use Rattle.tracks.proofs.Tables.{fill-at}
use Rattle.track_record.proofs.Records.{holds-some}
use Rattle.add_track.specs.Add.{is_known, barred, added, add_causes, add_at, add}

pub free-empty : (rs : List TrackRecord) (i : ℕ) (p : Option ℕ) → FreeIn p rs → p ≡ Some i → is_empty (get_or rs i empty) ≡ true
free-empty rs i p f w = let g : FreeIn (Some i) rs = rw w at f in g.1

-- the record of a suite that was found is the one that the definition adds
pub added-told : (role : Role) (s : Suite) (id : TrackId) (base : List ℕ) (n : ℕ) (f : Option Suite) → f ≡ suite_of n → f ≡ Some s → fresh role s id base ≡ added role (suite_of n) id base
unfolding added
added-told role s id base n f e q = sym (ap (λ (x : Option Suite). added role x id base) (sym e ∙ q))

-- what an Add answers, and what it leaves in the store
abbrev Answers : ℕ → List ℕ → Outcome → Type 0
Answers n s o = (n ≡ o.number) × (s ≡ o.store)

answers : (o p : Outcome) → o ≡ p → Answers p.number p.store o
answers o p e = (sym (ap (λ (x : Outcome). x.number) e), sym (ap (λ (x : Outcome). x.store) e))

module _ (s : List ℕ) (role : Role) (id : TrackId) (suite : ℕ) (base : List ℕ) (r : Bool) (e : r ≡ sound s) where
  pub add-unsound : not r ≡ true → Answers store_invalid s (add s role id suite base)
  unfolding add add_at add_causes first settled
  add-unsound t = let f = told-false r _ e t in (rw f, rw f)

  module _ (t : not r ≡ false) (found : Option Suite) (n : found ≡ suite_of suite) where
    is-sound : sound s ≡ true
    is-sound = told-true r _ e t

    pub add-suite : found ≡ None → Answers suite_unknown s (add s role id suite base)
    unfolding add add_at add_causes first settled
    add-suite u = let v : suite_of suite ≡ None = sym n ∙ u in (rw (is-sound, v), rw (is-sound, v))

    module _ (known : Suite) (u : found ≡ Some known) (b : Bool) (a : b ≡ barred role suite) where
      v : is_known (suite_of suite) ≡ true
      v = ap is_known (sym n ∙ u)

      pub add-barred : b ≡ true → Answers sending_barred s (add s role id suite base)
      unfolding add add_at add_causes first settled
      add-barred q = (rw (is-sound, v, sym a ∙ q), rw (is-sound, v, sym a ∙ q))

      module _ (q : b ≡ false) where
        w : barred role suite ≡ false
        w = sym a ∙ q

        pub add-short : length base < base_key_least → Answers base_key_size s (add s role id suite base)
        unfolding add add_at add_causes first settled
        add-short h = let x = lt-leb base_key_least (length base) h in (rw (is-sound, v, w, x), rw (is-sound, v, w, x))

        module _ (h : base_key_least ≤ length base) where
          pub add-long : base_key_most < length base → Answers base_key_size s (add s role id suite base)
          unfolding add add_at add_causes first settled
          add-long k =
              let x = le-leb base_key_least (length base) h in
              let y = lt-leb (length base) base_key_most k in
              (rw (is-sound, v, w, x, y), rw (is-sound, v, w, x, y))

          module _ (k : length base ≤ base_key_most) where
            pub add-name : name_most < length id.name → Answers input_too_long s (add s role id suite base)
            unfolding add add_at add_causes first settled
            add-name m =
                let x = le-leb base_key_least (length base) h in
                let y = le-leb (length base) base_key_most k in
                let z = lt-ltb name_most (length id.name) m in
                (rw (is-sound, v, w, x, y, z), rw (is-sound, v, w, x, y, z))

            module _ (m : length id.name ≤ name_most) (p : Option ℕ) (f : FoundIn p id (records s)) where
              -- what Add comes to once these are judged
              outcome-of : (free whole : Bool) → is_empty (get id (records s)) ≡ free → full (records s) ≡ whole
                  → add s role id suite base ≡ settled (first ((kid_held if not free) ∷ (store_full if whole) ∷ [])) s [] (stored (encode_all (fill (added role (suite_of suite) id base) (records s))))
              unfolding add add_at add_causes first
              outcome-of free whole g j = rw (is-sound, v, w, le-leb base_key_least (length base) h, le-leb (length base) base_key_most k, le-ltb name_most (length id.name) m, g, j)

              pub add-held : (i : ℕ) → p ≡ Some i → Answers kid_held s (add s role id suite base)
              unfolding first settled
              add-held i j =
                  let g : FoundIn (Some i) id (records s) = rw j at f in
                  answers _ _ (outcome-of false (full (records s)) (ap is_empty g.1 ∙ holds-some id (get_or (records s) i empty) g.2) refl)

              module _ (j : p ≡ None) (free : Option ℕ) (d : FreeIn free (records s)) where
                nowhere : is_empty (get id (records s)) ≡ true
                nowhere = let g : get id (records s) ≡ empty = rw j at f in ap is_empty g

                pub add-full : free ≡ None → Answers store_full s (add s role id suite base)
                unfolding first settled
                add-full z = let g : full (records s) ≡ true = rw z at d in answers _ _ (outcome-of true true nowhere g)

                pub add_done : (i : ℕ) → free ≡ Some i → (x : List ℕ) → x ≡ encode_all (set (records s) i (fresh role known id base)) → Answers done x (add s role id suite base)
                unfolding first settled
                add_done i z x c =
                    let g : FreeIn (Some i) (records s) = rw z at d in
                    let l = fill-at (added role (suite_of suite) id base) (records s) i g in
                    let y = answers _ _ (outcome-of true false nowhere l.1) in
                    (y.0, c ∙ ap (λ (rec : TrackRecord). encode_all (set (records s) i rec)) (added-told role known id base suite found n u) ∙ ap encode_all (sym l.0) ∙ y.1)

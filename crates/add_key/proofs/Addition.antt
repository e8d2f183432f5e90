-- SPDX-License-Identifier: MIT
-- What an Add answers, cause by cause, over plain variables. Assumes nothing.
use mathlib.Core.Path.{◌≡◌, refl, sym, ◌∙◌, ap}
use mathlib.Core.Bool.{Bool, true, false, not}
use mathlib.Core.List.{List, [], ◌∷◌}
use Prim.Native.Nat.{ℕ, ◌<◌, ◌≤◌}
use lib.ListN.{length, get_or}
use borrow.Author.Tests.{le-leb, lt-leb}
use Rattle.answers.specs.Answers.{done, store_invalid, suite_unknown, sending_barred, base_key_size, kid_held, store_full, ◌if◌, first, Outcome, settled}
use Rattle.answers.specs.Limits.{base_key_least, base_key_most}
use Rattle.suites.specs.Suites.{number_of}
use Rattle.suites.specs.declared.sizes.Suite.{Suite}
use Rattle.suites.proofs.Laws.{number-known}
use Rattle.store.specs.Cipher.{Cipher}
use Rattle.key_record.specs.Record.{empty, is_empty, holds}
use Rattle.store.specs.Sframe.{key_for, salt_for, sframe}
use Rattle.store.specs.Store.{encode_all, records, sound, stored}
use Rattle.key_record.specs.Suites.{is_suite}
use Rattle.store.specs.Table.{get, insert, full}
use Rattle.key_record.specs.Inner.Rows.{fresh}
use Rattle.store.specs.Inner.Places.{rank, Insertable}
use Rattle.key_record.specs.declared.Role.{Role}
use Rattle.key_record.specs.declared.Role.TheVariants.{Sending, Receiving}
use Rattle.answers.proofs.Basics.{told-false, told-true}
use Rattle.store.proofs.Places.{place_found, place-nowhere}
use Rattle.key_record.proofs.KindLaws.{holds-some}
use Rattle.add_key.specs.Add.{barred, added, add_causes, add_at, add}

-- the record of a new key is the one that the definition adds
fresh_added : (role : Role) (s : Suite) (kid : ℕ) (base : List ℕ) → fresh role s kid base ≡ added sframe role kid (number_of s) base
unfolding added key_for salt_for
fresh_added Sending s kid base = rw (number-known s)
fresh_added Receiving s kid base = rw (number-known s)

pub added-told : (role : Role) (s : Suite) (kid suite : ℕ) (base : List ℕ) → suite ≡ number_of s → fresh role s kid base ≡ added sframe role kid suite base
added-told role s kid suite base e = fresh_added role s kid base ∙ ap (λ (k : ℕ). added sframe role kid k base) (sym e)

-- what an Add answers, and what it leaves in the store
abbrev Answers : ℕ → List ℕ → Outcome → Type 0
Answers n s o = (n ≡ o.number) × (s ≡ o.store)

answers : (o p : Outcome) → o ≡ p → Answers p.number p.store o
answers o p e = (sym (ap (λ (x : Outcome). x.number) e), sym (ap (λ (x : Outcome). x.store) e))

module _ (cipher : Cipher) (s : List ℕ) (role : Role) (kid suite : ℕ) (base : List ℕ) (r : Bool) (e : r ≡ sound s) where
  pub add-unsound : not r ≡ true → Answers store_invalid s (add cipher s role kid suite base)
  unfolding add add_at add_causes first settled
  add-unsound t = let f = told-false r _ e t in (rw f, rw f)

  module _ (t : not r ≡ false) where
    is-sound : sound s ≡ true
    is-sound = told-true r _ e t

    pub add-suite : is_suite suite ≡ false → Answers suite_unknown s (add cipher s role kid suite base)
    unfolding add add_at add_causes first settled
    add-suite u = (rw (is-sound, u), rw (is-sound, u))

    pub add-barred : is_suite suite ≡ true → barred role suite ≡ true → Answers sending_barred s (add cipher s role kid suite base)
    unfolding add add_at add_causes first settled
    add-barred u a = (rw (is-sound, u, a), rw (is-sound, u, a))

    module _ (u : is_suite suite ≡ true) (a : barred role suite ≡ false) where
      pub add-short : length base < base_key_least → Answers base_key_size s (add cipher s role kid suite base)
      unfolding add add_at add_causes first settled
      add-short h = let b = lt-leb base_key_least (length base) h in (rw (is-sound, u, a, b), rw (is-sound, u, a, b))

      module _ (h : base_key_least ≤ length base) where
        pub add-long : base_key_most < length base → Answers base_key_size s (add cipher s role kid suite base)
        unfolding add add_at add_causes first settled
        add-long k =
            let b = le-leb base_key_least (length base) h in
            let c = lt-leb (length base) base_key_most k in
            (rw (is-sound, u, a, b, c), rw (is-sound, u, a, b, c))

        module _ (k : length base ≤ base_key_most) (i : ℕ) (p : i ≡ rank kid (records s)) (held : Bool) (f : held ≡ holds kid (get_or (records s) i empty)) where
          -- what Add comes to once these are judged
          outcome-of : (free whole : Bool) → is_empty (get kid (records s)) ≡ free → full (records s) ≡ whole
              → add cipher s role kid suite base ≡ settled (first ((kid_held if not free) ∷ (store_full if whole) ∷ [])) s [] (stored (encode_all (insert (added cipher role kid suite base) (records s))))
          unfolding add add_at add_causes first
          outcome-of free whole g q = rw (is-sound, u, a, le-leb base_key_least (length base) h, le-leb (length base) base_key_most k, g, q)

          pub add-held : held ≡ true → Answers kid_held s (add cipher s role kid suite base)
          unfolding first settled
          add-held z =
              let g = place_found s kid i held is-sound f z in
              answers _ _ (outcome-of false (full (records s)) (ap is_empty g.1 ∙ holds-some kid (get_or (records s) i empty) g.2) refl)

          module _ (z : held ≡ false) (v : Bool) (d : v ≡ full (records s)) where
            nowhere : is_empty (get kid (records s)) ≡ true
            nowhere = ap is_empty (place-nowhere s kid i held is-sound p f z)

            pub add-full : v ≡ true → Answers store_full s (add cipher s role kid suite base)
            unfolding first settled
            add-full w = answers _ _ (outcome-of true true nowhere (sym d ∙ w))

            pub add_done : v ≡ false → (x : List ℕ) → x ≡ encode_all (insert (added cipher role kid suite base) (records s)) → Answers done x (add cipher s role kid suite base)
            unfolding first settled
            add_done w x c = let y = answers _ _ (outcome-of true false nowhere (sym d ∙ w)) in (y.0, c ∙ y.1)

            -- there is a place for it
            pub add-room : v ≡ false → Insertable s i kid
            add-room w = (is-sound, p, sym f ∙ z, sym d ∙ w)

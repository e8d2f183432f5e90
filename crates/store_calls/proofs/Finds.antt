-- SPDX-License-Identifier: MIT
-- What Find answers, cause by cause, over plain variables. Assumes nothing.
use Rattle.std.specs.Prelude.{Option, Some, None, Result}
use Rattle.std.specs.Option.{ok_or}
use mathlib.Core.Path.{◌≡◌, sym, ◌∙◌, ap}
use mathlib.Core.Bool.{Bool, true, false, not}
use mathlib.Core.List.{List}
use Prim.Native.Nat.{ℕ}
use lib.ListN.{get_or}
use Rattle.answers.specs.Answers.{done, store_invalid, kid_missing, first, settled}
use Rattle.answers.specs.Refusals.{number_of, written_of}
use Rattle.answers.specs.declared.Refusal.{Refusal}
use Rattle.answers.specs.declared.Refusal.TheVariants.{KidMissing}
use Rattle.answers.proofs.Basics.{told-false, told-true}
use Rattle.key_record.specs.Record.{empty, is_empty}
use Rattle.key_record.proofs.KindLaws.{holds-some}
use Rattle.store_calls.specs.Calls.{find_causes, find, found}
use Rattle.store.specs.Store.{records, sound}
use Rattle.store.specs.Table.{get}
use Rattle.store.specs.Inner.Places.{FoundIn}
use Rattle.store.proofs.Tables.{place_is}
use Rattle.store.proofs.Places.{sound-apart}

module _ (s : List ℕ) (kid : ℕ) (r : Bool) (e : r ≡ sound s) where
  pub find-unsound : not r ≡ true → (store_invalid ≡ (find s kid).number) × (0 ≡ found s kid)
  unfolding find find_causes found first settled
  find-unsound t = let f = told-false r _ e t in (rw f, rw f)

  module _ (t : not r ≡ false) (p : Option ℕ) (f : FoundIn p kid (records s)) where
    pub find-answers : (a : Result ℕ Refusal) → a ≡ ok_or p KidMissing → (number_of a ≡ (find s kid).number) × (written_of a ≡ found s kid)
    unfolding find find_causes found first settled
    find-answers a q = by p f q
      where
        h : sound s ≡ true
        h = told-true r _ e t

        by : (o : Option ℕ) → FoundIn o kid (records s) → a ≡ ok_or o KidMissing → (number_of a ≡ (find s kid).number) × (written_of a ≡ found s kid)
        by None g w = (rw (w, h, g), rw (w, h, g))
        by (Some i) g w =
            let n : is_empty (get kid (records s)) ≡ false = ap is_empty g.1 ∙ holds-some kid (get_or (records s) i empty) g.2 in
            (rw (w, h, n), rw (w, h, n) (sym (place_is kid (records s) i (sound-apart s h) g.2)))

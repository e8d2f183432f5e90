-- SPDX-License-Identifier: MIT
-- What Make and Remove answer, cause by cause, over plain variables. Assumes nothing.
use Rattle.std.specs.Prelude.{Option, Some, None}
use mathlib.Core.Path.{◌≡◌, sym, ◌∙◌, ap}
use mathlib.Core.Bool.{Bool, true, false, not, false≢true}
use mathlib.Core.List.{List, []}
use Prim.Native.Nat.{ℕ}
use native.Mathlib.Omega.{arith}
use lib.ListN.{length, get_or, set, replicate}
use Rattle.octets.specs.Octets.{Octets}
use Rattle.answers.specs.Answers.{done, store_invalid, kid_missing, role_refused, first, Outcome, settled}
use Rattle.answers.proofs.Basics.{told-false, told-true}
use Rattle.store_calls.specs.Calls.{make, removed, remove_causes, remove_at, remove}
use Rattle.key_record.specs.Record.{KeyRecord, empty, sending, receiving, retired, is_sending, holds}
use Rattle.store.specs.Store.{length_right, encode_all, records, sound, stored}
use Rattle.store.specs.Table.{get, apart}
use Rattle.store.specs.Inner.Places.{closed, FoundIn}
use Rattle.key_record.specs.Inner.Rows.{kind_of, kept}
use Rattle.key_record.specs.declared.Kind.{Kind}
use Rattle.key_record.specs.declared.Kind.TheVariants.{Empty, Sender, Receiver, Retired}
use Rattle.key_record.proofs.KindLaws.{kind-sends}
use Rattle.store.proofs.Stores.{sound-stored, kids-apart}
use Rattle.store.proofs.Tables.{put-at}
use Rattle.store.proofs.Order.{without_at}

-- ---- Make

pub make-refused : (s : List ℕ) (r : Bool) → r ≡ length_right (length s) → not r ≡ true → (store_invalid ≡ (make s).number) × (s ≡ (make s).store)
unfolding make first settled
make-refused s r e t = let f = told-false r _ e t in (rw f, rw f)

pub make-done : (s x : List ℕ) (r : Bool) → r ≡ length_right (length s) → not r ≡ false → x ≡ replicate (length s) 0 → (done ≡ (make s).number) × (x ≡ (make s).store)
unfolding make first settled
make-done s x r e t q = let f = told-true r _ e t in (rw f, rw f q)

-- ---- Remove

pub remove-unsound : (s : List ℕ) (kid : ℕ) (r : Bool) → r ≡ sound s → not r ≡ true → (store_invalid ≡ (remove s kid).number) × (s ≡ (remove s kid).store)
unfolding remove remove_at remove_causes first settled
remove-unsound s kid r e t = let f = told-false r _ e t in (rw f, rw f)

module _ (s : List ℕ) (kid : ℕ) (is-sound : sound s ≡ true) where
  -- what Remove comes to once the record is found
  outcome-of : (held : KeyRecord) → get kid (records s) ≡ held → remove s kid ≡ settled (first (remove_causes true held)) s [] (stored (encode_all (removed held kid (records s))))
  unfolding remove remove_at
  outcome-of held g =
      ap (λ (v : Bool). remove_at v (records s) s kid) is-sound
      ∙ ap (λ (h : KeyRecord). settled (first (remove_causes true h)) s [] (stored (encode_all (removed h kid (records s))))) g

  pub remove-missing : (p : Option ℕ) → FoundIn p kid (records s) → p ≡ None → (kid_missing ≡ (remove s kid).number) × (s ≡ (remove s kid).store)
  unfolding remove_causes first settled
  remove-missing p f w =
      let g : get kid (records s) ≡ empty = rw w at f in
      let q = outcome-of empty g in
      (sym (ap (λ (x : Outcome). x.number) q), sym (ap (λ (x : Outcome). x.store) q))

  module _ (o : Octets s) (p : Option ℕ) (f : FoundIn p kid (records s)) (i : ℕ) (w : p ≡ Some i) (k : Kind) (is : k ≡ kind_of (get_or (records s) i empty)) where
    found : FoundIn (Some i) kid (records s)
    found = rw w at f

    apart-kids : apart (records s) ≡ true
    apart-kids = kids-apart (sound-stored s o is-sound).table

    pub remove-empty : k ≡ Empty → ⊥
    unfolding holds
    remove-empty z = by (get_or (records s) i empty) (sym is ∙ z) found.2
      where
        by : (h : KeyRecord) → kind_of h ≡ Empty → holds kid h ≡ true → ⊥
        by empty e t = false≢true t
        by (sending x) e t = let z : ◌≡◌ {A = ℕ} 0 1 = cc in omega arith
        by (receiving x w) e t = let z : ◌≡◌ {A = ℕ} 0 1 = cc in omega arith
        by (retired x) e t = let z : ◌≡◌ {A = ℕ} 0 1 = cc in omega arith

    pub remove-retired : k ≡ Retired → (role_refused ≡ (remove s kid).number) × (s ≡ (remove s kid).store)
    unfolding remove_causes first settled
    remove-retired z = by (get_or (records s) i empty) found.1 (sym is ∙ z)
      where
        by : (h : KeyRecord) → get kid (records s) ≡ h → kind_of h ≡ Retired → (role_refused ≡ (remove s kid).number) × (s ≡ (remove s kid).store)
        by empty g e = let z : ◌≡◌ {A = ℕ} 0 1 = cc in absurd (omega arith)
        by (sending x) g e = let z : ◌≡◌ {A = ℕ} 0 1 = cc in absurd (omega arith)
        by (receiving x w) g e = let z : ◌≡◌ {A = ℕ} 0 1 = cc in absurd (omega arith)
        by (retired x) g e = let y = outcome-of (retired x) g in (sym (ap (λ (x : Outcome). x.number) y), sym (ap (λ (x : Outcome). x.store) y))

    pub remove-receiving : (x : List ℕ) → k ≡ Receiver → x ≡ encode_all (closed i (records s)) → (done ≡ (remove s kid).number) × (x ≡ (remove s kid).store)
    unfolding remove_causes removed first settled
    remove-receiving x z a = by (get_or (records s) i empty) found.1 (sym is ∙ z)
      where
        by : (h : KeyRecord) → get kid (records s) ≡ h → kind_of h ≡ Receiver → (done ≡ (remove s kid).number) × (x ≡ (remove s kid).store)
        by empty g e = let z : ◌≡◌ {A = ℕ} 0 1 = cc in absurd (omega arith)
        by (sending y) g e = let z : ◌≡◌ {A = ℕ} 0 1 = cc in absurd (omega arith)
        by (retired y) g e = let z : ◌≡◌ {A = ℕ} 0 1 = cc in absurd (omega arith)
        by (receiving y w) g e =
            let v = outcome-of (receiving y w) g in
            (sym (ap (λ (x : Outcome). x.number) v), a ∙ ap encode_all (sym (without_at kid (records s) i (sound-stored s o is-sound).table.in_order_lem found.2)) ∙ sym (ap (λ (x : Outcome). x.store) v))

    pub sender-sends : k ≡ Sender → is_sending (get_or (records s) i empty) ≡ true
    sender-sends z = kind-sends (get_or (records s) i empty) (sym is ∙ z)

    pub remove-sending : (x : List ℕ) → k ≡ Sender → x ≡ encode_all (set (records s) i (kept (get_or (records s) i empty))) → (done ≡ (remove s kid).number) × (x ≡ (remove s kid).store)
    unfolding remove_causes removed first settled
    remove-sending x z a = by (get_or (records s) i empty) found.1 (sym is ∙ z) a
      where
        by : (h : KeyRecord) → get kid (records s) ≡ h → kind_of h ≡ Sender → x ≡ encode_all (set (records s) i (kept h)) → (done ≡ (remove s kid).number) × (x ≡ (remove s kid).store)
        by empty g e b = let z : ◌≡◌ {A = ℕ} 0 1 = cc in absurd (omega arith)
        by (receiving y w) g e b = let z : ◌≡◌ {A = ℕ} 0 1 = cc in absurd (omega arith)
        by (retired y) g e b = let z : ◌≡◌ {A = ℕ} 0 1 = cc in absurd (omega arith)
        by (sending y) g e b =
            let v = outcome-of (sending y) g in (
              sym (ap (λ (x : Outcome). x.number) v),
              b ∙ ap encode_all (sym (put-at kid (kept (sending y)) (records s) i apart-kids found.2)) ∙ sym (ap (λ (x : Outcome). x.store) v),
            )

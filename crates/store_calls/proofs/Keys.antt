-- SPDX-License-Identifier: MIT
-- What making a store and removing a key do to the table; finding a key leaves the store. Assumes nothing.
use mathlib.Core.Path.{◌≡◌, refl, sym, ◌∙◌, ap, ap₂}
use mathlib.Core.Bool.{Bool, true, not, false≢true}
use mathlib.Core.List.{List, [], ◌∷◌}
use Prim.Native.Nat.{ℕ, ◌*◌, ◌/◌}
use native.Mathlib.Omega.{arith}
use lib.ListN.{length, replicate, length-replicate}
use borrow.Author.Tests.{not-false}
use Rattle.answers.specs.Answers.{store_invalid, ◌if◌, Outcome}
use Rattle.window.specs.declared.Window.{Window}
use Rattle.store_calls.specs.Calls.{make, removed, remove_causes, remove_at, remove, find}
use Rattle.key_record.specs.Inner.Rows.{kept}
use Rattle.key_record.specs.Layout.{record_size}
use Rattle.key_record.specs.Record.{SendingKey, ReceivingKey, KeyRecord, empty, sending, receiving, retired, holds}
use Rattle.store.specs.Store.{length_right, encode_all, stored}
use Rattle.store.specs.Table.{get, put, without}
use Rattle.answers.proofs.Basics.{Settled, success, refusal, settle, settled-store}
use Rattle.key_record.proofs.Codec.{Fit}
use Rattle.store.proofs.Empties.{zeros, empties-fit, empties-ordered}
use Rattle.store.proofs.Stores.{length-right, Stored, stored-sound, stored-records, Change, put-change, without-change, get_fit}
use Rattle.store.proofs.Tables.{get_holds}

-- ---- Make

-- a store that is made is a table of empty records
pub record Made (s : List ℕ) : Type 0 where
  pub count : ℕ
  pub is-stored : Stored (make s).store (replicate count empty)

pub make-stored : (s : List ℕ) → (make s).number ≡ 0 → Made s
unfolding make
make-stored s e = record { count = length s / record_size; is-stored = by (settle ((store_invalid if not (length_right (length s))) ∷ []) s [] (stored (replicate (length s) 0)) refl) }
  where
    n : ℕ
    n = length s / record_size

    by : Settled ((store_invalid if not (length_right (length s))) ∷ []) s [] (stored (replicate (length s) 0)) (make s) → Stored (make s).store (replicate (length s / record_size) empty)
    by (refusal d r) = absurd (d (sym r.number_is ∙ e))
    by (success p q) =
        let r = length-right (length s) (not-false (length_right (length s)) p.0) in
        let m = length-replicate n empty in
        let whole : n * record_size ≡ length s = omega (arith, r.whole) in
        record {
          table = record {
            fit = empties-fit n;
            in_order_lem = empties-ordered n;
            some = omega (arith, r.least);
            most = omega (arith, r.most);
          };
          bytes-are = zeros n ∙ ap (λ (k : ℕ). replicate {A = ℕ} k 0) whole ∙ sym (ap (λ (o : Outcome). o.store) q);
        }

-- ---- Remove

pub data RemoveStep (s : List ℕ) (rs : List KeyRecord) (kid : ℕ) (o : Outcome) : Type 0 where
  freed : (r : ReceivingKey) (w : Window) → o.number ≡ 0 → get kid rs ≡ receiving r w → Change kid empty rs (without kid rs) → Stored o.store (without kid rs) → RemoveStep s rs kid o
  closed : (r : SendingKey) → o.number ≡ 0 → get kid rs ≡ sending r → Change kid (kept (sending r)) rs (put kid (kept (sending r)) rs) → Stored o.store (put kid (kept (sending r)) rs) → RemoveStep s rs kid o
  refused : (o.number ≡ 0 → ⊥) → o.store ≡ s → RemoveStep s rs kid o

kept-holds : (kid : ℕ) (r : SendingKey) → holds kid (sending r) ≡ true → holds kid (kept (sending r)) ≡ true
unfolding holds
kept-holds kid r h = h

module _ (s : List ℕ) (rs : List KeyRecord) (t : Stored s rs) where
  remove-on : (kid : ℕ) → remove s kid ≡ remove_at true rs s kid
  unfolding remove
  remove-on kid = ap₂ (λ (v : Bool) (x : List KeyRecord). remove_at v x s kid) (stored-sound s rs t) (stored-records s rs t)

  pub remove-step : (kid : ℕ) → RemoveStep s rs kid (remove s kid)
  unfolding remove_at remove_causes removed
  remove-step kid =
      rw (remove-on kid) (by (remove_at true rs s kid) (get kid rs) refl (settle (remove_causes true (get kid rs)) s [] (stored (encode_all (removed (get kid rs) kid rs))) refl))
    where
      held-there : (r : SendingKey) → get kid rs ≡ sending r → holds kid (sending r) ≡ true
      held-there r e = rw e at (get_holds kid rs (rw e))

      by : (o : Outcome) (held : KeyRecord) → get kid rs ≡ held → Settled (remove_causes true held) s [] (stored (encode_all (removed held kid rs))) o → RemoveStep s rs kid o
      by o held g (refusal d r) = refused (λ e. d (sym r.number_is ∙ e)) r.store-stays
      by o empty g (success p q) = absurd (false≢true (sym p.1.0))
      by o (retired r) g (success p q) = absurd (false≢true (sym p.1.1.0))
      by o (receiving r w) g (success p q) =
          let c = without-change kid rs t.table in
          freed r w (ap (λ (x : Outcome). x.number) q) g c (record { table = c.table; bytes-are = sym (ap (λ (x : Outcome). x.store) q) })
      by o (sending r) g (success p q) =
          let f : Fit (sending r) = rw g at (get_fit kid rs t.table.fit) in
          let c = put-change kid rs t.table (kept (sending r)) f.0 (kept-holds kid r (held-there r g)) (rw g) in
          closed r (ap (λ (x : Outcome). x.number) q) g c (record { table = c.table; bytes-are = sym (ap (λ (x : Outcome). x.store) q) })

-- ---- Find

pub find-store : (s : List ℕ) (kid : ℕ) → (find s kid).store ≡ s
unfolding find
find-store s kid = settled-store _ s [] _ refl

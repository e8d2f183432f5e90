-- SPDX-License-Identifier: MIT
-- What a change of epoch does to the table: of every Key ID, what is found afterwards, and that the order stays. Assumes nothing.
use mathlib.Core.Path.{◌≡◌, refl, sym, ◌∙◌, ap, ap₂}
use mathlib.Core.Bool.{Bool, true, false}
use mathlib.Core.List.{List, [], ◌∷◌, ◌++◌}
use Prim.Native.Nat.{ℕ, zero, suc, ◌-◌, ◌≤◌}
use native.Mathlib.Omega.{arith}
use lib.Dec.{eqb}
use lib.ListN.{length, replicate, length-append, length-replicate}
use Rattle.octets.specs.Octets.{pick}
use Rattle.answers.specs.Answers.{Outcome}
use Rattle.answers.proofs.Basics.{Two, yes', no', two, both_true, Settled, success, refusal, settle}
use Rattle.group.specs.Group.{epoch_in}
use Rattle.key_record.specs.Record.{KeyRecord, empty, receiving, is_empty, is_receiving, kid_of, holds, in_order}
use Rattle.key_record.proofs.KindLaws.{receives-held}
use Rattle.store.specs.Store.{encode_all, records, stored}
use Rattle.store.specs.Table.{get, ordered_from, ordered}
use Rattle.store.proofs.Empties.{empties-from, empties-get}
use Rattle.store.proofs.Order.{holds-kid, from_cons, cons-from, from_past, ordered-rest, none-behind}
use Rattle.store.proofs.Stores.{AllFit, Table, changed-table, Stored, stored-sound, stored-records}
use Rattle.store.proofs.Tables.{get-here, get-there}
use Rattle.change_epoch.specs.Epoch.{of_epoch, others, without_epoch, epoch_causes, epoch_at, change_epoch}

none-either : (b : Bool) → pick b empty empty ≡ empty
none-either true = refl
none-either false = refl

module _ (E bits : ℕ) where
  pub epoch-receives : (r : KeyRecord) → of_epoch E bits r ≡ true → is_receiving r ≡ true
  unfolding of_epoch
  epoch-receives r t = (both_true (is_receiving r) (eqb (epoch_in E (kid_of r)) bits) t).0

  epoch-held : (r : KeyRecord) → of_epoch E bits r ≡ true → is_empty r ≡ false
  epoch-held r t = receives-held r (epoch-receives r t)

  -- ---- the records that stay

  pub others-gone : (x : KeyRecord) (xs : List KeyRecord) → of_epoch E bits x ≡ true → others E bits (x ∷ xs) ≡ others E bits xs
  unfolding others
  others-gone x xs t = rw t

  pub others-stay : (x : KeyRecord) (xs : List KeyRecord) → of_epoch E bits x ≡ false → others E bits (x ∷ xs) ≡ x ∷ others E bits xs
  unfolding others
  others-stay x xs t = rw t

  pub others-append : (xs ys : List KeyRecord) → others E bits (xs ++ ys) ≡ others E bits xs ++ others E bits ys
  unfolding others
  others-append [] ys = refl
  others-append (x ∷ xs) ys = by (two (of_epoch E bits x)) (others-append xs ys)
    where
      by : Two (of_epoch E bits x) → others E bits (xs ++ ys) ≡ others E bits xs ++ others E bits ys → others E bits (x ∷ (xs ++ ys)) ≡ others E bits (x ∷ xs) ++ others E bits ys
      by (yes' t) e = others-gone x (xs ++ ys) t ∙ e ∙ ap (λ (l : List KeyRecord). l ++ others E bits ys) (sym (others-gone x xs t))
      by (no' t) e = others-stay x (xs ++ ys) t ∙ ap (λ (l : List KeyRecord). x ∷ l) e ∙ ap (λ (l : List KeyRecord). l ++ others E bits ys) (sym (others-stay x xs t))

  pub others-most : (rs : List KeyRecord) → length (others E bits rs) ≤ length rs
  unfolding others
  others-most [] = omega arith
  others-most (x ∷ xs) = by (two (of_epoch E bits x)) (others-most xs)
    where
      by : Two (of_epoch E bits x) → length (others E bits xs) ≤ length xs → length (others E bits (x ∷ xs)) ≤ suc (length xs)
      by (yes' t) h = rw (others-gone x xs t) (omega arith)
      by (no' t) h = rw (others-stay x xs t) (omega arith)

  pub others-fit : (rs : List KeyRecord) → AllFit rs → AllFit (others E bits rs)
  unfolding others
  others-fit [] f = tt
  others-fit (x ∷ xs) f = by (two (of_epoch E bits x)) (others-fit xs f.1)
    where
      by : Two (of_epoch E bits x) → AllFit (others E bits xs) → AllFit (others E bits (x ∷ xs))
      by (yes' t) g = rw (others-gone x xs t) g
      by (no' t) g = rw (others-stay x xs t) (f.0, g)

  -- ---- and empty ones behind them

  padded-fit : (rs : List KeyRecord) (n : ℕ) → AllFit rs → AllFit (rs ++ replicate n empty)
  padded-fit [] zero f = tt
  padded-fit [] (suc n) f = (tt, padded-fit [] n f)
  padded-fit (x ∷ xs) n f = (f.0, padded-fit xs n f.1)

  padded-from : (r : KeyRecord) (rs : List KeyRecord) (n : ℕ) → ordered_from r rs ≡ true → ordered_from r (others E bits rs ++ replicate n empty) ≡ true
  unfolding others ordered_from in_order
  padded-from r [] zero e = refl
  padded-from r [] (suc n) e = empties-from n
  padded-from r (x ∷ xs) n e = by (two (of_epoch E bits x)) (padded-from x xs n (from_cons r x xs e).1) (λ q. padded-from r xs n q)
    where
      by : Two (of_epoch E bits x) → ordered_from x (others E bits xs ++ replicate n empty) ≡ true
          → (ordered_from r xs ≡ true → ordered_from r (others E bits xs ++ replicate n empty) ≡ true) → ordered_from r (others E bits (x ∷ xs) ++ replicate n empty) ≡ true
      by (yes' t) a b = rw (others-gone x xs t) (b (from_past r x xs (epoch-held x t) e))
      by (no' t) a b = rw (others-stay x xs t) (cons-from r x (others E bits xs ++ replicate n empty) (from_cons r x xs e).0 a)

  padded-ordered : (rs : List KeyRecord) (n : ℕ) → ordered rs ≡ true → ordered (others E bits rs ++ replicate n empty) ≡ true
  unfolding others ordered
  padded-ordered [] zero e = refl
  padded-ordered [] (suc n) e = empties-from n
  padded-ordered (x ∷ xs) n e = by (two (of_epoch E bits x)) (padded-ordered xs n (ordered-rest x xs e))
    where
      by : Two (of_epoch E bits x) → ordered (others E bits xs ++ replicate n empty) ≡ true → ordered (others E bits (x ∷ xs) ++ replicate n empty) ≡ true
      by (yes' t) a = rw (others-gone x xs t) a
      by (no' t) a = rw (others-stay x xs t) (padded-from x xs n e)

  -- what is found of a Key ID: nothing where it was a receiving key of the epoch, else what was found before
  pub padded-get : (k : ℕ) (rs : List KeyRecord) (n : ℕ) → ordered rs ≡ true → get k (others E bits rs ++ replicate n empty) ≡ pick (of_epoch E bits (get k rs)) empty (get k rs)
  unfolding others ordered get
  padded-get k [] n e = empties-get k n ∙ sym (none-either (of_epoch E bits empty))
  padded-get k (x ∷ xs) n e = by (two (of_epoch E bits x)) (two (holds k x)) (padded-get k xs n (ordered-rest x xs e))
    where
      by : Two (of_epoch E bits x) → Two (holds k x) → get k (others E bits xs ++ replicate n empty) ≡ pick (of_epoch E bits (get k xs)) empty (get k xs)
          → get k (others E bits (x ∷ xs) ++ replicate n empty) ≡ pick (of_epoch E bits (get k (x ∷ xs))) empty (get k (x ∷ xs))
      by (yes' t) (yes' u) q =
          let none = none-behind k x xs e (λ h. omega (arith, holds-kid k x u)) in
          ap (λ (l : List KeyRecord). get k (l ++ replicate n empty)) (others-gone x xs t)
          ∙ q
          ∙ ap (λ (r : KeyRecord). pick (of_epoch E bits r) empty r) none
          ∙ none-either (of_epoch E bits empty)
          ∙ sym (ap (λ (r : KeyRecord). pick (of_epoch E bits r) empty r) (get-here k x xs u) ∙ ap (λ (b : Bool). pick b empty x) t)
      by (yes' t) (no' u) q =
          ap (λ (l : List KeyRecord). get k (l ++ replicate n empty)) (others-gone x xs t) ∙ q ∙ ap (λ (r : KeyRecord). pick (of_epoch E bits r) empty r) (sym (get-there k x xs u))
      by (no' t) (yes' u) q =
          ap (λ (l : List KeyRecord). get k (l ++ replicate n empty)) (others-stay x xs t)
          ∙ get-here k x (others E bits xs ++ replicate n empty) u
          ∙ sym (ap (λ (r : KeyRecord). pick (of_epoch E bits r) empty r) (get-here k x xs u) ∙ ap (λ (b : Bool). pick b empty x) t)
      by (no' t) (no' u) q =
          ap (λ (l : List KeyRecord). get k (l ++ replicate n empty)) (others-stay x xs t)
          ∙ get-there k x (others E bits xs ++ replicate n empty) u
          ∙ q
          ∙ ap (λ (r : KeyRecord). pick (of_epoch E bits r) empty r) (sym (get-there k x xs u))

  -- ---- the table afterwards

  pub record Swept (rs rs' : List KeyRecord) : Type 0 where
    pub table : Table rs'
    pub same_length : length rs' ≡ length rs
    pub found : (k : ℕ) → get k rs' ≡ pick (of_epoch E bits (get k rs)) empty (get k rs)

  pub swept : (rs : List KeyRecord) → Table rs → Swept rs (without_epoch E bits rs)
  unfolding without_epoch
  swept rs t =
      let n = length rs - length (others E bits rs) in
      let m = others-most rs in
      let l : length (others E bits rs ++ replicate n empty) ≡ length rs = simp (length-append, length-replicate) (omega arith) in
      record {
        table = changed-table rs (others E bits rs ++ replicate n empty) t l (padded-fit (others E bits rs) n (others-fit rs t.fit)) (padded-ordered rs n t.in_order_lem);
        same_length = l;
        found = λ k. padded-get k rs n t.in_order_lem;
      }

  -- ---- the call

  pub data EpochStep (s : List ℕ) (rs : List KeyRecord) (o : Outcome) : Type 0 where
    done : o.number ≡ 0 → Swept rs (without_epoch E bits rs) → Stored o.store (without_epoch E bits rs) → EpochStep s rs o
    refused : (o.number ≡ 0 → ⊥) → o.store ≡ s → EpochStep s rs o

  module _ (s : List ℕ) (rs : List KeyRecord) (t : Stored s rs) where
    epoch-on : change_epoch s E bits ≡ epoch_at true rs s E bits
    unfolding change_epoch
    epoch-on = ap₂ (λ (v : Bool) (x : List KeyRecord). epoch_at v x s E bits) (stored-sound s rs t) (stored-records s rs t)

    pub epoch-step : EpochStep s rs (change_epoch s E bits)
    unfolding epoch_at epoch_causes
    epoch-step = rw epoch-on (by (epoch_at true rs s E bits) (settle (epoch_causes true E bits) s [] (stored (encode_all (without_epoch E bits rs))) refl))
      where
        by : (o : Outcome) → Settled (epoch_causes true E bits) s [] (stored (encode_all (without_epoch E bits rs))) o → EpochStep s rs o
        by o (refusal d r) = refused (λ e. d (sym r.number_is ∙ e)) r.store-stays
        by o (success p q) =
            let c = swept rs t.table in
            done (ap (λ (x : Outcome). x.number) q) c (record { table = c.table; bytes-are = sym (ap (λ (x : Outcome). x.store) q) })

-- SPDX-License-Identifier: MIT
-- A table of empty records. Assumes nothing.
use mathlib.Core.Path.{◌≡◌, refl, ◌∙◌, ap}
use mathlib.Core.Bool.{true}
use mathlib.Core.List.{List, ◌++◌}
use Prim.Native.Nat.{ℕ, zero, suc, ◌+◌, ◌*◌}
use native.Mathlib.Omega.{arith}
use lib.ListN.{replicate, replicate-append-replicate}
use Rattle.key_record.specs.Layout.{record_size, encode}
use Rattle.key_record.specs.Record.{empty, holds, in_order}
use Rattle.store.specs.Store.{encode_all}
use Rattle.store.specs.Table.{get, ordered_from, ordered}
use Rattle.store.proofs.Stores.{AllFit}

pub zeros : (n : ℕ) → encode_all (replicate n empty) ≡ replicate (n * record_size) 0
unfolding encode_all encode
zeros zero = refl
zeros (suc n) =
    ap (λ (l : List ℕ). replicate {A = ℕ} record_size 0 ++ l) (zeros n)
    ∙ replicate-append-replicate {A = ℕ} record_size (n * record_size) 0
    ∙ ap (λ (k : ℕ). replicate {A = ℕ} k 0) next
  where
    next : record_size + n * record_size ≡ suc n * record_size
    next = omega arith

pub empties-fit : (n : ℕ) → AllFit (replicate n empty)
empties-fit zero = tt
empties-fit (suc n) = (tt, empties-fit n)

pub empties-from : (n : ℕ) → ordered_from empty (replicate n empty) ≡ true
unfolding ordered_from in_order
empties-from zero = refl
empties-from (suc n) = empties-from n

pub empties-ordered : (n : ℕ) → ordered (replicate n empty) ≡ true
unfolding ordered
empties-ordered zero = refl
empties-ordered (suc n) = empties-from n

pub empties-get : (kid n : ℕ) → get kid (replicate n empty) ≡ empty
unfolding get holds
empties-get kid zero = refl
empties-get kid (suc n) = empties-get kid n

-- SPDX-License-Identifier: MIT
-- The place of a KID, as the end of the records with lower ones. Assumes nothing.
use mathlib.Core.Path.{◌≡◌, refl, sym, ◌∙◌, ap}
use mathlib.Core.Bool.{Bool, true, false, false≢true}
use mathlib.Core.List.{List, []}
use Prim.Native.Nat.{ℕ, zero, suc, ◌/◌, ◌-◌, ◌<◌, ◌≤◌}
use native.Mathlib.Omega.{arith}
use lib.Dec.{ltb}
use lib.ListN.{length, get_or}
use borrow.Author.Tests.{ltb-true, ltb-false}
use Rattle.std.specs.Simd.{first_chunks}
use Rattle.std.specs.List.Sorted.{IsPartitionedBy, IsPartitionPoint}
use Rattle.answers.proofs.Basics.{Two, yes', no', two}
use Rattle.key_record.specs.Layout.{record_size, decode}
use Rattle.key_record.specs.Record.{empty}
use Rattle.key_record.specs.Inner.Rows.{precedes}
use Rattle.store.specs.Store.{decode_all, records, sound}
use Rattle.store.specs.Inner.Places.{rank}
use Rattle.store.proofs.Order.{rank_most, rank-above, rank_below}
use Rattle.store.proofs.Places.{records-count, sound-ordered}

chunk-at : (n : ℕ) (s : List ℕ) (i : ℕ) (d : List ℕ) → i < n → decode (get_or (first_chunks record_size n s) i d) ≡ get_or (decode_all n s) i empty
unfolding decode_all
chunk-at zero s i d h = absurd (omega arith)
chunk-at (suc n) s zero d h = refl
chunk-at (suc n) s (suc i) d h = chunk-at n _ i d (omega arith)

module _ (kid : ℕ) (s : List ℕ) (rows : List (List ℕ)) (is-sound : sound s ≡ true) (are : rows ≡ first_chunks record_size (length s / record_size) s) (count : length rows ≡ length s / record_size) where
  row-is : (i : ℕ) (d : List ℕ) → i < length rows → decode (get_or rows i d) ≡ get_or (records s) i empty
  unfolding records
  row-is i d h = ap (λ (r : List (List ℕ)). decode (get_or r i d)) are ∙ chunk-at (length s / record_size) s i d (omega arith)

  above : (i : ℕ) (d : List ℕ) → i < length rows → precedes kid (decode (get_or rows i d)) ≡ true → i < rank kid (records s)
  above i d h e = rank-above kid (records s) i (sound-ordered s is-sound) (ap (precedes kid) (sym (row-is i d h)) ∙ e)

  below : (i : ℕ) (d : List ℕ) → i < length rows → precedes kid (decode (get_or rows i d)) ≡ false → rank kid (records s) ≤ i
  below i d h e = rank_below kid (records s) i (ap (precedes kid) (sym (row-is i d h)) ∙ e)

  pub parted : IsPartitionedBy (λ (l : List ℕ). precedes kid (decode l)) rows
  parted i j d h k e = by (two (precedes kid (decode (get_or rows i d))))
    where
      by : Two (precedes kid (decode (get_or rows i d))) → precedes kid (decode (get_or rows i d)) ≡ true
      by (yes' t) = t
      by (no' t) = let a = above j d k e in let b = below i d (omega arith) t in absurd (omega arith)

  pub rank-is : (k : ℕ) → k ≤ length rows → IsPartitionPoint (λ (l : List ℕ). precedes kid (decode l) ≡ true) (λ (l : List ℕ). precedes kid (decode l) ≡ false) rows k → k ≡ rank kid (records s)
  rank-is zero m p = by (two (ltb 0 (length rows)))
    where
      n : length (records s) ≡ length s / record_size
      n = records-count s

      by : Two (ltb 0 (length rows)) → 0 ≡ rank kid (records s)
      by (yes' t) = let h = ltb-true 0 (length rows) t in let b = below 0 [] h (p.1 0 [] (omega arith) h) in omega arith
      by (no' t) = let h = ltb-false 0 (length rows) t in let b = rank_most kid (records s) in omega (arith, n, count)
  rank-is (suc k) m p = by (two (ltb (suc k) (length rows)))
    where
      n : length (records s) ≡ length s / record_size
      n = records-count s

      a : k < rank kid (records s)
      a = above k [] (omega arith) (p.0 k [] (omega arith) (omega arith))

      by : Two (ltb (suc k) (length rows)) → suc k ≡ rank kid (records s)
      by (yes' t) = let h = ltb-true (suc k) (length rows) t in let b = below (suc k) [] h (p.1 (suc k) [] (omega arith) h) in omega (arith, a)
      by (no' t) = let h = ltb-false (suc k) (length rows) t in let b = rank_most kid (records s) in omega (arith, a, n, count)

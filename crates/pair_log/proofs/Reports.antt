-- SPDX-License-Identifier: MIT
-- What is reported of a log, for those who use it. Assumes nothing.
use mathlib.Core.Path.{◌≡◌, sym, ◌∙◌, ap, ap₂}
use mathlib.Core.List.{List, [], ◌∷◌, ◌++◌}
use Prim.Native.Nat.{ℕ, suc, ◌+◌, ◌*◌, ◌/◌, ◌%◌, ◌^◌, ◌<◌, ◌≤◌}
use native.Mathlib.Nat.{mod-eq_of_lt}
use native.Mathlib.Omega.{arith}
use lib.Dec.{eqb, ltb}
use lib.ListN.{length, drop}
use lib.Seq.{drop_at, drop-drop}
use borrow.Author.Tests.{ltb-true, ltb-false, eqb-true, eqb-false}
use Rattle.octets.specs.Octets.{ascii, bytes, number}
use Rattle.octets.proofs.Laws.{bytes-length, number-add, number_append, number-bytes}
use Rattle.answers.specs.Answers.{first, settled}
use Rattle.answers.proofs.Basics.{Two, yes', no', two}
use Rattle.pair_log.specs.Pairs.{record_size, pairs, repeated}
use Rattle.pair_log.specs.Report.{max_log, digits, decimal, line, places, counted, pair_lines, listing, listing_of, report, written}
use Rattle.pair_log.specs.Inner.Listed.{max_report}
use Rattle.pair_log.proofs.Repeats.{repeated-half}
use Rattle.pair_log.proofs.Gathering.{pairs-length}
use Rattle.pair_log.proofs.Writing.{counted-length, listing-length, report-long, report-bad, report-whole}

-- a record that is written is read
pub pairs-written : (n kid ctr : ℕ) (log : List ℕ) → kid < 2 ^ 64 → ctr < 2 ^ 64 → pairs (suc n) (bytes 8 kid ++ (bytes 8 ctr ++ log)) ≡ (kid * 2 ^ 64 + ctr) ∷ pairs n log
unfolding pairs
pairs-written n kid ctr log h k =
    let b = bytes 8 kid in
    let c = bytes 8 ctr in
    let v : number 8 (b ++ (c ++ log)) ≡ kid = number_append 8 b (c ++ log) (omega (arith, bytes-length 8 kid)) ∙ number-bytes 8 kid ∙ mod-eq_of_lt h in
    let w : number 8 (c ++ log) ≡ ctr = number_append 8 c log (omega (arith, bytes-length 8 ctr)) ∙ number-bytes 8 ctr ∙ mod-eq_of_lt k in
    let d : drop 8 (b ++ (c ++ log)) ≡ c ++ log = drop_at b (c ++ log) 8 (bytes-length 8 kid) in
    let e : drop 16 (b ++ (c ++ log)) ≡ log = sym (drop-drop 8 8 (b ++ (c ++ log))) ∙ ap (drop 8) d ∙ drop_at c log 8 (bytes-length 8 ctr) in
    let f : number 16 (b ++ (c ++ log)) ≡ kid * 2 ^ 64 + ctr = number-add 8 8 (b ++ (c ++ log)) ∙ rw (v, d, w) in
    ap₂ (λ (a : ℕ) (r : List ℕ). a ∷ pairs n r) f e

-- the report of whole records, none of which stands twice
pub report-none : (log : List ℕ) → length log ≤ max_log → length log % record_size ≡ 0 → repeated (pairs (length log / record_size) log) ≡ []
    → report log ≡ line (ascii "records " ++ decimal (length log / record_size)) ++ line (ascii "repeated 0")
unfolding listing_of listing counted places digits pair_lines
report-none log h w e = sym (report-whole log h w) ∙ rw e

places-most : (x : ℕ) → places x ≤ 4
unfolding places
places-most x = by (two (ltb x 10)) (two (ltb x 100)) (two (ltb x 1000))
  where
    by : Two (ltb x 10) → Two (ltb x 100) → Two (ltb x 1000) → places x ≤ 4
    by (yes' a) b c = rw a (omega arith)
    by (no' a) (yes' b) c = rw (a, b) (omega arith)
    by (no' a) (no' b) (yes' c) = rw (a, b, c) (omega arith)
    by (no' a) (no' b) (no' c) = rw (a, b, c) (omega arith)

listing-most : (log : List ℕ) → length log ≤ max_log → length (listing_of log) ≤ max_report
unfolding listing_of
listing-most log h =
    let n = length log / record_size in
    let l = repeated (pairs n log) in
    let k = repeated-half (pairs n log) in
    let m = pairs-length n log in
    let e = listing-length n l in
    let f = counted-length (ascii "records ") n in
    let g = counted-length (ascii "repeated ") (length l) in
    let s : n ≤ 4096 = omega arith in
    omega (arith, e, f, g, places-most n, places-most (length l), k, m, s)

-- the longest report
pub report-most : (log : List ℕ) → length (report log) ≤ max_report
report-most log = by (two (ltb max_log (length log))) (two (eqb (length log % record_size) 0))
  where
    by : Two (ltb max_log (length log)) → Two (eqb (length log % record_size) 0) → length (report log) ≤ max_report
    by (yes' t) s = rw (← report-long log (ltb-true max_log (length log) t)) (omega arith)
    by (no' t) (yes' s) = rw (← report-whole log (ltb-false max_log (length log) t) (eqb-true (length log % record_size) 0 s)) (listing-most log (ltb-false max_log (length log) t))
    by (no' t) (no' s) = rw (← report-bad log (ltb-false max_log (length log) t) (eqb-false (length log % record_size) 0 s)) (omega arith)

-- what is written fits the room
written-fits : (text room : List ℕ) → (written text room).written ≤ length room
unfolding written first settled
written-fits text room = by (two (ltb (length room) (length text)))
  where
    by : Two (ltb (length room) (length text)) → (written text room).written ≤ length room
    by (yes' t) = rw t (omega arith)
    by (no' t) = rw t (ltb-false (length room) (length text) t)

pub reported-fits : (text room : List ℕ) (n k : ℕ) → length room ≡ k → n ≡ (written text room).written → n ≤ k
reported-fits text room n k e q = let h = written-fits text room in omega (arith, e, q, h)

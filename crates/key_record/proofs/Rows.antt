-- SPDX-License-Identifier: MIT
-- The bytes of a record obey their row just where the tests of them pass. Assumes nothing.
use mathlib.Core.Path.{◌≡◌, refl, sym, ◌∙◌, ap, ap₂}
use mathlib.Core.Bool.{Bool, true, false, false≢true}
use mathlib.Core.List.{List, [], ◌∷◌, ◌++◌, append_assoc, append-nil}
use Prim.Native.Nat.{ℕ, ◌+◌, ◌-◌, ◌^◌, ◌<◌, ◌≤◌}
use native.Mathlib.Omega.{arith}
use lib.Dec.{leb, eqb}
use lib.ListN.{length, length-append, get_or, take, drop, replicate, length-take, length-drop, length-replicate, take-append-drop, replicate-append-replicate, set, drop_of_length-le}
use lib.Seq.{take_at, drop_at, drop-drop, drop-append-le, take-add, take-take, take_all, length-take-le}
use borrow.Author.Tests.{leb-true, le-leb, eq-eqb, ne_eqb, eqb-true, eqb-false}
use Rattle.octets.specs.Octets.{Octets, number, bytes, pasted, same, pick, both}
use Rattle.octets.proofs.Laws.{bytes-length, bytes-number, number_lt, octets-drop, same_refl, same-eq}
use Rattle.window.specs.Window.{fresh, fits as in_order}
use Rattle.window.specs.declared.Window.{Window}
use Rattle.key_record.specs.Inner.Judging.{zero_in, holding_mark, counter_fits, window_fits, fields_fit}
use Rattle.key_record.specs.Layout.{record_size, key_room, sending_mark, receiving_mark, retired_mark, layout_version, spent_byte, window_bytes, ending, row, encode, counter_in, window_in, decode, fits, obeys, mark_at, suite_at, spent_at, version_at, kid_at, counter_at, salt_at, key_at, highest_at, mask_at}
use Rattle.key_record.specs.Record.{ceiling, KeyRecord, empty}
use Rattle.key_record.specs.Suites.{is_suite, key_size, salt_size}
use Rattle.answers.proofs.Basics.{Two, yes', no', two, both_true, both-and}
use Rattle.key_record.proofs.Codec.{window-length, row_read, read-sending, read-receiving, read-retired, read-empty}
use Rattle.key_record.proofs.Spent.{spent-none, TwoFields, receiving-fields, fields-receiving, fields-other, other-fields}
use Rattle.key_record.proofs.Suites.{key-size}
use Rattle.key_record.proofs.Zeros.{both_right}

pub bool_iff : (a b : Bool) → (a ≡ true → b ≡ true) → (b ≡ true → a ≡ true) → a ≡ b
bool_iff true b p q = sym (p refl)
bool_iff false true p q = q refl
bool_iff false false p q = refl

-- ---- a row and its parts

take-four : (l : List ℕ) → kid_at ≤ length l → take kid_at l ≡ get_or l mark_at 0 ∷ get_or l suite_at 0 ∷ get_or l spent_at 0 ∷ get_or l version_at 0 ∷ []
take-four [] h = absurd (omega arith)
take-four (a ∷ []) h = absurd (omega arith)
take-four (a ∷ b ∷ []) h = absurd (omega arith)
take-four (a ∷ b ∷ c ∷ []) h = absurd (omega arith)
take-four (a ∷ b ∷ c ∷ d ∷ l) h = refl

module _ (l : List ℕ) (n : length l ≡ record_size) where
  -- a record's bytes, field by field
  fields : l ≡ take kid_at l ++ (take 8 (drop kid_at l) ++ (take 8 (drop counter_at l) ++ (take salt_size (drop salt_at l) ++ drop key_at l)))
  fields =
      sym (take-append-drop kid_at l)
      ∙ ap (λ (t : List ℕ). take kid_at l ++ t)
      (sym (take-append-drop 8 (drop kid_at l)) ∙ ap (λ (t : List ℕ). take 8 (drop kid_at l) ++ t)
      (drop-drop 8 kid_at l ∙ sym (take-append-drop 8 (drop counter_at l)) ∙ ap (λ (t : List ℕ). take 8 (drop counter_at l) ++ t)
      (drop-drop 8 counter_at l ∙ sym (take-append-drop salt_size (drop salt_at l)) ∙ ap (λ (t : List ℕ). take salt_size (drop salt_at l) ++ t) (drop-drop salt_size salt_at l))))

  -- a row with those fields is those bytes
  row_is : (mark suite kid counter : ℕ) (salt key : List ℕ) (w : Window) → get_or l mark_at 0 ≡ mark → get_or l suite_at 0 ≡ suite → get_or l spent_at 0 ≡ spent_byte counter → get_or l version_at 0 ≡ layout_version
      → bytes 8 kid ≡ take 8 (drop kid_at l) → bytes 8 (counter - spent_byte counter) ≡ take 8 (drop counter_at l) → salt ≡ take salt_size (drop salt_at l) → key ++ ending key w ≡ drop key_at l
      → row mark suite kid counter salt key w ≡ l
  unfolding row
  row_is mark suite kid counter salt key w a b c d e f g h =
      rw (e, f, g, h, ← a, ← b)
      (sym (fields ∙ ap (λ (t : List ℕ). t ++ (take 8 (drop kid_at l) ++ (take 8 (drop counter_at l) ++ (take salt_size (drop salt_at l) ++ drop key_at l))))
      (take-four l (omega arith) ∙ (λ i. get_or l mark_at 0 ∷ get_or l suite_at 0 ∷ c i ∷ d i ∷ []))))

pub row-spent : (mark suite kid counter : ℕ) (salt key : List ℕ) (w : Window) → get_or (row mark suite kid counter salt key w) spent_at 0 ≡ spent_byte counter
unfolding row
row-spent mark suite kid counter salt key w = refl

row-version : (mark suite kid counter : ℕ) (salt key : List ℕ) (w : Window) → get_or (row mark suite kid counter salt key w) version_at 0 ≡ layout_version
unfolding row
row-version mark suite kid counter salt key w = refl

-- what ends a row
row-salt : (mark suite kid counter : ℕ) (salt key : List ℕ) (w : Window) → drop salt_at (row mark suite kid counter salt key w) ≡ salt ++ (key ++ ending key w)
unfolding row
row-salt mark suite kid counter salt key w =
    let r4 : List ℕ = salt ++ (key ++ ending key w) in
    let rest = counter - spent_byte counter in
    let r3 : List ℕ = bytes 8 rest ++ r4 in
    sym (drop-drop 8 8 (bytes 8 kid ++ r3)) ∙ ap (drop 8) (drop_at (bytes 8 kid) r3 8 (bytes-length 8 kid)) ∙ drop_at (bytes 8 rest) r4 8 (bytes-length 8 rest)

row-tail : (mark suite kid counter : ℕ) (salt key : List ℕ) (w : Window) → length salt ≡ salt_size → drop key_at (row mark suite kid counter salt key w) ≡ key ++ ending key w
row-tail mark suite kid counter salt key w e =
    sym (drop-drop salt_size salt_at (row mark suite kid counter salt key w)) ∙ ap (drop salt_size) (row-salt mark suite kid counter salt key w) ∙ drop_at salt (key ++ ending key w) salt_size e

-- a row with the next counter written over its own, while there is one
pub row-counter : (mark suite kid counter v : ℕ) (salt key : List ℕ) (w : Window) → spent_byte counter ≡ 0 → spent_byte v ≡ 0 → pasted (row mark suite kid counter salt key w) counter_at (bytes 8 v) ≡ row mark suite kid v salt key w
unfolding row pasted
row-counter mark suite kid counter v salt key w e f =
    let r4 : List ℕ = salt ++ (key ++ ending key w) in
    let r3 : List ℕ = bytes 8 (counter - spent_byte counter) ++ r4 in
    let front : List ℕ → List ℕ = λ (x : List ℕ). mark ∷ suite ∷ spent_byte counter ∷ layout_version ∷ x in
    let l : List ℕ = front (bytes 8 kid ++ r3) in
    let whole : v ≡ v - spent_byte v = omega arith in
    ap₂ (λ (x : List ℕ) (n : ℕ). front (x ++ (bytes 8 v ++ drop (counter_at + n) l))) (take_at (bytes 8 kid) r3 8 (bytes-length 8 kid)) (bytes-length 8 v)
    ∙ ap (λ (x : List ℕ). front (bytes 8 kid ++ (bytes 8 v ++ x))) (row-salt mark suite kid counter salt key w)
    ∙ ap₂ (λ (b n : ℕ). mark ∷ suite ∷ b ∷ layout_version ∷ (bytes 8 kid ++ (bytes 8 n ++ r4))) (e ∙ sym f) whole

-- a row whose last counter is used
pub row_last : (mark suite kid counter v : ℕ) (salt key : List ℕ) (w : Window) → spent_byte counter ≡ 0 → v ≡ counter + 1 → spent_byte v ≡ 1 → set (row mark suite kid counter salt key w) spent_at 1 ≡ row mark suite kid v salt key w
unfolding row
row_last mark suite kid counter v salt key w e q f =
    let r4 : List ℕ = salt ++ (key ++ ending key w) in
    let same_rest : counter - spent_byte counter ≡ v - spent_byte v = omega arith in
    ap₂ (λ (b n : ℕ). mark ∷ suite ∷ b ∷ layout_version ∷ (bytes 8 kid ++ (bytes 8 n ++ r4))) (sym f) same_rest

-- a row that was empty, field by field
pub row-start : (l x : List ℕ) (mark suite kid : ℕ) → l ≡ replicate record_size 0 → x ≡ pasted l kid_at (bytes 8 kid) → set (set (set x version_at layout_version) suite_at suite) mark_at mark ≡ row mark suite kid 0 (replicate salt_size 0) [] fresh
unfolding row ending window_bytes spent_byte pasted bytes
row-start l x mark suite kid e q =
    ap (λ (t : List ℕ). set (set (set t version_at layout_version) suite_at suite) mark_at mark) (q ∙ ap (λ (t : List ℕ). pasted t kid_at (bytes 8 kid)) e)

-- what stands before the salt
row_head : ℕ → ℕ → ℕ → ℕ → List ℕ
row_head mark suite kid counter = (mark ∷ suite ∷ spent_byte counter ∷ layout_version ∷ []) ++ (bytes 8 kid ++ bytes 8 (counter - spent_byte counter))

head-length : (mark suite kid counter : ℕ) → length (row_head mark suite kid counter) ≡ salt_at
unfolding row_head
head-length mark suite kid counter = simp (length-append, bytes-length)

row-parts : (mark suite kid counter : ℕ) (salt key : List ℕ) (w : Window) → row mark suite kid counter salt key w ≡ row_head mark suite kid counter ++ (salt ++ (key ++ ending key w))
unfolding row row_head
row-parts mark suite kid counter salt key w = simp append_assoc

pub row-salted : (mark suite kid counter : ℕ) (salt : List ℕ) (w : Window) → length salt ≡ salt_size
    → pasted (row mark suite kid counter (replicate salt_size 0) [] w) salt_at salt ≡ row mark suite kid counter salt [] w
unfolding pasted
row-salted mark suite kid counter salt w e =
    let zeros : List ℕ = replicate salt_size 0 in
    let l = row mark suite kid counter zeros [] w in
    let front : take salt_at l ≡ row_head mark suite kid counter = ap (take salt_at) (row-parts mark suite kid counter zeros [] w) ∙ take_at (row_head mark suite kid counter) (zeros ++ ([] ++ ending [] w)) salt_at (head-length mark suite kid counter) in
    let rest : drop (salt_at + length salt) l ≡ ending [] w = ap (λ (k : ℕ). drop (salt_at + k) l) e ∙ row-tail mark suite kid counter zeros [] w refl in
    ap₂ (λ (x y : List ℕ). x ++ (salt ++ y)) front rest ∙ sym (row-parts mark suite kid counter salt [] w)

zeros-drop : (j n : ℕ) → j ≤ n → drop j (replicate {A = ℕ} n 0) ≡ replicate (n - j) 0
zeros-drop j n h =
    let e : j + (n - j) ≡ n = omega arith in
    ap (λ (k : ℕ). drop j (replicate {A = ℕ} k 0)) (sym e)
    ∙ ap (drop j) (sym (replicate-append-replicate {A = ℕ} j (n - j) 0))
    ∙ drop_at (replicate j 0) (replicate (n - j) 0) j (length-replicate {A = ℕ} j 0)

-- what follows a key that takes the place of zeros
ending-keyed : (key : List ℕ) (w : Window) → length key ≤ key_room → drop (length key) (ending [] w) ≡ ending key w
unfolding ending
ending-keyed key w h =
    drop-append-le (length key) (replicate key_room 0) (window_bytes w) (rw (length-replicate {A = ℕ} key_room 0) h)
    ∙ ap (λ (t : List ℕ). t ++ window_bytes w) (zeros-drop (length key) key_room h)

pub row-keyed : (mark suite kid counter : ℕ) (salt key : List ℕ) (w : Window) → length salt ≡ salt_size → length key ≤ key_room
    → pasted (row mark suite kid counter salt [] w) key_at key ≡ row mark suite kid counter salt key w
unfolding pasted
row-keyed mark suite kid counter salt key w e h =
    let l = row mark suite kid counter salt [] w in
    let hd = row_head mark suite kid counter in
    let n : length (hd ++ salt) ≡ key_at = length-append hd salt ∙ ap₂ ◌+◌ (head-length mark suite kid counter) e in
    let front : take key_at l ≡ hd ++ salt = ap (take key_at) (row-parts mark suite kid counter salt [] w ∙ sym (append_assoc hd salt (ending [] w))) ∙ take_at (hd ++ salt) (ending [] w) key_at n in
    let rest : drop (key_at + length key) l ≡ ending key w =
    sym (drop-drop (length key) key_at l) ∙ ap (drop (length key)) (row-tail mark suite kid counter salt [] w e) ∙ ending-keyed key w h
    in
    ap₂ (λ (x y : List ℕ). x ++ (key ++ y)) front rest
    ∙ append_assoc hd salt (key ++ ending key w)
    ∙ sym (row-parts mark suite kid counter salt key w)

-- what stands before the window
row_front : ℕ → ℕ → ℕ → ℕ → List ℕ → List ℕ → List ℕ
row_front mark suite kid counter salt key = row_head mark suite kid counter ++ (salt ++ (key ++ replicate (key_room - length key) 0))

front_length : (mark suite kid counter : ℕ) (salt key : List ℕ) → length salt ≡ salt_size → length key ≤ key_room → length (row_front mark suite kid counter salt key) ≡ highest_at
unfolding row_front
front_length mark suite kid counter salt key e h = let n = head-length mark suite kid counter in simp (length-append, length-replicate) (omega arith)

row-front : (mark suite kid counter : ℕ) (salt key : List ℕ) (w : Window) → row mark suite kid counter salt key w ≡ row_front mark suite kid counter salt key ++ window_bytes w
unfolding row_front ending
row-front mark suite kid counter salt key w = row-parts mark suite kid counter salt key w ∙ simp append_assoc

-- a row with another window written over its own
pub row-windowed : (mark suite kid counter : ℕ) (salt key : List ℕ) (w v : Window) → length salt ≡ salt_size → length key ≤ key_room
    → pasted (row mark suite kid counter salt key w) highest_at (window_bytes v) ≡ row mark suite kid counter salt key v
unfolding pasted
row-windowed mark suite kid counter salt key w v e h =
    let l = row mark suite kid counter salt key w in
    let f = row_front mark suite kid counter salt key in
    let n = front_length mark suite kid counter salt key e h in
    let front : take highest_at l ≡ f = ap (take highest_at) (row-front mark suite kid counter salt key w) ∙ take_at f (window_bytes w) highest_at n in
    let whole : length l ≡ highest_at + length (window_bytes v) =
    ap length (row-front mark suite kid counter salt key w) ∙ length-append f (window_bytes w) ∙ ap₂ ◌+◌ n (window-length w ∙ sym (window-length v))
    in
    let rest : drop (highest_at + length (window_bytes v)) l ≡ [] = drop_of_length-le l {i = highest_at + length (window_bytes v)} (omega arith) in
    ap₂ (λ (x y : List ℕ). x ++ (window_bytes v ++ y)) front rest ∙ ap (λ (t : List ℕ). f ++ t) (append-nil (window_bytes v)) ∙ sym (row-front mark suite kid counter salt key v)

-- a list of zeros is as many zeros as it is long
zeros-are : (x : List ℕ) (j : ℕ) → x ≡ replicate j 0 → replicate (length x) 0 ≡ x
zeros-are x j e = ap (λ (k : ℕ). replicate {A = ℕ} k 0) (ap length e ∙ length-replicate {A = ℕ} j 0) ∙ sym e

-- ---- the tests of a non-empty record's bytes

-- a record's bytes from a place up to the window
abbrev up_to : ℕ → List ℕ → List ℕ
up_to from l = take (highest_at - from) (drop from l)

-- where the zeros begin that end at the window, by mark and suite
unfoldable zeros_from : ℕ → ℕ → ℕ
zeros_from mark suite = pick (eqb mark retired_mark) salt_at (key_at + key_size suite)

abbrev zeros_begin : List ℕ → ℕ
zeros_begin l = zeros_from (get_or l mark_at 0) (get_or l suite_at 0)

-- the tests that a record's bytes pass
abbrev zeros_end : List ℕ → Bool
zeros_end l = same (replicate (length (up_to (zeros_begin l) l)) 0) (up_to (zeros_begin l) l)

record Passes (l : List ℕ) : Type 0 where
  suite-known : is_suite (get_or l suite_at 0) ≡ true
  version-is : get_or l version_at 0 ≡ layout_version
  counter-fits : counter_fits (get_or l mark_at 0) (get_or l spent_at 0) (number 8 (drop counter_at l)) ≡ true
  window-fits : window_fits (get_or l mark_at 0) (window_in l) ≡ true
  zeros-end : replicate (length (up_to (zeros_begin l) l)) 0 ≡ up_to (zeros_begin l) l

tests-pass : (l : List ℕ) → both (fields_fit l) (zeros_end l) ≡ true → Passes l
unfolding fields_fit
tests-pass l e =
    let counted = counter_fits (get_or l mark_at 0) (get_or l spent_at 0) (number 8 (drop counter_at l)) in
    let told = window_fits (get_or l mark_at 0) (window_in l) in
    let a = both_true (fields_fit l) (zeros_end l) e in
    let b = both_true (is_suite (get_or l suite_at 0)) (both (eqb (get_or l version_at 0) layout_version) (both counted told)) a.0 in
    let c = both_true (eqb (get_or l version_at 0) layout_version) (both counted told) b.1 in
    let d = both_true counted told c.1 in
    record {
      suite-known = b.0;
      version-is = eqb-true (get_or l version_at 0) layout_version c.0;
      counter-fits = d.0;
      window-fits = d.1;
      zeros-end = same-eq _ _ a.1;
    }

pass-tests : (l : List ℕ) → Passes l → both (fields_fit l) (zeros_end l) ≡ true
unfolding fields_fit
pass-tests l p =
    both-and _ _
    (both-and _ _ p.suite-known (both-and _ _ (eq-eqb (get_or l version_at 0) layout_version p.version-is) (both-and _ _ p.counter-fits p.window-fits)))
    (ap (λ (t : List ℕ). same t (up_to (zeros_begin l) l)) p.zeros-end ∙ same_refl (up_to (zeros_begin l) l))

-- the bytes between two places, and then up to the window
drop-part : (m n : ℕ) (l : List ℕ) → m ≤ length l → drop m (take (m + n) l) ≡ take n (drop m l)
drop-part m n l h = ap (drop m) (take-add m n l) ∙ drop_at (take m l) (take n (drop m l)) m (length-take-le m l h)

module _ (mark : ℕ) (w : Window) where
  -- a window that fits a record which is not for receiving is one that has opened none
  none_told : (mark ≡ receiving_mark → ⊥) → window_fits mark w ≡ true → w ≡ fresh
  unfolding window_fits
  none_told d e =
      let t = both_true (eqb w.highest 0) (eqb w.mask 0) (rw (ne_eqb mark receiving_mark d) at e) in
      let p = eqb-true w.highest 0 t.0 in
      let q = eqb-true w.mask 0 t.1 in
      (λ i. record { highest = p i; mask = q i })

  told_none : (mark ≡ receiving_mark → ⊥) → w ≡ fresh → window_fits mark w ≡ true
  unfolding window_fits
  told_none d e = rw (ne_eqb mark receiving_mark d, e)

  told-in-order : mark ≡ receiving_mark → in_order w ≡ true → window_fits mark w ≡ true
  unfolding window_fits
  told-in-order m e = rw m e

  in-order-told : mark ≡ receiving_mark → window_fits mark w ≡ true → in_order w ≡ true
  unfolding window_fits
  in-order-told m e = rw m at e

module _ (l : List ℕ) (o : Octets l) (n : length l ≡ record_size) where
  part-is : (i : ℕ) → i + 8 ≤ record_size → bytes 8 (number 8 (drop i l)) ≡ take 8 (drop i l)
  part-is i h = bytes-number 8 (drop i l) (octets-drop i l o) (simp length-drop (omega arith))

  window-end : window_bytes (window_in l) ≡ drop highest_at l
  unfolding window_bytes window_in
  window-end =
      let rest : take 8 (drop mask_at l) ≡ drop 8 (drop highest_at l) = take_all 8 (drop mask_at l) (simp length-drop (omega arith)) ∙ sym (drop-drop 8 highest_at l) in
      ap₂ (λ (x y : List ℕ). x ++ y) (part-is highest_at (omega arith)) (part-is mask_at (omega arith) ∙ rest) ∙ take-append-drop 8 (drop highest_at l)

  -- the key, the zeros behind it and the window are what a record ends in
  end-join : (key : List ℕ) (w : Window) → key ++ replicate (key_room - length key) 0 ≡ take key_room (drop key_at l) → window_in l ≡ w → key ++ ending key w ≡ drop key_at l
  unfolding ending
  end-join key w e q =
      sym (append_assoc key (replicate (key_room - length key) 0) (window_bytes w))
      ∙ ap₂ (λ (x y : List ℕ). x ++ y) e (ap window_bytes (sym q) ∙ window-end ∙ sym (drop-drop key_room key_at l))
      ∙ take-append-drop key_room (drop key_at l)

  salt-length : length (take salt_size (drop salt_at l)) ≡ salt_size
  salt-length = simp (length-take, length-drop) (omega arith)

  key-length : length (take (key_size (get_or l suite_at 0)) (drop key_at l)) ≡ key_size (get_or l suite_at 0)
  key-length = let s = key-size (get_or l suite_at 0) in simp (length-take, length-drop) (omega arith)

  key-most : length (take (key_size (get_or l suite_at 0)) (drop key_at l)) ≤ key_room
  key-most = rw key-length (key-size (get_or l suite_at 0))

  -- between a key of k bytes and the window
  gap : (k : ℕ) → highest_at - (key_at + k) ≡ key_room - k
  gap k = omega arith

  gap_length : (k : ℕ) → length (up_to (key_at + k) l) ≡ key_room - k
  gap_length k = ap (λ (j : ℕ). length (take j (drop (key_at + k) l))) (gap k) ∙ length-take-le (key_room - k) (drop (key_at + k) l) (rw length-drop (omega arith))

  key-end : (w : Window) → replicate (length (up_to (key_at + key_size (get_or l suite_at 0)) l)) 0 ≡ up_to (key_at + key_size (get_or l suite_at 0)) l → window_in l ≡ w
      → take (key_size (get_or l suite_at 0)) (drop key_at l) ++ ending (take (key_size (get_or l suite_at 0)) (drop key_at l)) w ≡ drop key_at l
  key-end w e q =
      let k = key_size (get_or l suite_at 0) in
      let key = take k (drop key_at l) in
      let s = key-size (get_or l suite_at 0) in
      let whole : k + (key_room - k) ≡ key_room = omega arith in
      let same_length : key_room - length key ≡ length (up_to (key_at + k) l) = ap (λ (j : ℕ). key_room - j) key-length ∙ sym (gap_length k) in
      let zeros : replicate (key_room - length key) 0 ≡ take (key_room - k) (drop k (drop key_at l)) =
      ap (λ (j : ℕ). replicate {A = ℕ} j 0) same_length ∙ e ∙ ap₂ (λ (j : ℕ) (x : List ℕ). take j x) (gap k) (sym (drop-drop k key_at l))
      in
      end-join key w (ap (λ (t : List ℕ). key ++ t) zeros ∙ sym (take-add k (key_room - k) (drop key_at l)) ∙ ap (λ (j : ℕ). take j (drop key_at l)) whole) q

  both-tests : (x : List ℕ) (f : Bool) → x ≡ l → f ≡ true → both (same x l) f ≡ true
  both-tests x f p q = both-and (same x l) f (ap (λ (t : List ℕ). same t l) p ∙ same_refl l) q

  -- the two fields of the next counter of a record that is not for receiving
  two_fields : (get_or l mark_at 0 ≡ receiving_mark → ⊥) → Passes l → TwoFields (get_or l spent_at 0) (number 8 (drop counter_at l))
  two_fields d p = fields-other (get_or l mark_at 0) (get_or l spent_at 0) (number 8 (drop counter_at l)) d (number_lt 8 (drop counter_at l) (octets-drop counter_at l o)) p.counter-fits

  -- and the bytes of its number
  rest-bytes : (f : TwoFields (get_or l spent_at 0) (number 8 (drop counter_at l))) → bytes 8 (counter_in l - spent_byte (counter_in l)) ≡ take 8 (drop counter_at l)
  unfolding counter_in
  rest-bytes f = ap (bytes 8) f.rest-is ∙ part-is counter_at (omega arith)

  spent-there : (f : TwoFields (get_or l spent_at 0) (number 8 (drop counter_at l))) → (get_or l spent_at 0 ≡ spent_byte (counter_in l)) × (counter_in l ≤ ceiling)
  unfolding counter_in
  spent-there f = (f.byte-is, f.most)

  sending-passes : get_or l mark_at 0 ≡ sending_mark → Passes l → obeys l ≡ true
  unfolding obeys encode fits zeros_from
  sending-passes m p =
      let f = two_fields (λ e. omega arith) p in
      let s = spent-there f in
      let suite = get_or l suite_at 0 in
      let kid = number 8 (drop kid_at l) in
      let counter = counter_in l in
      let salt = take salt_size (drop salt_at l) in
      let key = take (key_size (get_or l suite_at 0)) (drop key_at l) in
      let v = none_told (get_or l mark_at 0) (window_in l) (λ e. omega arith) p.window-fits in
      rw (read-sending l m)
      (both-tests (row sending_mark suite kid counter salt key fresh) _
      (row_is l n sending_mark suite kid counter salt key fresh m refl s.0 p.version-is (part-is kid_at (omega arith)) (rest-bytes f) refl (key-end fresh (rw m at p.zeros-end) v))
      (both-and _ _ p.suite-known (le-leb counter ceiling s.1)))

  receiving-passes : get_or l mark_at 0 ≡ receiving_mark → Passes l → obeys l ≡ true
  unfolding obeys encode fits zeros_from
  receiving-passes m p =
      let suite = get_or l suite_at 0 in
      let kid = number 8 (drop kid_at l) in
      let salt = take salt_size (drop salt_at l) in
      let key = take (key_size (get_or l suite_at 0)) (drop key_at l) in
      let z = receiving-fields (get_or l mark_at 0) (get_or l spent_at 0) (number 8 (drop counter_at l)) m p.counter-fits in
      let none-spent = spent-none 0 (λ e. omega arith) in
      let zero-counter : 0 - spent_byte 0 ≡ number 8 (drop counter_at l) = omega (arith, z.1) in
      rw (read-receiving l m)
      (both-tests (row receiving_mark suite kid 0 salt key (window_in l)) _
      (row_is l n receiving_mark suite kid 0 salt key (window_in l) m refl (z.0 ∙ sym none-spent) p.version-is (part-is kid_at (omega arith)) (ap (bytes 8) zero-counter ∙ part-is counter_at (omega arith)) refl (key-end (window_in l) (rw m at p.zeros-end) refl))
      (both-and _ _ p.suite-known (in-order-told (get_or l mark_at 0) (window_in l) m p.window-fits)))

  retired-passes : get_or l mark_at 0 ≡ retired_mark → Passes l → obeys l ≡ true
  unfolding obeys encode fits zeros_from
  retired-passes m p =
      let f = two_fields (λ e. omega arith) p in
      let s = spent-there f in
      let suite = get_or l suite_at 0 in
      let kid = number 8 (drop kid_at l) in
      let counter = counter_in l in
      let v = none_told (get_or l mark_at 0) (window_in l) (λ e. omega arith) p.window-fits in
      let k : length (up_to salt_at l) ≡ highest_at - salt_at = simp (length-take, length-drop) (omega arith) in
      let z : replicate (highest_at - salt_at) 0 ≡ up_to salt_at l = ap (λ (j : ℕ). replicate {A = ℕ} j 0) (sym k) ∙ (rw m at p.zeros-end) in
      let salt : replicate salt_size 0 ≡ take salt_size (drop salt_at l) = ap (take salt_size) z ∙ take-take salt_size (highest_at - salt_at) (drop salt_at l) (omega arith) in
      let key : replicate key_room 0 ≡ take key_room (drop key_at l) =
      ap (drop salt_size) z ∙ drop-part salt_size key_room (drop salt_at l) (simp length-drop (omega arith)) ∙ ap (take key_room) (drop-drop salt_size salt_at l)
      in
      rw (read-retired l m)
      (both-tests (row retired_mark suite kid counter (replicate salt_size 0) [] fresh) _
      (row_is l n retired_mark suite kid counter (replicate salt_size 0) [] fresh m refl s.0 p.version-is (part-is kid_at (omega arith)) (rest-bytes f) salt (end-join [] fresh key v))
      (both-and _ _ p.suite-known (le-leb counter ceiling s.1)))

  -- ---- and the other way round

  module _ (mark suite kid counter : ℕ) (salt key : List ℕ) (v : Window) (w : row mark suite kid counter salt key v ≡ l) where
    spent-is : get_or l spent_at 0 ≡ spent_byte counter
    spent-is = ap (λ (t : List ℕ). get_or t spent_at 0) (sym w) ∙ row-spent mark suite kid counter salt key v

    version-there : get_or l version_at 0 ≡ layout_version
    version-there = ap (λ (t : List ℕ). get_or t version_at 0) (sym w) ∙ row-version mark suite kid counter salt key v

    end_is : length salt ≡ salt_size → length key ≤ key_room → replicate (length (up_to (key_at + length key) l)) 0 ≡ up_to (key_at + length key) l
    unfolding ending
    end_is e h =
        let zeros : List ℕ = replicate (key_room - length key) 0 in
        let rest : drop (key_at + length key) l ≡ zeros ++ window_bytes v =
        sym (drop-drop (length key) key_at l) ∙ ap (drop (length key)) (ap (drop key_at) (sym w) ∙ row-tail mark suite kid counter salt key v e) ∙ drop_at key (zeros ++ window_bytes v) (length key) refl
        in
        zeros-are (up_to (key_at + length key) l) (key_room - length key)
        (ap₂ (λ (j : ℕ) (x : List ℕ). take j x) (gap (length key)) rest ∙ take_at zeros (window_bytes v) (key_room - length key) (length-replicate {A = ℕ} (key_room - length key) 0))

  -- two fields that are written back as they are fit
  written-fits : (get_or l mark_at 0 ≡ receiving_mark → ⊥) → get_or l spent_at 0 ≡ spent_byte (counter_in l) → counter_fits (get_or l mark_at 0) (get_or l spent_at 0) (number 8 (drop counter_at l)) ≡ true
  unfolding counter_in
  written-fits d e = other-fields (get_or l mark_at 0) (get_or l spent_at 0) (number 8 (drop counter_at l)) d e

  kid-below : number 8 (drop kid_at l) < 2 ^ 64
  kid-below = number_lt 8 (drop kid_at l) (octets-drop kid_at l o)

  -- bytes that end in a window which has opened none
  written-fresh : (mark suite counter : ℕ) (salt key : List ℕ) → (get_or l mark_at 0 ≡ receiving_mark → ⊥) → row mark suite (number 8 (drop kid_at l)) counter salt key fresh ≡ l
      → counter ≤ ceiling → length salt ≡ salt_size → length key ≤ key_room → window_fits (get_or l mark_at 0) (window_in l) ≡ true
  written-fresh mark suite counter salt key d w c e h =
      let r = row_read mark suite (number 8 (drop kid_at l)) counter salt key fresh kid-below c e in
      told_none (get_or l mark_at 0) (window_in l) d (ap window_in (sym w) ∙ r.window-is h (omega arith) (omega arith))

  passes-sending : get_or l mark_at 0 ≡ sending_mark → obeys l ≡ true → Passes l
  unfolding obeys encode fits zeros_from
  passes-sending m e =
      let q : both (same (encode (decode l)) l) (fits (decode l)) ≡ true = e in
      let kid = number 8 (drop kid_at l) in
      let counter = counter_in l in
      let salt = take salt_size (drop salt_at l) in
      let key = take (key_size (get_or l suite_at 0)) (drop key_at l) in
      let r = row sending_mark (get_or l suite_at 0) kid counter salt key fresh in
      let t = both_true (same r l) (both (is_suite (get_or l suite_at 0)) (leb counter ceiling)) (rw (read-sending l m) at q) in
      let f = both_true (is_suite (get_or l suite_at 0)) (leb counter ceiling) t.1 in
      let w : r ≡ l = same-eq r l t.0 in
      record {
        suite-known = f.0;
        version-is = version-there sending_mark (get_or l suite_at 0) kid counter salt key fresh w;
        counter-fits = written-fits (λ e. omega arith) (spent-is sending_mark (get_or l suite_at 0) kid counter salt key fresh w);
        window-fits = written-fresh sending_mark (get_or l suite_at 0) counter salt key (λ e. omega arith) w (leb-true counter ceiling f.1) salt-length key-most;
        zeros-end = rw m (rw key-length at (end_is sending_mark (get_or l suite_at 0) kid counter salt key fresh w salt-length key-most));
      }

  none-counted : counter_in l ≡ 0 → number 8 (drop counter_at l) ≡ 0
  unfolding counter_in
  none-counted e = omega arith

  passes-receiving : get_or l mark_at 0 ≡ receiving_mark → obeys l ≡ true → Passes l
  unfolding obeys encode fits zeros_from
  passes-receiving m e =
      let q : both (same (encode (decode l)) l) (fits (decode l)) ≡ true = e in
      let kid = number 8 (drop kid_at l) in
      let salt = take salt_size (drop salt_at l) in
      let key = take (key_size (get_or l suite_at 0)) (drop key_at l) in
      let r = row receiving_mark (get_or l suite_at 0) kid 0 salt key (window_in l) in
      let t = both_true (same r l) (both (is_suite (get_or l suite_at 0)) (in_order (window_in l))) (rw (read-receiving l m) at q) in
      let f = both_true (is_suite (get_or l suite_at 0)) (in_order (window_in l)) t.1 in
      let w : r ≡ l = same-eq r l t.0 in
      let c = (row_read receiving_mark (get_or l suite_at 0) kid 0 salt key (window_in l) kid-below (omega arith) salt-length).counter-is in
      let z : counter_in l ≡ 0 = ap counter_in (sym w) ∙ c in
      let s : get_or l spent_at 0 ≡ 0 = spent-is receiving_mark (get_or l suite_at 0) kid 0 salt key (window_in l) w ∙ spent-none 0 (λ e. omega arith) in
      record {
        suite-known = f.0;
        version-is = version-there receiving_mark (get_or l suite_at 0) kid 0 salt key (window_in l) w;
        counter-fits = fields-receiving (get_or l mark_at 0) (get_or l spent_at 0) (number 8 (drop counter_at l)) m s (none-counted z);
        window-fits = told-in-order (get_or l mark_at 0) (window_in l) m f.1;
        zeros-end = rw m (rw key-length at (end_is receiving_mark (get_or l suite_at 0) kid 0 salt key (window_in l) w salt-length key-most));
      }

  -- what stands between the counter and the window of a retired record
  retired-zeros : (v : Window) → take (highest_at - salt_at) (replicate salt_size 0 ++ ([] ++ ending [] v)) ≡ replicate (highest_at - salt_at) 0
  unfolding ending
  retired-zeros v = refl

  passes-retired : get_or l mark_at 0 ≡ retired_mark → obeys l ≡ true → Passes l
  unfolding obeys encode fits zeros_from
  passes-retired m e =
      let q : both (same (encode (decode l)) l) (fits (decode l)) ≡ true = e in
      let kid = number 8 (drop kid_at l) in
      let counter = counter_in l in
      let salt : List ℕ = replicate salt_size 0 in
      let r = row retired_mark (get_or l suite_at 0) kid counter salt [] fresh in
      let t = both_true (same r l) (both (is_suite (get_or l suite_at 0)) (leb counter ceiling)) (rw (read-retired l m) at q) in
      let f = both_true (is_suite (get_or l suite_at 0)) (leb counter ceiling) t.1 in
      let w : r ≡ l = same-eq r l t.0 in
      record {
        suite-known = f.0;
        version-is = version-there retired_mark (get_or l suite_at 0) kid counter salt [] fresh w;
        counter-fits = written-fits (λ e. omega arith) (spent-is retired_mark (get_or l suite_at 0) kid counter salt [] fresh w);
        window-fits = written-fresh retired_mark (get_or l suite_at 0) counter salt [] (λ e. omega arith) w (leb-true counter ceiling f.1) refl (omega arith);
        zeros-end =
            rw m (zeros-are (up_to salt_at l) (highest_at - salt_at)
            (ap (take (highest_at - salt_at)) (ap (drop salt_at) (sym w) ∙ row-salt retired_mark (get_or l suite_at 0) kid counter salt [] fresh) ∙ retired-zeros fresh));
      }

  -- the tests of a record that is not empty
  held-marks : holding_mark (get_or l mark_at 0) ≡ true → obeys l ≡ both (fields_fit l) (zeros_end l)
  unfolding holding_mark
  held-marks h = bool_iff (obeys l) (both (fields_fit l) (zeros_end l)) (λ e. pass-tests l (there e (two (eqb (get_or l mark_at 0) sending_mark)) (two (eqb (get_or l mark_at 0) receiving_mark)))) (λ e. back (tests-pass l e) (two (eqb (get_or l mark_at 0) sending_mark)) (two (eqb (get_or l mark_at 0) receiving_mark)))
    where
      range : (sending_mark ≤ get_or l mark_at 0) × (get_or l mark_at 0 ≤ retired_mark)
      range = let t = both_true (leb sending_mark (get_or l mark_at 0)) (leb (get_or l mark_at 0) retired_mark) h in (leb-true sending_mark (get_or l mark_at 0) t.0, leb-true (get_or l mark_at 0) retired_mark t.1)

      last : eqb (get_or l mark_at 0) sending_mark ≡ false → eqb (get_or l mark_at 0) receiving_mark ≡ false → get_or l mark_at 0 ≡ retired_mark
      last a b = omega (arith, range.0, range.1, eqb-false (get_or l mark_at 0) sending_mark a, eqb-false (get_or l mark_at 0) receiving_mark b)

      there : obeys l ≡ true → Two (eqb (get_or l mark_at 0) sending_mark) → Two (eqb (get_or l mark_at 0) receiving_mark) → Passes l
      there e (yes' a) b = passes-sending (eqb-true (get_or l mark_at 0) sending_mark a) e
      there e (no' a) (yes' b) = passes-receiving (eqb-true (get_or l mark_at 0) receiving_mark b) e
      there e (no' a) (no' b) = passes-retired (last a b) e

      back : Passes l → Two (eqb (get_or l mark_at 0) sending_mark) → Two (eqb (get_or l mark_at 0) receiving_mark) → obeys l ≡ true
      back p (yes' a) b = sending-passes (eqb-true (get_or l mark_at 0) sending_mark a) p
      back p (no' a) (yes' b) = receiving-passes (eqb-true (get_or l mark_at 0) receiving_mark b) p
      back p (no' a) (no' b) = retired-passes (last a b) p

  -- ---- the steps of judging

  -- an empty record
  pub judged-empty : (b : Bool) → get_or l mark_at 0 ≡ 0 → b ≡ same (replicate (length l) 0) l → b ≡ obeys l
  unfolding obeys encode fits
  judged-empty b m e =
      e ∙ ap (λ (k : ℕ). same (replicate k 0) l) n
      ∙ sym (ap (λ (r : KeyRecord). both (same (encode r) l) (fits r)) (read-empty l (λ a. omega arith) (λ a. omega arith) (λ a. omega arith)) ∙ both_right (same (replicate record_size 0) l))

  -- a record with no byte 0 that is known
  pub judged-unknown : (get_or l mark_at 0 ≡ 0 → ⊥) → holding_mark (get_or l mark_at 0) ≡ false → false ≡ obeys l
  unfolding obeys encode fits holding_mark
  judged-unknown d h = by (obeys l) refl
    where
      not-held : (k : ℕ) → holding_mark k ≡ true → get_or l mark_at 0 ≡ k → ⊥
      not-held k q e = false≢true (sym h ∙ ap holding_mark e ∙ q)

      is-empty : decode l ≡ empty
      is-empty = read-empty l (not-held sending_mark refl) (not-held receiving_mark refl) (not-held retired_mark refl)

      by : (b : Bool) → obeys l ≡ b → false ≡ obeys l
      by false e = sym e
      by true e =
          let t = both_true (same (encode (decode l)) l) (fits (decode l)) e in
          let w : replicate record_size 0 ≡ l = sym (ap encode is-empty) ∙ same-eq (encode (decode l)) l t.0 in
          absurd (d (ap (λ (x : List ℕ). get_or x mark_at 0) (sym w)))

  pub judged-fields : holding_mark (get_or l mark_at 0) ≡ true → fields_fit l ≡ false → false ≡ obeys l
  judged-fields h f = sym (held-marks h ∙ ap (λ (b : Bool). both b (zeros_end l)) f)

  -- a record whose fields fit, by the zeros that end at the window
  judged-end : (b : Bool) (from : ℕ) → holding_mark (get_or l mark_at 0) ≡ true → fields_fit l ≡ true → from ≡ zeros_begin l → b ≡ zero_in from (highest_at - from) l → b ≡ obeys l
  unfolding zero_in
  judged-end b from h f e q =
      let k : highest_at - zeros_begin l ≡ length (up_to (zeros_begin l) l) = simp (length-take, length-drop) (omega arith) in
      q ∙ ap (λ (k : ℕ). zero_in k (highest_at - k) l) e
      ∙ ap (λ (k : ℕ). same (replicate k 0) (up_to (zeros_begin l) l)) k
      ∙ sym (held-marks h ∙ ap (λ (b : Bool). both b (zeros_end l)) f)

  pub judged-wiped : (b : Bool) → holding_mark (get_or l mark_at 0) ≡ true → fields_fit l ≡ true → get_or l mark_at 0 ≡ retired_mark → b ≡ zero_in salt_at (highest_at - salt_at) l → b ≡ obeys l
  unfolding zeros_from
  judged-wiped b h f m q = judged-end b salt_at h f (rw m) q

  pub judged-key : (b : Bool) → holding_mark (get_or l mark_at 0) ≡ true → fields_fit l ≡ true → (get_or l mark_at 0 ≡ retired_mark → ⊥)
      → b ≡ zero_in (key_at + key_size (get_or l suite_at 0)) (highest_at - (key_at + key_size (get_or l suite_at 0))) l → b ≡ obeys l
  unfolding zeros_from
  judged-key b h f d q = judged-end b (key_at + key_size (get_or l suite_at 0)) h f (rw (ne_eqb (get_or l mark_at 0) retired_mark d)) q

-- SPDX-License-Identifier: MIT
-- One record's bytes, read and written in decoded values. Assumes nothing.
use Rattle.std.specs.Prelude.{Option, Some, None}
use mathlib.Core.Path.{◌≡◌, refl, sym, ◌∙◌, ap, ap₂}
use mathlib.Core.Bool.{Bool, true, false, not, false≢true}
use mathlib.Core.List.{List, [], ◌∷◌, ◌++◌, append_assoc, append-nil}
use Prim.Native.Nat.{ℕ, ◌+◌, ◌-◌, ◌<◌, ◌≤◌}
use native.Mathlib.Omega.{arith}
use lib.Dec.{leb, eqb}
use lib.ListN.{length, get_or, set, take, drop, replicate, length-append, length-take, length-drop, length-replicate, drop_of_length-le}
use lib.Seq.{take_at, drop-drop}
use borrow.Author.Tests.{leb-true, eq-eqb, ne_eqb, eqb-true, eqb-false}
use borrow.Rule.Slice.PartMut.{put_mid}
use Rattle.octets.specs.Octets.{Octets, number, bytes, pasted}
use Rattle.octets.proofs.Laws.{bytes-length, part-rest, pasted-append}
use Rattle.answers.proofs.Basics.{Two, yes', no', two, both_true, told-false, told-true}
use Rattle.suites.specs.Suites as Suites
use Rattle.suites.specs.Suites.{number_of, Nk, Nn}
use Rattle.suites.specs.Derivation.{sframe_key, sframe_salt}
use Rattle.suites.specs.declared.sizes.Suite.{Suite}
use Rattle.suites.proofs.Laws.{Nk-most, key-length, salt-length}
use Rattle.window.specs.Window as Replay
use Rattle.window.specs.Window.{moved}
use Rattle.window.specs.declared.Window.{Window}
use Rattle.key_record.specs.Layout.{record_size, mark_at, suite_at, spent_at, kid_at, counter_at, salt_at, key_at, highest_at, mask_at, sending_mark, receiving_mark, retired_mark, layout_version, spent_byte, window_bytes, ending, row, encode, counter_in, window_in, decode, SpentByte}
use Rattle.key_record.specs.Record.{ceiling, SendingKey, KeyRecord, empty, sending, receiving, retired, is_empty, is_sending, is_receiving, kid_of, holds, suite_of, salt_of, key_of, counter_of, window_of, advanced, noted}
use Rattle.key_record.specs.Suites.{is_suite, key_size, salt_size}
use Rattle.key_record.specs.Inner.Judging.{holding_mark, last_counter, new_row, retired_row}
use Rattle.key_record.specs.Inner.Rows.{Row, Numbered, kind_of, has_key, counter_left, mark_for, fresh, kept}
use Rattle.key_record.specs.declared.Kind.{Kind}
use Rattle.key_record.specs.declared.Kind.TheVariants.{Empty, Sender, Receiver, Retired}
use Rattle.key_record.specs.declared.Role.{Role}
use Rattle.key_record.specs.declared.Role.TheVariants.{Sending, Receiving}
use Rattle.key_record.proofs.Codec.{Fit, row_read, read-sending, read-receiving, read-retired, read-empty, obeys-fits, encode-length}
use Rattle.key_record.proofs.KindLaws.{holds-some}
use Rattle.key_record.proofs.Rows.{row-spent, row-counter, row_last, row-salted, row-keyed, row-windowed}
use Rattle.key_record.proofs.Spent.{spent-none, spent_all, Spent, spent, left, spent-or-left}
use Rattle.key_record.proofs.Suites.{suite-unnamed, key-named, key-size}

-- ---- what a record is

pub data Read (l : List ℕ) : Type 0 where
  reads-sending : get_or l mark_at 0 ≡ sending_mark → Read l
  reads-receiving : get_or l mark_at 0 ≡ receiving_mark → Read l
  reads-retired : get_or l mark_at 0 ≡ retired_mark → Read l
  reads-empty : decode l ≡ empty → (get_or l mark_at 0 ≡ sending_mark → ⊥) → (get_or l mark_at 0 ≡ receiving_mark → ⊥) → Read l

pub read : (l : List ℕ) → Read l
read l = by (two (eqb (get_or l mark_at 0) sending_mark)) (two (eqb (get_or l mark_at 0) receiving_mark)) (two (eqb (get_or l mark_at 0) retired_mark))
  where
    by : Two (eqb (get_or l mark_at 0) sending_mark) → Two (eqb (get_or l mark_at 0) receiving_mark) → Two (eqb (get_or l mark_at 0) retired_mark) → Read l
    by (yes' a) b c = reads-sending (eqb-true (get_or l mark_at 0) sending_mark a)
    by (no' a) (yes' b) c = reads-receiving (eqb-true (get_or l mark_at 0) receiving_mark b)
    by (no' a) (no' b) (yes' c) = reads-retired (eqb-true (get_or l mark_at 0) retired_mark c)
    by (no' a) (no' b) (no' c) =
        let d = eqb-false (get_or l mark_at 0) sending_mark a in
        let f = eqb-false (get_or l mark_at 0) receiving_mark b in
        reads-empty (read-empty l d f (eqb-false (get_or l mark_at 0) retired_mark c)) d f

module _ (l : List ℕ) where
  pub kind-sending : get_or l mark_at 0 ≡ sending_mark → Sender ≡ kind_of (decode l)
  kind-sending m = sym (ap kind_of (read-sending l m))

  pub kind-receiving : get_or l mark_at 0 ≡ receiving_mark → Receiver ≡ kind_of (decode l)
  kind-receiving m = sym (ap kind_of (read-receiving l m))

  pub kind-retired : get_or l mark_at 0 ≡ retired_mark → Retired ≡ kind_of (decode l)
  kind-retired m = sym (ap kind_of (read-retired l m))

  pub kind-empty : (get_or l mark_at 0 ≡ sending_mark → ⊥) → (get_or l mark_at 0 ≡ receiving_mark → ⊥) → (get_or l mark_at 0 ≡ retired_mark → ⊥) → Empty ≡ kind_of (decode l)
  kind-empty a b c = sym (ap kind_of (read-empty l a b c))

  pub sends-told : eqb (get_or l mark_at 0) sending_mark ≡ is_sending (decode l)
  sends-told = by (read l)
    where
      by : Read l → eqb (get_or l mark_at 0) sending_mark ≡ is_sending (decode l)
      by (reads-sending m) = ap (λ (k : ℕ). eqb k sending_mark) m ∙ sym (ap is_sending (read-sending l m))
      by (reads-receiving m) = ap (λ (k : ℕ). eqb k sending_mark) m ∙ sym (ap is_sending (read-receiving l m))
      by (reads-retired m) = ap (λ (k : ℕ). eqb k sending_mark) m ∙ sym (ap is_sending (read-retired l m))
      by (reads-empty e d f) = ne_eqb (get_or l mark_at 0) sending_mark d ∙ sym (ap is_sending e)

  pub receives-told : eqb (get_or l mark_at 0) receiving_mark ≡ is_receiving (decode l)
  receives-told = by (read l)
    where
      by : Read l → eqb (get_or l mark_at 0) receiving_mark ≡ is_receiving (decode l)
      by (reads-sending m) = ap (λ (k : ℕ). eqb k receiving_mark) m ∙ sym (ap is_receiving (read-sending l m))
      by (reads-receiving m) = ap (λ (k : ℕ). eqb k receiving_mark) m ∙ sym (ap is_receiving (read-receiving l m))
      by (reads-retired m) = ap (λ (k : ℕ). eqb k receiving_mark) m ∙ sym (ap is_receiving (read-retired l m))
      by (reads-empty e d f) = ne_eqb (get_or l mark_at 0) receiving_mark f ∙ sym (ap is_receiving e)

  -- ---- fields

  field-suite : is_empty (decode l) ≡ false → suite_of (decode l) ≡ get_or l suite_at 0
  field-suite h = by (read l)
    where
      by : Read l → suite_of (decode l) ≡ get_or l suite_at 0
      by (reads-sending m) = ap suite_of (read-sending l m)
      by (reads-receiving m) = ap suite_of (read-receiving l m)
      by (reads-retired m) = ap suite_of (read-retired l m)
      by (reads-empty e d f) = absurd (false≢true (sym h ∙ ap is_empty e))

  field-salt : has_key (decode l) ≡ true → take salt_size (drop salt_at l) ≡ salt_of (decode l)
  field-salt h = by (read l)
    where
      by : Read l → take salt_size (drop salt_at l) ≡ salt_of (decode l)
      by (reads-sending m) = sym (ap salt_of (read-sending l m))
      by (reads-receiving m) = sym (ap salt_of (read-receiving l m))
      by (reads-retired m) = absurd (false≢true (sym (ap has_key (read-retired l m)) ∙ h))
      by (reads-empty e d f) = absurd (false≢true (sym (ap has_key e) ∙ h))

  field-key : has_key (decode l) ≡ true → take (key_size (suite_of (decode l))) (drop key_at l) ≡ key_of (decode l)
  field-key h = by (read l)
    where
      by : Read l → take (key_size (suite_of (decode l))) (drop key_at l) ≡ key_of (decode l)
      by (reads-sending m) = ap (λ (r : KeyRecord). take (key_size (suite_of r)) (drop key_at l)) (read-sending l m) ∙ sym (ap key_of (read-sending l m))
      by (reads-receiving m) = ap (λ (r : KeyRecord). take (key_size (suite_of r)) (drop key_at l)) (read-receiving l m) ∙ sym (ap key_of (read-receiving l m))
      by (reads-retired m) = absurd (false≢true (sym (ap has_key (read-retired l m)) ∙ h))
      by (reads-empty e d f) = absurd (false≢true (sym (ap has_key e) ∙ h))

-- ---- what callers read

pub fit-suite : (r : KeyRecord) → Fit r → is_empty r ≡ false → is_suite (suite_of r) ≡ true
fit-suite empty f e = absurd (false≢true (sym e))
fit-suite (sending r) f e = f.0.known
fit-suite (receiving r w) f e = f.0.known
fit-suite (retired r) f e = f.known

some_left : (r : KeyRecord) → counter_left r ≡ true → counter_of r ≡ ceiling → ⊥
some_left r h e = false≢true (ap not (sym (eq-eqb (counter_of r) ceiling e)) ∙ h)

pub below_left : (r : KeyRecord) → counter_of r < ceiling → counter_left r ≡ true
below_left r h = ap not (ne_eqb (counter_of r) ceiling (λ e. omega arith))

zeros-count : (get_or {A = ℕ} (replicate record_size 0) spent_at 0 ≡ spent_byte 0) × (counter_in (replicate record_size 0) ≡ 0)
unfolding spent_byte counter_in number
zeros-count = (refl, refl)

-- the two fields of a record's next counter
counter-fields : (r : KeyRecord) → Fit r → (get_or (encode r) spent_at 0 ≡ spent_byte (counter_of r)) × (counter_in (encode r) ≡ counter_of r)
unfolding encode
counter-fields empty f = zeros-count
counter-fields (sending r) f =
    (row-spent sending_mark r.suite r.kid r.counter r.salt r.key Replay.fresh, (row_read sending_mark r.suite r.kid r.counter r.salt r.key Replay.fresh f.0.kid-below f.0.counter-most f.1.salt-length).counter-is)
counter-fields (receiving r w) f =
    (row-spent receiving_mark r.suite r.kid 0 r.salt r.key w, (row_read receiving_mark r.suite r.kid 0 r.salt r.key w f.0.kid-below f.0.counter-most f.1.salt-length).counter-is)
counter-fields (retired r) f =
    (row-spent retired_mark r.suite r.kid r.counter (replicate salt_size 0) [] Replay.fresh, (row_read retired_mark r.suite r.kid r.counter (replicate salt_size 0) [] Replay.fresh f.kid-below f.counter-most refl).counter-is)

module _ (l : List ℕ) (o : Octets l) (w : Row l) where
  pub row-fit : Fit (decode l)
  row-fit = (obeys-fits l o w.0 w.1).0

  pub row-bytes : encode (decode l) ≡ l
  row-bytes = (obeys-fits l o w.0 w.1).1

  pub suite-never : (r : Option Suite) → is_empty (decode l) ≡ false → r ≡ Suites.suite_of (get_or l suite_at 0) → r ≡ None → ⊥
  suite-never r h e u =
      let k : is_suite (get_or l suite_at 0) ≡ true = ap is_suite (sym (field-suite l h)) ∙ fit-suite (decode l) row-fit h in
      false≢true (sym (suite-unnamed (get_or l suite_at 0) (sym e ∙ u)) ∙ k)

  pub suite-told : (r : Option Suite) (s : Suite) → is_empty (decode l) ≡ false → r ≡ Suites.suite_of (get_or l suite_at 0) → r ≡ Some s → Numbered s (suite_of (decode l))
  suite-told r s h e u = ap Suites.suite_of (field-suite l h) ∙ sym e ∙ u

  -- the byte that says whether the counters are spent, and both fields together
  spent-read : get_or l spent_at 0 ≡ spent_byte (counter_of (decode l))
  spent-read = ap (λ (x : List ℕ). get_or x spent_at 0) (sym row-bytes) ∙ (counter-fields (decode l) row-fit).0

  counter-read : counter_in l ≡ counter_of (decode l)
  counter-read = ap counter_in (sym row-bytes) ∙ (counter-fields (decode l) row-fit).1

  pub spent-byte : SpentByte l
  unfolding counter_in
  spent-byte = by (spent-or-left (counter_of (decode l)))
    where
      whole : number 8 (drop counter_at l) + get_or l spent_at 0 ≡ counter_of (decode l)
      whole = counter-read

      by : Spent (counter_of (decode l)) → SpentByte l
      by (spent e b) =
          let one : get_or l spent_at 0 ≡ 1 = spent-read ∙ b in
          record {
            none_left = eq-eqb (counter_of (decode l)) ceiling e ∙ sym (eq-eqb (get_or l spent_at 0) 1 one);
            last_one = λ q. omega (arith, whole);
            next_one = λ d. absurd (d one);
          }
      by (left d b) =
          let none : get_or l spent_at 0 ≡ 0 = spent-read ∙ b in
          record {
            none_left = ne_eqb (counter_of (decode l)) ceiling d ∙ sym (ne_eqb (get_or l spent_at 0) 1 (λ q. omega arith));
            last_one = λ q. absurd (omega arith);
            next_one = λ q. (none, omega (arith, whole));
          }

  pub counter-told : (v : ℕ) → counter_left (decode l) ≡ true → v ≡ number 8 (take (length l - counter_at) (drop counter_at l)) → v ≡ counter_of (decode l)
  unfolding counter_in
  counter-told v c e =
      let z : get_or l spent_at 0 ≡ 0 = spent-read ∙ spent-none (counter_of (decode l)) (some_left (decode l) c) in
      let t : number 8 (drop counter_at l) + get_or l spent_at 0 ≡ counter_of (decode l) = counter-read in
      let n : v ≡ number 8 (drop counter_at l) = e ∙ ap (number 8) (part-rest counter_at l) in
      omega arith

  pub left-told : eqb (get_or l spent_at 0) 0 ≡ counter_left (decode l)
  left-told = ap (λ (b : ℕ). eqb b 0) spent-read ∙ by (spent-or-left (counter_of (decode l)))
    where
      by : Spent (counter_of (decode l)) → eqb (spent_byte (counter_of (decode l))) 0 ≡ counter_left (decode l)
      by (spent e b) = ap (λ (k : ℕ). eqb k 0) b ∙ ap not (sym (eq-eqb (counter_of (decode l)) ceiling e))
      by (left d b) = ap (λ (k : ℕ). eqb k 0) b ∙ ap not (sym (ne_eqb (counter_of (decode l)) ceiling d))

module _ (l : List ℕ) (w : Row l) where
  pub salt-told : (end : ℕ) → end ≡ key_at → has_key (decode l) ≡ true → (take (end - salt_at) (drop salt_at l) ≡ salt_of (decode l)) × (length (take (end - salt_at) (drop salt_at l)) ≡ salt_size)
  salt-told end e h =
      let k : end - salt_at ≡ salt_size = omega arith in
      let n = w.0 in
      (ap (λ (j : ℕ). take j (drop salt_at l)) k ∙ field-salt l h, simp (length-take, length-drop) (omega arith))

  module _ (s : Suite) (k end : ℕ) (size : k ≡ Nk s) (e : end ≡ key_at + k) where
    pub key-inside : end ≤ length l
    key-inside = let n = w.0 in omega (arith, Nk-most s)

    pub key-told : has_key (decode l) ≡ true → Numbered s (suite_of (decode l)) → (take (end - key_at) (drop key_at l) ≡ key_of (decode l)) × (length (take (end - key_at) (drop key_at l)) ≡ Nk s)
    key-told h f =
        let j : end - key_at ≡ Nk s = omega arith in
        let n = w.0 in (
          ap (λ (i : ℕ). take i (drop key_at l)) (j ∙ sym (key-named (suite_of (decode l)) s f)) ∙ field-key l h,
          simp (length-take, length-drop) (omega (arith, Nk-most s)),
        )

-- ---- a counter that is taken

module _ (l : List ℕ) (v : ℕ) (o : Octets l) (w : Row l) (h : is_sending (decode l) ≡ true) (c : counter_of (decode l) < ceiling) (e : v ≡ counter_of (decode l)) where
  advanced-row : (x : List ℕ) → ((r : SendingKey) → encode (sending r) ≡ l → v ≡ r.counter → r.counter < ceiling → x ≡ encode (advanced (sending r))) → x ≡ encode (advanced (decode l))
  advanced-row x f = by (decode l) refl h
    where
      by : (r : KeyRecord) → decode l ≡ r → is_sending r ≡ true → x ≡ encode (advanced (decode l))
      by empty q s = absurd (false≢true s)
      by (receiving r w) q s = absurd (false≢true s)
      by (retired r) q s = absurd (false≢true s)
      by (sending r) q s =
          f r (ap encode (sym q) ∙ row-bytes l o w) (e ∙ ap counter_of q) (rw q at c) ∙ ap (λ (y : KeyRecord). encode (advanced y)) (sym q)

  pub advanced-told : (x : List ℕ) → (v ≡ last_counter → ⊥) → x ≡ pasted l counter_at (bytes 8 (v + 1)) → x ≡ encode (advanced (decode l))
  unfolding encode advanced
  advanced-told x d q = advanced-row x (λ r a b below. q ∙ ap₂ (λ (y : List ℕ) (k : ℕ). pasted y counter_at (bytes 8 (k + 1))) (sym a) b
      ∙ row-counter sending_mark r.suite r.kid r.counter (r.counter + 1) r.salt r.key Replay.fresh (spent-none r.counter (λ z. omega arith)) (spent-none (r.counter + 1) (λ z. d (omega arith))))

  pub last-told : (x : List ℕ) → v ≡ last_counter → x ≡ set l spent_at 1 → x ≡ encode (advanced (decode l))
  unfolding encode advanced
  last-told x z q = advanced-row x (λ r a b below. q ∙ ap (λ (y : List ℕ). set y spent_at 1) (sym a)
      ∙ row_last sending_mark r.suite r.kid r.counter (r.counter + 1) r.salt r.key Replay.fresh (spent-none r.counter (λ y. omega arith)) refl (spent_all (r.counter + 1) (omega arith)))

-- ---- a window that moves

-- the window of a receiving record
pub window-read : (l : List ℕ) (w : Window) → is_receiving (decode l) ≡ true → w ≡ window_in l → w ≡ window_of (decode l)
window-read l w h e = e ∙ by (read l)
  where
    by : Read l → window_in l ≡ window_of (decode l)
    by (reads-sending m) = absurd (false≢true (sym (ap is_receiving (read-sending l m)) ∙ h))
    by (reads-receiving m) = sym (ap window_of (read-receiving l m))
    by (reads-retired m) = absurd (false≢true (sym (ap is_receiving (read-retired l m)) ∙ h))
    by (reads-empty q d f) = absurd (false≢true (sym (ap is_receiving q) ∙ h))

pub fit-window : (r : KeyRecord) → Fit r → is_receiving r ≡ true → Replay.fits (window_of r) ≡ true
fit-window empty f e = absurd (false≢true e)
fit-window (sending r) f e = absurd (false≢true e)
fit-window (receiving r w) f e = f.2.in_order_lem
fit-window (retired r) f e = absurd (false≢true e)

module _ (l : List ℕ) (o : Octets l) (w : Row l) (h : is_receiving (decode l) ≡ true) (ctr : ℕ) where
  pub noted-told : (v : Window) (x y : List ℕ) → v ≡ moved (window_of (decode l)) ctr → x ≡ pasted l highest_at (bytes 8 v.highest) → y ≡ pasted x mask_at (bytes 8 v.mask) → y ≡ encode (noted ctr (decode l))
  unfolding encode noted window_bytes
  noted-told v x y e p q = by (decode l) refl h
    where
      a : List ℕ
      a = bytes 8 v.highest

      b : List ℕ
      b = bytes 8 v.mask

      -- both fields at once
      pasted-both : y ≡ pasted l highest_at (bytes 8 v.highest ++ bytes 8 v.mask)
      pasted-both =
          q ∙ ap₂ (λ (t : List ℕ) (k : ℕ). pasted t (highest_at + k) (bytes 8 v.mask)) p (sym (bytes-length 8 v.highest))
          ∙ pasted-append l highest_at (bytes 8 v.highest) (bytes 8 v.mask) (rw (bytes-length 8 v.highest, bytes-length 8 v.mask) (omega (arith, w.0)))

      by : (r : KeyRecord) → decode l ≡ r → is_receiving r ≡ true → y ≡ encode (noted ctr (decode l))
      by empty z s = absurd (false≢true s)
      by (sending r) z s = absurd (false≢true s)
      by (retired r) z s = absurd (false≢true s)
      by (receiving r u) z s =
          let f : Fit (receiving r u) = rw z at (row-fit l o w) in
          let is : row receiving_mark r.suite r.kid 0 r.salt r.key u ≡ l = ap encode (sym z) ∙ row-bytes l o w in
          let moves : v ≡ moved u ctr = e ∙ ap (λ (t : KeyRecord). moved (window_of t) ctr) z in
          pasted-both
          ∙ ap₂ (λ (t : List ℕ) (k : Window). pasted t highest_at (window_bytes k)) (sym is) moves
          ∙ row-windowed receiving_mark r.suite r.kid 0 r.salt r.key u (moved u ctr) f.1.salt-length (omega (arith, f.1.key-length, key-size r.suite))
          ∙ ap (λ (t : KeyRecord). encode (noted ctr t)) (sym z)

-- ---- a row that is retired

pub retired-row : (l p : List ℕ) → length l ≡ record_size → p ≡ replicate (length (take (length l - salt_at) (drop salt_at l))) 0
    → set (put_mid salt_at (length l - salt_at) l p) mark_at retired_mark ≡ retired_row l
unfolding retired_row
retired-row [] p n e = absurd (omega arith)
retired-row (a ∷ l) p n e =
    let k : length (take (length (a ∷ l) - salt_at) (drop salt_at (a ∷ l))) ≡ length (a ∷ l) - salt_at = simp (length-take, length-drop) (omega arith) in
    let gone : drop (length (a ∷ l) - salt_at) (drop salt_at (a ∷ l)) ≡ [] = drop_of_length-le (drop salt_at (a ∷ l)) {i = length (a ∷ l) - salt_at} (simp length-drop (omega arith)) in
    ap (λ (t : List ℕ). retired_mark ∷ (take (salt_at - 1) l ++ t))
    (ap₂ (λ (x y : List ℕ). x ++ y) (e ∙ ap (λ (j : ℕ). replicate {A = ℕ} j 0) k) gone ∙ append-nil (replicate (length (a ∷ l) - salt_at) 0))

-- what ends a retired record is zeros
retired-end : replicate salt_size 0 ++ ([] ++ ending [] Replay.fresh) ≡ replicate (record_size - salt_at) 0
unfolding ending window_bytes bytes
retired-end = refl

-- the bytes of a sending record become those of what is kept of it
retired-front : (r : SendingKey) → (retired_mark ∷ drop 1 (take salt_at (encode (sending r)))) ++ replicate (record_size - salt_at) 0 ≡ encode (kept (sending r))
unfolding encode row
retired-front r =
    let a = bytes 8 r.kid in
    let number = r.counter - spent_byte r.counter in
    let b = bytes 8 number in
    let rest : List ℕ = r.salt ++ (r.key ++ ending r.key Replay.fresh) in
    let front : List ℕ → List ℕ = λ (t : List ℕ). retired_mark ∷ r.suite ∷ spent_byte r.counter ∷ layout_version ∷ t in
    let n : length (a ++ b) ≡ 8 + 8 = length-append a b ∙ ap₂ ◌+◌ (bytes-length 8 r.kid) (bytes-length 8 number) in
    let numbers : take (8 + 8) (a ++ (b ++ rest)) ≡ a ++ b = ap (take (8 + 8)) (sym (append_assoc a b rest)) ∙ take_at (a ++ b) rest (8 + 8) n in
    ap (λ (t : List ℕ). front (t ++ replicate (record_size - salt_at) 0)) numbers
    ∙ ap front (append_assoc a b (replicate (record_size - salt_at) 0))
    ∙ ap (λ (t : List ℕ). front (a ++ (b ++ t))) (sym retired-end)

retired-encode : (h : KeyRecord) → Fit h → is_sending h ≡ true → retired_row (encode h) ≡ encode (kept h)
unfolding retired_row
retired-encode empty f s = absurd (false≢true s)
retired-encode (receiving r w) f s = absurd (false≢true s)
retired-encode (retired r) f s = absurd (false≢true s)
retired-encode (sending r) f s =
    let n : length (encode (sending r)) - salt_at ≡ record_size - salt_at = ap (λ (k : ℕ). k - salt_at) (encode-length (sending r) f) in
    ap (λ (j : ℕ). (retired_mark ∷ drop 1 (take salt_at (encode (sending r)))) ++ replicate j 0) n ∙ retired-front r

pub retired-told : (l x : List ℕ) → Octets l → Row l → is_sending (decode l) ≡ true → x ≡ retired_row l → x ≡ encode (kept (decode l))
retired-told l x o w h e = e ∙ ap retired_row (sym (row-bytes l o w)) ∙ retired-encode (decode l) (row-fit l o w) h

-- ---- a new record

-- an empty record's bytes have a record's size
pub empty-size : (l : List ℕ) → l ≡ encode empty → length l ≡ record_size
unfolding encode
empty-size l e = ap length e ∙ length-replicate {A = ℕ} record_size 0

pub empty-zeros : (l : List ℕ) → l ≡ encode empty → l ≡ replicate record_size 0
unfolding encode
empty-zeros l e = e

pub cleared : (l x : List ℕ) → length l ≡ record_size → x ≡ replicate (length l) 0 → x ≡ encode empty
unfolding encode
cleared l x n e = e ∙ ap (λ (k : ℕ). replicate {A = ℕ} k 0) n

new-encode : (role : Role) (s : Suite) (kid : ℕ) (base : List ℕ) → row (mark_for role) (number_of s) kid 0 (sframe_salt s base kid) (sframe_key s base kid) Replay.fresh ≡ encode (fresh role s kid base)
unfolding encode
new-encode Sending s kid base = refl
new-encode Receiving s kid base = refl

-- what fills the whole of a part that is lent is pasted where the part begins
part_filled : (l x : List ℕ) (i k : ℕ) → length x ≡ k → put_mid i k l x ≡ pasted l i x
unfolding pasted
part_filled l x i k e = ap (λ (t : List ℕ). take i l ++ (x ++ t)) (drop-drop k i l ∙ ap (λ (j : ℕ). drop (i + j) l) (sym e))

pub row-filled : (role : Role) (s : Suite) (kid mark suite : ℕ) (base salt key a b c : List ℕ) (middle end : ℕ) → mark ≡ mark_for role → suite ≡ number_of s
    → salt ≡ sframe_salt s base kid → key ≡ sframe_key s base kid → middle ≡ salt_at + Nn → end ≡ key_at + Nk s
    → a ≡ new_row mark suite kid (replicate salt_size 0) [] → b ≡ put_mid salt_at (middle - salt_at) a salt → c ≡ put_mid key_at (end - key_at) b key → c ≡ encode (fresh role s kid base)
row-filled role s kid mark suite base salt key a b c middle end m n p q g f x y z =
    let ls : length salt ≡ salt_size = ap length p ∙ salt-length s base kid in
    let lk : length key ≡ Nk s = ap length q ∙ key-length s base kid in
    let j : length salt ≡ middle - salt_at = omega arith in
    let one : b ≡ row mark suite kid 0 salt [] Replay.fresh = y ∙ part_filled a salt salt_at (middle - salt_at) j ∙ ap (λ (t : List ℕ). pasted t salt_at salt) x ∙ row-salted mark suite kid 0 salt Replay.fresh ls in
    let k : length key ≡ end - key_at = omega arith in
    let two : c ≡ row mark suite kid 0 salt key Replay.fresh = z ∙ part_filled b key key_at (end - key_at) k ∙ ap (λ (t : List ℕ). pasted t key_at key) one ∙ row-keyed mark suite kid 0 salt key Replay.fresh ls (omega (arith, Nk-most s)) in
    two ∙ rw (m, n, p, q) (new-encode role s kid base)

-- ---- the KID

unheld : (l : List ℕ) → holding_mark (get_or l mark_at 0) ≡ false → decode l ≡ empty
unfolding holding_mark
unheld l h = read-empty l (not-it sending_mark refl) (not-it receiving_mark refl) (not-it retired_mark refl)
  where
    not-it : (k : ℕ) → holding_mark k ≡ true → get_or l mark_at 0 ≡ k → ⊥
    not-it k q e = false≢true (sym h ∙ ap holding_mark e ∙ q)

held-kid : (l : List ℕ) (kid : ℕ) → holding_mark (get_or l mark_at 0) ≡ true → holds kid (decode l) ≡ eqb (number 8 (drop kid_at l)) kid
unfolding holding_mark holds
held-kid l kid h = by (two (eqb (get_or l mark_at 0) sending_mark)) (two (eqb (get_or l mark_at 0) receiving_mark))
  where
    range : (sending_mark ≤ get_or l mark_at 0) × (get_or l mark_at 0 ≤ retired_mark)
    range = let t = both_true (leb sending_mark (get_or l mark_at 0)) (leb (get_or l mark_at 0) retired_mark) h in (leb-true sending_mark (get_or l mark_at 0) t.0, leb-true (get_or l mark_at 0) retired_mark t.1)

    by : Two (eqb (get_or l mark_at 0) sending_mark) → Two (eqb (get_or l mark_at 0) receiving_mark) → holds kid (decode l) ≡ eqb (number 8 (drop kid_at l)) kid
    by (yes' a) b = ap (holds kid) (read-sending l (eqb-true (get_or l mark_at 0) sending_mark a))
    by (no' a) (yes' b) = ap (holds kid) (read-receiving l (eqb-true (get_or l mark_at 0) receiving_mark b))
    by (no' a) (no' b) =
        let m : get_or l mark_at 0 ≡ retired_mark = omega (arith, range.0, range.1, eqb-false (get_or l mark_at 0) sending_mark a, eqb-false (get_or l mark_at 0) receiving_mark b) in
        ap (holds kid) (read-retired l m)

pub holds-unheld : (l : List ℕ) (kid : ℕ) (r : Bool) → r ≡ holding_mark (get_or l mark_at 0) → not r ≡ true → false ≡ holds kid (decode l)
unfolding holds
holds-unheld l kid r e t = sym (ap (holds kid) (unheld l (told-false r _ e t)))

pub holds-held : (l : List ℕ) (kid v : ℕ) (r : Bool) → r ≡ holding_mark (get_or l mark_at 0) → not r ≡ false → v ≡ number 8 (take (length l - kid_at) (drop kid_at l)) → eqb v kid ≡ holds kid (decode l)
holds-held l kid v r e t q = ap (λ (k : ℕ). eqb k kid) (q ∙ ap (number 8) (part-rest kid_at l)) ∙ sym (held-kid l kid (told-true r _ e t))

mark-held : (l : List ℕ) → holding_mark (get_or l mark_at 0) ≡ true → is_empty (decode l) ≡ false
mark-held l h = holds-some (number 8 (drop kid_at l)) (decode l) (held-kid l (number 8 (drop kid_at l)) h ∙ eq-eqb (number 8 (drop kid_at l)) (number 8 (drop kid_at l)) refl)

pub empty-told : (l : List ℕ) (r : Bool) → r ≡ holding_mark (get_or l mark_at 0) → not r ≡ is_empty (decode l)
empty-told l true e = sym (mark-held l (sym e))
empty-told l false e = sym (ap is_empty (unheld l (sym e)))

pub kid-told : (l : List ℕ) (v : ℕ) → is_empty (decode l) ≡ false → v ≡ number 8 (take (length l - kid_at) (drop kid_at l)) → v ≡ kid_of (decode l)
kid-told l v h q = q ∙ ap (number 8) (part-rest kid_at l) ∙ by (read l)
  where
    by : Read l → number 8 (drop kid_at l) ≡ kid_of (decode l)
    by (reads-sending m) = sym (ap kid_of (read-sending l m))
    by (reads-receiving m) = sym (ap kid_of (read-receiving l m))
    by (reads-retired m) = sym (ap kid_of (read-retired l m))
    by (reads-empty e d f) = absurd (false≢true (sym h ∙ ap is_empty e))

-- SPDX-License-Identifier: MIT
-- A record written is read back, and what obeys its row is a record in range. Assumes nothing.
use mathlib.Core.Path.{◌≡◌, refl, sym, ◌∙◌, ap}
use mathlib.Core.Bool.{true}
use mathlib.Core.List.{List, [], ◌∷◌, ◌++◌, append_assoc}
use Prim.Native.Nat.{ℕ, zero, suc, ◌+◌, ◌-◌, ◌^◌, ◌<◌, ◌≤◌}
use native.Mathlib.Nat.{mod-eq_of_lt}
use native.Mathlib.Omega.{arith}
use lib.Dec.{leb, eqb}
use lib.ListN.{length, get_or, take, drop, replicate, length-append, length-take, length-drop, length-replicate}
use lib.Seq.{drop_at, take_at, drop-drop}
use borrow.Author.Tests.{leb-true, le-leb, ne_eqb, eqb-true, eqb-false}
use Rattle.octets.specs.Octets.{Octets, number, bytes, same}
use Rattle.octets.proofs.Laws.{bytes-length, bytes-octets, number-bytes, number_append, number_lt, octets-append, octets-take, octets-drop, octets-replicate, same_refl, same-eq}
use Rattle.window.specs.Window.{fresh, fits as in_order}
use Rattle.window.specs.declared.Window.{Window}
use Rattle.window.proofs.Laws.{fresh-fits}
use Rattle.key_record.specs.Layout.{record_size, key_room, sending_mark, receiving_mark, retired_mark, layout_version, spent_byte, window_bytes, ending, row, encode, counter_in, window_in, decode, fits, obeys, mark_at, suite_at, kid_at, counter_at, salt_at, key_at, highest_at, mask_at}
use Rattle.key_record.specs.Record.{ceiling, KeyRecord, empty, sending, receiving, retired}
use Rattle.answers.proofs.Basics.{Two, yes', no', two, both_true, both-and}
use Rattle.key_record.specs.Suites.{is_suite, key_size, salt_size}
use Rattle.key_record.proofs.Spent.{spent-most, rest_below, rest_back}
use Rattle.key_record.proofs.Suites.{suite-byte, key-size}

-- ---- records in range

pub record Held (suite kid counter : ℕ) : Type 0 where
  pub known : is_suite suite ≡ true
  pub kid-below : kid < 2 ^ 64
  pub counter-most : counter ≤ ceiling

pub record Secret (suite : ℕ) (salt key : List ℕ) : Type 0 where
  pub salt-length : length salt ≡ salt_size
  pub salt-octets : Octets salt
  pub key-length : length key ≡ key_size suite
  pub key-octets : Octets key

pub record InRange (w : Window) : Type 0 where
  pub in_order_lem : in_order w ≡ true
  pub highest-below : w.highest < 2 ^ 64
  pub mask_below : w.mask < 2 ^ 64

pub fresh-in-range : InRange fresh
fresh-in-range = record { in_order_lem = fresh-fits; highest-below = omega arith; mask_below = omega arith }

abbrev pub Fit : KeyRecord → Type 0
Fit empty = Unit {0}
Fit (sending r) = Held r.suite r.kid r.counter × Secret r.suite r.salt r.key
Fit (receiving r w) = Held r.suite r.kid 0 × Secret r.suite r.salt r.key × InRange w
Fit (retired r) = Held r.suite r.kid r.counter

-- ---- a row

pub window-length : (w : Window) → length (window_bytes w) ≡ record_size - highest_at
unfolding window_bytes
window-length w = simp (length-append, bytes-length)

ending-length : (key : List ℕ) (w : Window) → length key ≤ key_room → length key + length (ending key w) ≡ record_size - key_at
unfolding ending
ending-length key w h = let n = window-length w in simp (length-append, length-replicate) (omega arith)

row-length : (mark suite kid counter : ℕ) (salt key : List ℕ) (w : Window) → length salt ≡ salt_size → length key ≤ key_room → length (row mark suite kid counter salt key w) ≡ record_size
unfolding row
row-length mark suite kid counter salt key w e h = let n = ending-length key w h in simp (length-append, bytes-length) (omega arith)

octets-front : (mark suite spent : ℕ) (l : List ℕ) → mark < 256 → suite < 256 → spent < 256 → Octets l → Octets ((mark ∷ suite ∷ spent ∷ layout_version ∷ []) ++ l)
octets-front mark suite spent l a b c o zero = a
octets-front mark suite spent l a b c o (suc zero) = b
octets-front mark suite spent l a b c o (suc (suc zero)) = c
octets-front mark suite spent l a b c o (suc (suc (suc zero))) = omega arith
octets-front mark suite spent l a b c o (suc (suc (suc (suc i)))) = o i

ending-octets : (key : List ℕ) (w : Window) → Octets (ending key w)
unfolding ending window_bytes
ending-octets key w =
    octets-append (replicate (key_room - length key) 0) (bytes 8 w.highest ++ bytes 8 w.mask) (octets-replicate (key_room - length key) 0 (omega arith))
    (octets-append (bytes 8 w.highest) (bytes 8 w.mask) (bytes-octets 8 w.highest) (bytes-octets 8 w.mask))

row-octets : (mark suite kid counter : ℕ) (salt key : List ℕ) (w : Window) → mark < 256 → suite < 256 → Octets salt → Octets key → Octets (row mark suite kid counter salt key w)
unfolding row
row-octets mark suite kid counter salt key w a b p q =
    let padding : List ℕ = ending key w in
    let rest = bytes 8 (counter - spent_byte counter) in
    octets-front mark suite (spent_byte counter) (bytes 8 kid ++ (rest ++ (salt ++ (key ++ padding)))) a b (omega (arith, spent-most counter))
    (octets-append (bytes 8 kid) (rest ++ (salt ++ (key ++ padding))) (bytes-octets 8 kid)
    (octets-append rest (salt ++ (key ++ padding)) (bytes-octets 8 (counter - spent_byte counter))
    (octets-append salt (key ++ padding) p (octets-append key padding q (ending-octets key w)))))

row-mark : (mark suite kid counter : ℕ) (salt key : List ℕ) (w : Window) → get_or (row mark suite kid counter salt key w) mark_at 0 ≡ mark
unfolding row
row-mark mark suite kid counter salt key w = refl

pub record RowRead (l : List ℕ) (suite kid counter : ℕ) (salt key : List ℕ) (w : Window) : Type 0 where
  pub suite-is : get_or l suite_at 0 ≡ suite
  pub kid_is : number 8 (drop kid_at l) ≡ kid
  pub counter-is : counter_in l ≡ counter
  pub salt-is : take salt_size (drop salt_at l) ≡ salt
  pub key-is : take (length key) (drop key_at l) ≡ key
  pub window-is : length key ≤ key_room → w.highest < 2 ^ 64 → w.mask < 2 ^ 64 → window_in l ≡ w

number-front : (v : ℕ) (rest : List ℕ) → v < 2 ^ 64 → number 8 (bytes 8 v ++ rest) ≡ v
number-front v rest h =
    let b = bytes-length 8 v in
    number_append 8 (bytes 8 v) rest (omega arith) ∙ number-bytes 8 v ∙ mod-eq_of_lt h

-- bytes that end in a window give that window
window-read : (l key : List ℕ) (w : Window) → drop key_at l ≡ key ++ ending key w → length key ≤ key_room → w.highest < 2 ^ 64 → w.mask < 2 ^ 64 → window_in l ≡ w
unfolding window_in ending window_bytes
window-read l key w e h a b =
    let zeros : List ℕ = replicate (key_room - length key) 0 in
    let r1 = bytes 8 w.highest in
    let r2 = bytes 8 w.mask in
    let n : length (key ++ zeros) ≡ key_room = simp (length-append, length-replicate) (omega arith) in
    let d80 : drop highest_at l ≡ r1 ++ r2 = sym (drop-drop key_room key_at l) ∙ ap (drop key_room) (e ∙ sym (append_assoc key zeros (r1 ++ r2))) ∙ drop_at (key ++ zeros) (r1 ++ r2) key_room n in
    let d88 : drop mask_at l ≡ r2 = sym (drop-drop 8 highest_at l) ∙ ap (drop 8) d80 ∙ drop_at r1 r2 8 (bytes-length 8 w.highest) in
    let p : number 8 (drop highest_at l) ≡ w.highest = ap (number 8) d80 ∙ number-front w.highest r2 a in
    let q : number 8 (drop mask_at l) ≡ w.mask = ap (number 8) d88 ∙ number-bytes 8 w.mask ∙ mod-eq_of_lt b in
    (λ i. record { highest = p i; mask = q i })

pub row_read : (mark suite kid counter : ℕ) (salt key : List ℕ) (w : Window) → kid < 2 ^ 64 → counter ≤ ceiling → length salt ≡ salt_size
    → RowRead (row mark suite kid counter salt key w) suite kid counter salt key w
unfolding row counter_in
row_read mark suite kid counter salt key w hk hc hs =
    let padding : List ℕ = ending key w in
    let r4 = salt ++ (key ++ padding) in
    let rest = counter - spent_byte counter in
    let r3 = bytes 8 rest ++ r4 in
    let r2 = bytes 8 kid ++ r3 in
    let l = (mark ∷ suite ∷ spent_byte counter ∷ layout_version ∷ []) ++ r2 in
    let d12 : drop counter_at l ≡ r3 = drop_at (bytes 8 kid) r3 8 (bytes-length 8 kid) in
    let d20 : drop salt_at l ≡ r4 = sym (drop-drop 8 counter_at l) ∙ ap (drop 8) d12 ∙ drop_at (bytes 8 rest) r4 8 (bytes-length 8 rest) in
    let d32 : drop key_at l ≡ key ++ padding = sym (drop-drop salt_size salt_at l) ∙ ap (drop salt_size) d20 ∙ drop_at salt (key ++ padding) salt_size hs in
    record {
      suite-is = refl;
      kid_is = number-front kid r3 hk;
      counter-is = ap (λ (n : ℕ). n + spent_byte counter) (ap (number 8) d12 ∙ number-front rest r4 (rest_below counter hc)) ∙ rest_back counter hc;
      salt-is = ap (take salt_size) d20 ∙ take_at salt (key ++ padding) salt_size hs;
      key-is = ap (take (length key)) d32 ∙ take_at key padding (length key) refl;
      window-is = λ h a b. window-read l key w d32 h a b;
    }

-- ---- reading

abbrev pub sending_of : ℕ → ℕ → ℕ → List ℕ → List ℕ → KeyRecord
sending_of suite kid counter salt key = sending (record { suite = suite; kid = kid; counter = counter; salt = salt; key = key })

abbrev pub receiving_of : ℕ → ℕ → List ℕ → List ℕ → Window → KeyRecord
receiving_of suite kid salt key w = receiving (record { suite = suite; kid = kid; salt = salt; key = key }) w

abbrev pub retired_of : ℕ → ℕ → ℕ → KeyRecord
retired_of suite kid counter = retired (record { suite = suite; kid = kid; counter = counter })

module _ (l : List ℕ) where
  pub read-sending : get_or l mark_at 0 ≡ sending_mark
      → decode l ≡ sending_of (get_or l suite_at 0) (number 8 (drop kid_at l)) (counter_in l) (take salt_size (drop salt_at l)) (take (key_size (get_or l suite_at 0)) (drop key_at l))
  unfolding decode
  read-sending e = rw e

  pub read-receiving : get_or l mark_at 0 ≡ receiving_mark
      → decode l ≡ receiving_of (get_or l suite_at 0) (number 8 (drop kid_at l)) (take salt_size (drop salt_at l)) (take (key_size (get_or l suite_at 0)) (drop key_at l)) (window_in l)
  unfolding decode
  read-receiving e = rw e

  pub read-retired : get_or l mark_at 0 ≡ retired_mark → decode l ≡ retired_of (get_or l suite_at 0) (number 8 (drop kid_at l)) (counter_in l)
  unfolding decode
  read-retired e = rw e

  pub read-empty : (get_or l mark_at 0 ≡ sending_mark → ⊥) → (get_or l mark_at 0 ≡ receiving_mark → ⊥) → (get_or l mark_at 0 ≡ retired_mark → ⊥) → decode l ≡ empty
  unfolding decode
  read-empty a b c = rw (ne_eqb (get_or l mark_at 0) sending_mark a, ne_eqb (get_or l mark_at 0) receiving_mark b, ne_eqb (get_or l mark_at 0) retired_mark c)

-- ---- a record written is read back

pub encode-length : (r : KeyRecord) → Fit r → length (encode r) ≡ record_size
unfolding encode
encode-length empty f = length-replicate {A = ℕ} record_size 0
encode-length (sending r) f =
    let k = key-size r.suite in
    row-length sending_mark r.suite r.kid r.counter r.salt r.key fresh f.1.salt-length (rw f.1.key-length k)
encode-length (receiving r w) f =
    let k = key-size r.suite in
    row-length receiving_mark r.suite r.kid 0 r.salt r.key w f.1.salt-length (rw f.1.key-length k)
encode-length (retired r) f = row-length retired_mark r.suite r.kid r.counter (replicate salt_size 0) [] fresh refl (omega arith)

pub encode-octets : (r : KeyRecord) → Fit r → Octets (encode r)
unfolding encode
encode-octets empty f = octets-replicate record_size 0 (omega arith)
encode-octets (sending r) f =
    row-octets sending_mark r.suite r.kid r.counter r.salt r.key fresh (omega arith) (suite-byte r.suite f.0.known) f.1.salt-octets f.1.key-octets
encode-octets (receiving r w) f =
    row-octets receiving_mark r.suite r.kid 0 r.salt r.key w (omega arith) (suite-byte r.suite f.0.known) f.1.salt-octets f.1.key-octets
encode-octets (retired r) f =
    row-octets retired_mark r.suite r.kid r.counter (replicate salt_size 0) [] fresh (omega arith) (suite-byte r.suite f.known) (octets-replicate salt_size 0 (omega arith)) (λ i. omega arith)

key-read : (l : List ℕ) (suite : ℕ) (key : List ℕ) → get_or l suite_at 0 ≡ suite → length key ≡ key_size suite → take (length key) (drop key_at l) ≡ key
    → take (key_size (get_or l suite_at 0)) (drop key_at l) ≡ key
key-read l suite key e n k = ap (λ (m : ℕ). take m (drop key_at l)) (ap (key_size) e ∙ sym n) ∙ k

pub decode-encode : (r : KeyRecord) → Fit r → decode (encode r) ≡ r
unfolding encode
decode-encode empty f = read-empty (replicate record_size 0) (λ e. omega arith) (λ e. omega arith) (λ e. omega arith)
decode-encode (sending r) f =
    let l = row sending_mark r.suite r.kid r.counter r.salt r.key fresh in
    let p = row_read sending_mark r.suite r.kid r.counter r.salt r.key fresh f.0.kid-below f.0.counter-most f.1.salt-length in
    let k = key-read l r.suite r.key p.suite-is f.1.key-length p.key-is in
    read-sending l (row-mark sending_mark r.suite r.kid r.counter r.salt r.key fresh)
    ∙ (λ i. sending_of (p.suite-is i) (p.kid_is i) (p.counter-is i) (p.salt-is i) (k i))
decode-encode (receiving r w) f =
    let l = row receiving_mark r.suite r.kid 0 r.salt r.key w in
    let p = row_read receiving_mark r.suite r.kid 0 r.salt r.key w f.0.kid-below (omega arith) f.1.salt-length in
    let k = key-read l r.suite r.key p.suite-is f.1.key-length p.key-is in
    let v = p.window-is (omega (arith, f.1.key-length, key-size r.suite)) f.2.highest-below f.2.mask_below in
    read-receiving l (row-mark receiving_mark r.suite r.kid 0 r.salt r.key w)
    ∙ (λ i. receiving_of (p.suite-is i) (p.kid_is i) (p.salt-is i) (k i) (v i))
decode-encode (retired r) f =
    let zeros : List ℕ = replicate salt_size 0 in
    let l = row retired_mark r.suite r.kid r.counter zeros [] fresh in
    let p = row_read retired_mark r.suite r.kid r.counter zeros [] fresh f.kid-below f.counter-most refl in
    read-retired l (row-mark retired_mark r.suite r.kid r.counter zeros [] fresh) ∙ (λ i. retired_of (p.suite-is i) (p.kid_is i) (p.counter-is i))

-- ---- what obeys its row is in range

part_length : (n i : ℕ) (l : List ℕ) → length l ≡ record_size → i + n ≤ record_size → length (take n (drop i l)) ≡ n
part_length n i l e h = simp (length-take, length-drop) (omega arith)

module _ (l : List ℕ) (o : Octets l) (n : length l ≡ record_size) where
  kid-read : number 8 (drop kid_at l) < 2 ^ 64
  kid-read = number_lt 8 (drop kid_at l) (octets-drop kid_at l o)

  secret-read : Secret (get_or l suite_at 0) (take salt_size (drop salt_at l)) (take (key_size (get_or l suite_at 0)) (drop key_at l))
  secret-read =
      let k = key-size (get_or l suite_at 0) in
      record {
        salt-length = part_length salt_size salt_at l n (omega arith);
        salt-octets = octets-take salt_size (drop salt_at l) (octets-drop salt_at l o);
        key-length = part_length (key_size (get_or l suite_at 0)) key_at l n (omega arith);
        key-octets = octets-take (key_size (get_or l suite_at 0)) (drop key_at l) (octets-drop key_at l o);
      }

  window-in-range : in_order (window_in l) ≡ true → InRange (window_in l)
  unfolding window_in
  window-in-range e = record { in_order_lem = e; highest-below = number_lt 8 (drop highest_at l) (octets-drop highest_at l o); mask_below = number_lt 8 (drop mask_at l) (octets-drop mask_at l o) }

  in-range : fits (decode l) ≡ true → Fit (decode l)
  unfolding fits
  in-range e = by (two (eqb (get_or l mark_at 0) sending_mark)) (two (eqb (get_or l mark_at 0) receiving_mark)) (two (eqb (get_or l mark_at 0) retired_mark))
    where
      by : Two (eqb (get_or l mark_at 0) sending_mark) → Two (eqb (get_or l mark_at 0) receiving_mark) → Two (eqb (get_or l mark_at 0) retired_mark) → Fit (decode l)
      by (yes' a) b c =
          let q = read-sending l (eqb-true (get_or l mark_at 0) sending_mark a) in
          let t = both_true (is_suite (get_or l suite_at 0)) (leb (counter_in l) ceiling) (rw q at e) in
          rw q (record { known = t.0; kid-below = kid-read; counter-most = leb-true (counter_in l) ceiling t.1 }, secret-read)
      by (no' a) (yes' b) c =
          let q = read-receiving l (eqb-true (get_or l mark_at 0) receiving_mark b) in
          let t = both_true (is_suite (get_or l suite_at 0)) (in_order (window_in l)) (rw q at e) in
          rw q (record { known = t.0; kid-below = kid-read; counter-most = omega arith }, secret-read, window-in-range t.1)
      by (no' a) (no' b) (yes' c) =
          let q = read-retired l (eqb-true (get_or l mark_at 0) retired_mark c) in
          let t = both_true (is_suite (get_or l suite_at 0)) (leb (counter_in l) ceiling) (rw q at e) in
          rw q (record { known = t.0; kid-below = kid-read; counter-most = leb-true (counter_in l) ceiling t.1 })
      by (no' a) (no' b) (no' c) = rw (read-empty l (eqb-false (get_or l mark_at 0) sending_mark a) (eqb-false (get_or l mark_at 0) receiving_mark b) (eqb-false (get_or l mark_at 0) retired_mark c)) tt

pub obeys-fits : (l : List ℕ) → Octets l → length l ≡ record_size → obeys l ≡ true → Fit (decode l) × (encode (decode l) ≡ l)
unfolding obeys
obeys-fits l o n e =
    let t = both_true (same (encode (decode l)) l) (fits (decode l)) e in
    (in-range l o n t.1, same-eq (encode (decode l)) l t.0)

fit-fits : (r : KeyRecord) → Fit r → fits r ≡ true
unfolding fits
fit-fits empty f = refl
fit-fits (sending r) f = both-and _ _ f.0.known (le-leb r.counter ceiling f.0.counter-most)
fit-fits (receiving r w) f = both-and _ _ f.0.known f.2.in_order_lem
fit-fits (retired r) f = both-and _ _ f.known (le-leb r.counter ceiling f.counter-most)

pub fits-obeys : (r : KeyRecord) → Fit r → obeys (encode r) ≡ true
unfolding obeys
fits-obeys r f = rw (decode-encode r f) (both-and _ _ (same_refl (encode r)) (fit-fits r f))

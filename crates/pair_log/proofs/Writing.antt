-- SPDX-License-Identifier: MIT
-- The steps of writing the report, over plain variables. Assumes nothing.
use mathlib.Core.Path.{◌≡◌, refl, sym, ◌∙◌, ap, ap₂}
use mathlib.Core.List.{List, [], ◌∷◌, ◌++◌, append_assoc, append-nil}
use Prim.Native.Nat.{ℕ, zero, suc, ◌+◌, ◌*◌, ◌/◌, ◌%◌, ◌^◌, ◌-◌, ◌<◌, ◌≤◌}
use native.Mathlib.Nat.{add-zero, sub_self, sub-zero, pow-zero, pow-suc, div-one, div-div-eq-div-mul, mod-lt}
use native.Mathlib.Numerals.{unary_clauses}
use native.Mathlib.Omega.{arith}
use lib.ListN.{length, get_or, take, drop, set, length-append, length-set, length-drop, take-append-drop}
use lib.Pow.{high, low}
use lib.Seq.{take-suc, set_at, take-length, drop-drop, length-take-le}
use borrow.Author.Tests.{lt-ltb, le-ltb, eq-eqb, ne_eqb}
use borrow.Rule.Slice.PartMut.{put_mid}
use Rattle.octets.specs.Octets.{ascii, pasted}
use Rattle.octets.proofs.Laws.{pasted-append, pasted_length, pasted-front, set-pasted}
use Rattle.header.specs.Answers.{room_short}
use Rattle.answers.specs.Answers.{done, first, Outcome, settled}
use Rattle.pair_log.specs.Pairs.{record_size, pairs, repeated}
use Rattle.pair_log.specs.Report.{max_log, digit, digits, places, line, too_long, bad_length, counted, pair_line, pair_lines, listing, listing_of, report, written}
use Rattle.pair_log.proofs.Gathering.{listed_size}
use Rattle.pair_log.specs.declared.pair.Pair.{Pair}
use Rattle.pair_log.specs.Inner.Listed.{pair, value, listed, pair_size}

-- ---- digits

pub digits-length : (base n x : ℕ) → length (digits base n x) ≡ n
unfolding digits
digits-length base zero x = refl
digits-length base (suc n) x = ap suc (digits-length base n x)

pub digit-fits : (x base : ℕ) → 1 < base → base ≤ 16 → x % base < 16
digit-fits x base h k = let m : x % base < base = mod-lt x (omega arith) in omega (arith, m)

pub digit_low : (d : ℕ) → d < 10 → 48 + d ≡ digit d
digit_low d h = rw (lt-ltb d 10 h)

pub digit-high : (d : ℕ) → 10 ≤ d → 97 + (d - 10) ≡ digit d
digit-high d h = rw (le-ltb d 10 h) (omega arith)

pub place-one : (x : ℕ) → x < 10 → (1 ≡ places x) × (1 ≤ 4)
unfolding places
place-one x h = (rw (lt-ltb x 10 h), omega arith)

module _ (x : ℕ) (h : 10 ≤ x) where
  pub place-two : x < 100 → (2 ≡ places x) × (2 ≤ 4)
  unfolding places
  place-two k = (rw (le-ltb x 10 h, lt-ltb x 100 k), omega arith)

  module _ (k : 100 ≤ x) where
    pub place-three : x < 1000 → (3 ≡ places x) × (3 ≤ 4)
    unfolding places
    place-three m = (rw (le-ltb x 10 h, le-ltb x 100 k, lt-ltb x 1000 m), omega arith)

    pub place-four : 1000 ≤ x → (4 ≡ places x) × (4 ≤ 4)
    unfolding places
    place-four m = (rw (le-ltb x 10 h, le-ltb x 100 k, le-ltb x 1000 m), omega arith)

-- those of the last places are written, and rest has the others
abbrev pub Spelling : (base x : ℕ) (l o : List ℕ) (rest i : ℕ) → Type 0
Spelling base x l o rest i = (length o ≡ length l) × (i ≤ length l) × (rest ≡ x / base ^ (length l - i)) × (o ≡ take i l ++ digits base (length l - i) x)

pub spell-starts : (base x : ℕ) (l : List ℕ) → Spelling base x l l x (length l)
unfolding digits
spell-starts base x l = (refl, omega arith, rw (sub_self, pow-zero) (sym (div-one x)), rw (sub_self, take-length) (sym (append-nil l)))

pub spell-goes-on : (base x : ℕ) (l o : List ℕ) (rest i d : ℕ) → Spelling base x l o rest i → 0 < i → d ≡ digit (rest % base) → Spelling base x l (set o (i - 1) d) (rest / base) (i - 1)
unfolding digits
spell-goes-on base x l o rest i d s p e =
    let j = i - 1 in
    let k = length l - i in
    let f : i ≡ suc j = omega arith in
    let g : length l - j ≡ suc k = omega (arith, s.1) in
    let h : j < length l = omega (arith, s.1) in
    let t : o ≡ take j l ++ (get_or l j 0 ∷ digits base k x) =
    s.3 ∙ ap (λ (m : ℕ). take m l ++ digits base k x) f ∙ ap (λ (r : List ℕ). r ++ digits base k x) (take-suc l j 0 h) ∙ append_assoc (take j l) (get_or l j 0 ∷ []) (digits base k x) in
    let w : d ≡ digit (x / base ^ k % base) = e ∙ ap (λ (r : ℕ). digit (r % base)) s.2 in
    let q : set o j d ≡ take j l ++ digits base (length l - j) x =
    ap₂ (λ (r : List ℕ) (v : ℕ). set r j v) t w ∙ set_at (take j l) (get_or l j 0) (digits base k x) (digit (x / base ^ k % base)) j (length-take-le j l (omega (arith, h))) ∙ rw g in
    (length-set o j d ∙ s.0, omega (arith, s.1), rw (s.2, g, pow-suc, div-div-eq-div-mul), q)

pub spell-ends : (base x : ℕ) (l o : List ℕ) (rest i : ℕ) → Spelling base x l o rest i → i ≤ 0 → o ≡ digits base (length l) x
spell-ends base x l o rest i s h =
    let z : i ≡ 0 = omega arith in
    s.3 ∙ ap (λ (k : ℕ). take k l ++ digits base (length l - k) x) z ∙ ap (λ (k : ℕ). digits base k x) (sub-zero (length l))

-- a part that is written over as a whole
lent-whole : (l p : List ℕ) (i k : ℕ) → length p ≡ k → put_mid i k l p ≡ pasted l i p
unfolding pasted
lent-whole l p i k e = ap (λ (t : List ℕ). take i l ++ (p ++ t)) (drop-drop k i l ∙ ap (λ (m : ℕ). drop (i + m) l) (sym e))

pub number-written : (l r : List ℕ) (i base n x end : ℕ) → i + n < length l → r ≡ digits base (length (take (i + n - i) (drop i l))) x
    → set (put_mid i (i + n - i) l r) (i + n) end ≡ pasted l i (digits base n x ++ (end ∷ []))
number-written l r i base n x end h e =
    let d = digits base n x in
    let z : length d ≡ n = digits-length base n x in
    let m : i + n - i ≡ n = omega arith in
    let k : length (take n (drop i l)) ≡ n = length-take-le n (drop i l) (simp length-drop (omega arith)) in
    let f : r ≡ d = e ∙ rw (m, k) in
    let s : length (pasted l i d) ≡ length l = pasted_length l i d (omega (arith, z, h)) in
    rw (m, f, lent-whole l d i n z)
    (set-pasted (pasted l i d) (i + n) end (omega (arith, s, h)) ∙ ap (λ (t : ℕ). pasted (pasted l i d) (i + t) (end ∷ [])) (sym z) ∙ pasted-append l i d (end ∷ []) (omega (arith, z, h)))

-- ---- lines

pub counted-length : (label : List ℕ) (x : ℕ) → length (counted label x) ≡ length label + places x + 1
unfolding counted
counted-length label x = simp (length-append, digits-length)

pub count-written : (l label o q : List ℕ) (at x n : ℕ) → at + length (counted label x) ≤ length l → o ≡ pasted l at label → n ≡ places x
    → q ≡ pasted o (at + length label) (digits 10 n x ++ (10 ∷ [])) → (q ≡ pasted l at (counted label x)) × (at + length label + n + 1 ≡ at + length (counted label x))
unfolding counted
count-written l label o q at x n h oe e qe =
    let d = digits 10 n x in
    let k : length (d ++ (10 ∷ [])) ≡ n + 1 = simp (length-append, digits-length) in
    let c : length ((label ++ digits 10 (places x) x) ++ (10 ∷ [])) ≡ length label + n + 1 = simp (length-append, digits-length) (omega (arith, e)) in
    (qe ∙ rw oe (pasted-append l at label (d ++ (10 ∷ [])) (omega (arith, k, c, h))) ∙ ap (pasted l at) (sym (append_assoc label d (10 ∷ []))) ∙ rw e, omega (arith, c))

-- the two lines of counts and the lines of m pairs
pub sizes-join : (n m p q : ℕ) → p ≡ places n → q ≡ places m → 9 + p + (10 + q + m * pair_size) ≡ length (counted (ascii "records ") n) + (length (counted (ascii "repeated ") m) + m * pair_size)
sizes-join n m p q e f =
    let a = counted-length (ascii "records ") n in
    let b = counted-length (ascii "repeated ") m in
    omega (arith, a, b, e, f)

-- a number and a space, and a number and a line's end
pub pair-written : (l o q : List ℕ) (at k c : ℕ) → c < 2 ^ 64 → at + pair_size ≤ length l → o ≡ pasted l at (digits 16 16 k ++ (32 ∷ [])) → q ≡ pasted o (at + 17) (digits 16 16 c ++ (10 ∷ []))
    → q ≡ pasted l at (pair_lines (pair k c ∷ []))
unfolding pair_lines pair_line
pair-written l o q at k c w h oe qe =
    qe ∙ ap (λ (t : List ℕ). pasted t (at + 17) (digits 16 16 c ++ (10 ∷ []))) oe ∙ joined (digits 16 16 k) (digits 16 16 c) (digits-length 16 16 k) (digits-length 16 16 c)
    ∙ rw (high k 64 w, low k 64 w) (ap (pasted l at) (sym (append-nil (line (digits 16 16 k ++ (32 ∷ digits 16 16 c))))))
  where
    joined : (a b : List ℕ) → length a ≡ 16 → length b ≡ 16 → pasted (pasted l at (a ++ (32 ∷ []))) (at + 17) (b ++ (10 ∷ [])) ≡ pasted l at (line (a ++ (32 ∷ b)))
    joined a b p q =
        let n : length (a ++ (32 ∷ [])) ≡ 17 = length-append a (32 ∷ []) ∙ rw p in
        let m : length (b ++ (10 ∷ [])) ≡ 17 = length-append b (10 ∷ []) ∙ rw q in
        ap (λ (t : ℕ). pasted (pasted l at (a ++ (32 ∷ []))) (at + t) (b ++ (10 ∷ []))) (sym n) ∙ pasted-append l at (a ++ (32 ∷ [])) (b ++ (10 ∷ [])) (omega (arith, h, n, m))
        ∙ ap (pasted l at) (append_assoc a (32 ∷ []) (b ++ (10 ∷ [])) ∙ sym (append_assoc a (32 ∷ b) (10 ∷ [])))

pair_size_lem : (k c : ℕ) → length (pair_line k c) ≡ pair_size
unfolding pair_line
pair_size_lem k c = simp (length-append, digits-length)

pub lines-length : (l : List ℕ) → length (pair_lines l) ≡ length l * pair_size
unfolding pair_lines
lines-length [] = refl
lines-length (v ∷ vs) =
    let e = length-append (pair_line (v / 2 ^ 64) (v % 2 ^ 64)) (pair_lines vs) in
    let f = pair_size_lem (v / 2 ^ 64) (v % 2 ^ 64) in
    let g = lines-length vs in
    e ∙ omega (arith, f, g)

lines-append : (a b : List ℕ) → pair_lines (a ++ b) ≡ pair_lines a ++ pair_lines b
unfolding pair_lines
lines-append [] b = refl
lines-append (v ∷ a) b = ap (λ (t : List ℕ). pair_line (v / 2 ^ 64) (v % 2 ^ 64) ++ t) (lines-append a b) ∙ sym (append_assoc (pair_line (v / 2 ^ 64) (v % 2 ^ 64)) (pair_lines a) (pair_lines b))

-- the lines of the first i pairs are written
abbrev pub Lining : (l : List ℕ) (at : ℕ) (ps : List Pair) (o : List ℕ) (i : ℕ) → Type 0
Lining l at ps o i = (length o ≡ length l) × (i ≤ length ps) × (o ≡ pasted l at (pair_lines (listed (take i ps))))

pub lines_start : (l : List ℕ) (at : ℕ) (ps : List Pair) → at ≤ length l → Lining l at ps l 0
unfolding pair_lines pasted
lines_start l at ps h = (refl, omega arith, rw add-zero (sym (take-append-drop at l)))

listed_more : (ps : List Pair) (i : ℕ) (d : Pair) → i < length ps → listed (take (i + 1) ps) ≡ listed (take i ps) ++ (value (get_or ps i d) ∷ [])
listed_more [] i d h = absurd (omega arith)
listed_more (p ∷ ps) zero d h = refl
listed_more (p ∷ ps) (suc i) d h = simp unary_clauses (ap (λ (t : List ℕ). value p ∷ t) (simp unary_clauses at (listed_more ps i d (omega arith))))

pub lines-go-on : (l : List ℕ) (at : ℕ) (ps : List Pair) (o r : List ℕ) (i : ℕ) (d : Pair) → d ≡ get_or ps i d → at + length ps * pair_size ≤ length l → i < length ps → Lining l at ps o i
    → r ≡ pasted o (at + i * pair_size) (pair_lines (value d ∷ [])) → Lining l at ps r (i + 1)
lines-go-on l at ps o r i d y h k s e =
    let v = value d in
    let a = pair_lines (listed (take i ps)) in
    let b = pair_lines (v ∷ []) in
    let p : length a ≡ i * pair_size = lines-length (listed (take i ps)) ∙ rw (listed_size ps i s.1) in
    let q : length b ≡ pair_size = lines-length (v ∷ []) in
    let z : at + length a + length b ≤ length l = omega (arith, p, q, h, k) in
    let f : r ≡ pasted l at (a ++ b) = e ∙ ap₂ (λ (t : List ℕ) (m : ℕ). pasted t (at + m) b) s.2 (sym p) ∙ pasted-append l at a b z in
    let g : r ≡ pasted l at (pair_lines (listed (take (i + 1) ps))) = f ∙ ap (pasted l at) (sym (ap pair_lines (listed_more ps i d k ∙ ap (λ (u : Pair). listed (take i ps) ++ (value u ∷ [])) (sym y)) ∙ lines-append (listed (take i ps)) (v ∷ []))) in
    let m : length (a ++ b) ≡ length a + length b = length-append a b in
    (ap length f ∙ pasted_length l at (a ++ b) (omega (arith, m, z)), omega arith, g)

pub lines_end : (l : List ℕ) (at : ℕ) (ps : List Pair) (o : List ℕ) (i : ℕ) → Lining l at ps o i → length ps ≤ i → o ≡ pasted l at (pair_lines (listed ps))
lines_end l at ps o i s h =
    let e : i ≡ length ps = omega (arith, s.1) in
    s.2 ∙ ap (λ (k : ℕ). pasted l at (pair_lines (listed (take k ps)))) e ∙ ap (λ (t : List Pair). pasted l at (pair_lines (listed t))) (take-length ps)

-- ---- the report

-- what is answered, and what stands in the room
abbrev pub Answers : (number length : ℕ) (room : List ℕ) (o : Outcome) → Type 0
Answers number length room o = ((number ≡ o.number) × (length ≡ o.written)) × (room ≡ o.room)

pub written-refused : (text room : List ℕ) (n : ℕ) → n ≡ length text → length room < n → Answers room_short 0 room (written text room)
unfolding written first settled
written-refused text room n e h = let t = lt-ltb (length room) (length text) (rw e at h) in ((rw t, rw t), rw t)

pub written-done : (text room r : List ℕ) (n : ℕ) → n ≡ length text → n ≤ length room → r ≡ text ++ drop (length text) room → Answers done n r (written text room)
unfolding written first settled
written-done text room r n e h q = let t = le-ltb (length room) (length text) (rw e at h) in ((rw t, rw t e), rw t q)

pub listing-length : (n : ℕ) (l : List ℕ) → length (listing n l) ≡ length (counted (ascii "records ") n) + (length (counted (ascii "repeated ") (length l)) + length l * pair_size)
unfolding listing
listing-length n l = simp (length-append, lines-length)

-- m pairs are listed of n records: size is the text's
module _ (n m size : ℕ) (l room : List ℕ) (z : length l ≡ m) (e : size ≡ length (counted (ascii "records ") n) + (length (counted (ascii "repeated ") m) + m * pair_size)) where
  size_is : size ≡ length (listing n l)
  size_is = e ∙ sym (listing-length n l ∙ rw z)

  pub listing-refused : length room < size → Answers room_short 0 room (written (listing n l) room)
  listing-refused h = written-refused (listing n l) room size size_is h

  -- each of the three is written behind the one before it
  pub listing-written : (o p q : List ℕ) (second third : ℕ) → size ≤ length room → o ≡ pasted room 0 (counted (ascii "records ") n) → second ≡ 0 + length (counted (ascii "records ") n)
      → p ≡ pasted o second (counted (ascii "repeated ") m) → third ≡ second + length (counted (ascii "repeated ") m) → q ≡ pasted p third (pair_lines l) → Answers done size q (written (listing n l) room)
  unfolding listing
  listing-written o p q second third h oe se pe te qe =
      let a = counted (ascii "records ") n in
      let b = counted (ascii "repeated ") m in
      let k : length (pair_lines l) ≡ m * pair_size = lines-length l ∙ rw z in
      let ab : length (a ++ b) ≡ length a + length b = length-append a b in
      let f : p ≡ pasted room 0 (a ++ b) = pe ∙ rw (oe, se) (pasted-append room 0 a b (omega (arith, e, h))) in
      let t : third ≡ 0 + length (a ++ b) = te ∙ rw (se, ab) (omega arith) in
      let g : q ≡ pasted room 0 ((a ++ b) ++ pair_lines l) = qe ∙ rw (f, t) (pasted-append room 0 (a ++ b) (pair_lines l) (omega (arith, e, h, k, ab))) in
      let w : q ≡ pasted room 0 (listing n l) = g ∙ ap (pasted room 0) (append_assoc a b (pair_lines l) ∙ ap (λ (i : ℕ). a ++ (counted (ascii "repeated ") i ++ pair_lines l)) (sym z)) in
      written-done (listing n l) room q size size_is h (w ∙ pasted-front room (listing n l))

-- what is answered of a text is answered of an equal one
pub answers-same : (t u room r : List ℕ) (n k : ℕ) → t ≡ u → Answers n k r (written t room) → Answers n k r (written u room)
answers-same t u room r n k e a = rw (← e) a

pub listing-of : (log l : List ℕ) → l ≡ repeated (pairs (length log / record_size) log) → listing (length log / record_size) l ≡ listing_of log
unfolding listing_of
listing-of log l e = rw e

module _ (log : List ℕ) where
  pub report-long : max_log < length log → too_long ≡ report log
  unfolding report
  report-long h = rw (lt-ltb max_log (length log) h)

  module _ (h : length log ≤ max_log) where
    pub report-bad : (length log % record_size ≡ 0 → ⊥) → bad_length ≡ report log
    unfolding report
    report-bad d = rw (le-ltb max_log (length log) h, ne_eqb (length log % record_size) 0 d)

    pub report-whole : length log % record_size ≡ 0 → listing_of log ≡ report log
    unfolding report
    report-whole e = rw (le-ltb max_log (length log) h, eq-eqb (length log % record_size) 0 e)

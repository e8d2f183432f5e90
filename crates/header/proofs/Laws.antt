-- SPDX-License-Identifier: MIT
-- Laws of the header, for this crate's proofs and for those above it. Assumes nothing.
use mathlib.Core.Path.{◌≡◌, refl, sym, ◌∙◌, ap, ap₂}
use mathlib.Core.Bool.{Bool, true, false}
use mathlib.Core.List.{List, [], ◌∷◌, ◌++◌, append_assoc}
use mathlib.Core.Logic.{◌↔◌}
use Prim.Native.Nat.{ℕ, zero, suc, ◌+◌, ◌*◌, ◌/◌, ◌%◌, ◌^◌, ◌-◌, ◌<◌, ◌≤◌}
use native.Mathlib.Nat.{pow-suc, pow-le-pow_right, lt_of_lt_of_le, mod-eq_of_lt, le_trans}
use native.Mathlib.Omega.{arith}
use lib.Count.{count_leading_zeros, leading_top}
use lib.Dec.{leb, ltb, eqb}
use lib.ListN.{length, get_or, take, drop, length-append, length-drop}
use lib.Pow.{pow-add, pow_mono}
use lib.Seq.{drop_at, take-add, length-take-le}
use borrow.Author.Tests.{lt-ltb, le-ltb, le-leb, lt-leb, ltb-true, ltb-false, leb-true, leb-false}
use Rattle.octets.specs.Octets.{Octets, number, bytes, pick}
use Rattle.octets.proofs.Laws.{bytes-length, number-bytes, number_append, number-take, number_lt, octets-drop}
use Rattle.header.specs.Header.{size, flag, code, width, config, max_header, header, read_bytes, read_field, with_counter, read_counter, read_header, field_bytes, announced, CutShort, field, header_of}
use Rattle.header.specs.Answers.{read_kid, read_ctr, read_length}
use Rattle.header.specs.declared.Ctr.{Ctr}
use Rattle.header.specs.declared.Field.{Field}
use Rattle.header.specs.declared.Header.{Header}
use Rattle.std.specs.Prelude.{Option, Some, None}
use Rattle.header.specs.declared.Kid.{Kid}

-- the two outcomes of a test
pub data Two (b : Bool) : Type 0 where
  yes' : b ≡ true → Two b
  no' : b ≡ false → Two b

pub two : (b : Bool) → Two b
two true = yes' refl
two false = no' refl

-- ---- the least number of bytes

bytes_bits : (n : ℕ) → 256 ^ n ≡ 2 ^ (8 * n)
bytes_bits zero = refl
bytes_bits (suc n) = rw (pow-suc, bytes_bits n) (sym (ap (λ (k : ℕ). 2 ^ k) (omega arith) ∙ pow-add 2 (8 * n) 8))

record Sized (v n : ℕ) : Type 0 where
  some : 1 ≤ n
  most : n ≤ 8
  holds : v < 256 ^ n
  needs : 256 ^ (n - 1) ≤ v

sized : (v : ℕ) → 0 < v → v < 2 ^ 64 → Sized v (size v)
unfolding size
sized v p h =
    let t = leading_top 64 v p h in
    let e : count_leading_zeros 64 v + suc t.0 ≡ 64 = t.1 in
    record {
      some = omega arith;
      most = omega arith;
      holds = rw bytes_bits (lt_of_lt_of_le t.3 (pow_mono (omega arith)));
      needs = rw bytes_bits (le_trans (pow_mono (omega arith)) t.2);
    }

-- a value takes as many bytes as it needs, and no fewer would hold it
pub size_holds : (v : ℕ) → 0 < v → v < 2 ^ 64 → v < 256 ^ size v
size_holds v p h = (sized v p h).holds

pub size-least : (v n : ℕ) → 0 < v → v < 2 ^ 64 → v < 256 ^ n → size v ≤ n
size-least v n p h l = by (two (leb (size v) n))
  where
    by : Two (leb (size v) n) → size v ≤ n
    by (yes' e) = leb-true (size v) n e
    by (no' e) =
        let q : n ≤ size v - 1 = omega (arith, leb-false (size v) n e) in
        absurd (omega (arith, (sized v p h).needs, pow-le-pow_right {n = 256} (omega arith) q))

-- ---- a field

pub record FieldBits (v : ℕ) : Type 0 where
  pub flag-bit : flag v < 2
  pub code-bits : code v < 8
  pub width-most : width v ≤ 8

pub field-bits : (v : ℕ) → v < 2 ^ 64 → FieldBits v
unfolding flag code width
field-bits v h = by (two (ltb v 8))
  where
    by : Two (ltb v 8) → FieldBits v
    by (yes' e) = let l = ltb-true v 8 e in record { flag-bit = rw e (omega arith); code-bits = rw e l; width-most = rw e (omega arith) }
    by (no' e) =
        let s = sized v (omega (arith, ltb-false v 8 e)) h in
        record { flag-bit = rw e (omega arith); code-bits = rw e (omega (arith, s.some, s.most)); width-most = rw e s.most }

-- bytes that hold a value are read
read-bytes : (n v : ℕ) (l : List ℕ) → n ≤ length l → number n l ≡ v → read_bytes n l ≡ Some (field v n)
unfolding read_bytes
read-bytes n v l h e = rw (le-leb n (length l) h, e)

-- the flag and the three bits together, where n bytes follow
pub nibble-short : (v : ℕ) → v < 8 → v ≡ flag v * 8 + code v
unfolding flag code
nibble-short v h = rw (lt-ltb v 8 h) (omega arith)

pub nibble-long : (v n : ℕ) → 8 ≤ v → v < 2 ^ 64 → n ≡ width v → 7 + n ≡ flag v * 8 + code v
unfolding flag code width
nibble-long v n h b e =
    let f : ltb v 8 ≡ false = le-ltb v 8 h in
    let w : n ≡ size v = rw f at e in
    let s = sized v (omega arith) b in
    rw f (omega (arith, s.some))

pub nibble-lt : (v : ℕ) → v < 2 ^ 64 → flag v * 8 + code v < 16
nibble-lt v h = let b = field-bits v h in omega (arith, b.flag-bit, b.code-bits)

-- a field written is read back, whatever follows it
field-read : (v : ℕ) (rest : List ℕ) → v < 2 ^ 64 → read_field (flag v) (code v) (bytes (width v) v ++ rest) ≡ Some (field v (width v))
unfolding flag code width read_field
field-read v rest h = by (two (ltb v 8))
  where
    by : Two (ltb v 8) → read_field (flag v) (code v) (bytes (width v) v ++ rest) ≡ Some (field v (width v))
    by (yes' e) = rw e
    by (no' e) =
        let s = sized v (omega (arith, ltb-false v 8 e)) h in
        let n : size v - 1 + 1 ≡ size v = omega (arith, s.some) in
        let b = bytes-length (size v) v in
        let w : number (size v) (bytes (size v) v ++ rest) ≡ v =
        number_append (size v) (bytes (size v) v) rest (omega arith) ∙ number-bytes (size v) v ∙ mod-eq_of_lt s.holds
        in
        rw (e, n) (read-bytes (size v) v (bytes (size v) v ++ rest) (rw length-append (omega arith)) w)

-- ---- a field as it is received

-- the value of a field whose bytes are there
abbrev value_of : (x k : ℕ) (l : List ℕ) → ℕ
value_of x k l = pick (eqb x 0) k (number (k + 1) l)

-- it is read where its bytes are there, and where they are not it is refused
field-there : (x k : ℕ) (l : List ℕ) → field_bytes x k ≤ length l → read_field x k l ≡ Some (field (value_of x k l) (field_bytes x k))
unfolding read_field field_bytes
field-there x k l h = by (two (eqb x 0))
  where
    by : Two (eqb x 0) → read_field x k l ≡ Some (field (value_of x k l) (field_bytes x k))
    by (yes' t) = rw t
    by (no' t) = rw t (read-bytes (k + 1) (number (k + 1) l) l (rw t at h) refl)

field_cut : (x k : ℕ) (l : List ℕ) → length l < field_bytes x k → read_field x k l ≡ None
unfolding read_field read_bytes field_bytes
field_cut x k l h = by (two (eqb x 0))
  where
    by : Two (eqb x 0) → read_field x k l ≡ None
    by (yes' t) = let z : length l < 0 = rw t at h in absurd (omega arith)
    by (no' t) = rw (t, lt-leb (k + 1) (length l) (rw t at h))

value_read : Option Field → ℕ
value_read (Some f) = f.value
value_read None = 0

width_read : Option Field → ℕ
width_read (Some f) = f.width
width_read None = 0

refused-no-value : (v n : ℕ) → None ≡ Some (field v n) → ⊥
refused-no-value v n e = let z : ◌≡◌ {A = ℕ} 0 1 = cc in omega arith

-- what is read of it: its bytes and no others
record FieldRead (x k : ℕ) (l : List ℕ) (v n : ℕ) : Type 0 where
  length-is : n ≡ field_bytes x k
  inside : n ≤ length l
  value-is : v ≡ value_of x k l

field_found : (x k v n : ℕ) (l : List ℕ) → read_field x k l ≡ Some (field v n) → FieldRead x k l v n
unfolding field_bytes width_read value_read
field_found x k v n l e = by (two (leb (field_bytes x k) (length l)))
  where
    by : Two (leb (field_bytes x k) (length l)) → FieldRead x k l v n
    by (yes' t) =
        let h = leb-true (field_bytes x k) (length l) t in
        let q : Some (field (value_of x k l) (field_bytes x k)) ≡ Some (field v n) = sym (field-there x k l h) ∙ e in
        let m : field_bytes x k ≡ n = ap width_read q in
        record { length-is = sym m; inside = rw m at h; value-is = sym (ap value_read q) }
    by (no' t) = absurd (refused-no-value v n (sym (field_cut x k l (leb-false (field_bytes x k) (length l) t)) ∙ e))

-- a field takes no more bytes than there are
pub field-inside : (x k v n : ℕ) (l : List ℕ) → read_field x k l ≡ Some (field v n) → n ≤ length l
field-inside x k v n l e = (field_found x k v n l e).inside

-- it has 8 bytes at most, and its value 64 bits
field-most : (x k : ℕ) → k < 8 → field_bytes x k ≤ 8
unfolding field_bytes
field-most x k h = by (two (eqb x 0))
  where
    by : Two (eqb x 0) → field_bytes x k ≤ 8
    by (yes' t) = rw t (omega arith)
    by (no' t) = rw t (omega arith)

value-below : (x k : ℕ) (l : List ℕ) → k < 8 → Octets l → value_of x k l < 2 ^ 64
value-below x k l h o = by (two (eqb x 0))
  where
    by : Two (eqb x 0) → value_of x k l < 2 ^ 64
    by (yes' t) = rw t (omega arith)
    by (no' t) =
        let m : k + 1 ≤ 8 = omega arith in
        rw t (lt_of_lt_of_le (number_lt (k + 1) l o) (pow-le-pow_right {n = 256} (omega arith) m))

-- its own bytes are read as it was, whatever follows them
field-front : (x k v n : ℕ) (l rest : List ℕ) → read_field x k l ≡ Some (field v n) → read_field x k (take n l ++ rest) ≡ Some (field v n)
unfolding field_bytes
field-front x k v n l rest e =
    field-there x k (take n l ++ rest) (rw (← f.length-is, length-append, taken) (omega arith))
    ∙ ap₂ (λ (v n : ℕ). Some (field v n)) (same-value (two (eqb x 0)) ∙ sym f.value-is) (sym f.length-is)
  where
    f : FieldRead x k l v n
    f = field_found x k v n l e

    taken : length (take n l) ≡ n
    taken = length-take-le n l f.inside

    same-value : Two (eqb x 0) → value_of x k (take n l ++ rest) ≡ value_of x k l
    same-value (yes' t) = rw t
    same-value (no' t) =
        let m : n ≡ k + 1 = rw t at f.length-is in
        rw t (number_append (k + 1) (take n l) rest (rw taken (omega arith)) ∙ number-take (k + 1) n l (omega arith))

-- ---- the header

-- the config byte gives back X, K, Y and C
record ConfigBits (b x k y c : ℕ) : Type 0 where
  x-is : b / 128 ≡ x
  k-is : b / 16 % 8 ≡ k
  y-is : b / 8 % 2 ≡ y
  c-is : b % 8 ≡ c

config-parts : (x k y c : ℕ) → x < 2 → k < 8 → y < 2 → c < 8 → ConfigBits (x * 128 + k * 16 + y * 8 + c) x k y c
config-parts x k y c hx hk hy hc = record { x-is = omega arith; k-is = omega arith; y-is = omega arith; c-is = omega arith }

config-bits : (kid ctr : ℕ) → kid < 2 ^ 64 → ctr < 2 ^ 64 → ConfigBits (config kid ctr) (flag kid) (code kid) (flag ctr) (code ctr)
unfolding config
config-bits kid ctr hk hc =
    let a = field-bits kid hk in
    let b = field-bits ctr hc in
    config-parts (flag kid) (code kid) (flag ctr) (code ctr) a.flag-bit a.code-bits b.flag-bit b.code-bits

pub header-size : (kid ctr : ℕ) → length (header kid ctr) ≡ 1 + width kid + width ctr
unfolding header
header-size kid ctr = rw (length-append, bytes-length, bytes-length) (omega arith)

-- a header is 1 to 17 bytes long
pub header-length : (kid ctr : ℕ) → kid < 2 ^ 64 → ctr < 2 ^ 64 → (1 ≤ length (header kid ctr)) × (length (header kid ctr) ≤ max_header)
header-length kid ctr hk hc =
    let n = header-size kid ctr in
    let a = (field-bits kid hk).width-most in
    let b = (field-bits ctr hc).width-most in
    (omega arith, omega arith)

-- a header whose two fields are read is read
read-parts : (b x k y c kid a ctr n : ℕ) (l : List ℕ) → ConfigBits b x k y c → read_field x k l ≡ Some (field kid a) → read_field y c (drop a l) ≡ Some (field ctr n)
    → read_header (b ∷ l) ≡ header_of (record { 0 = kid }) (record { 0 = ctr }) (1 + a + n)
unfolding read_header read_counter with_counter
read-parts b x k y c kid a ctr n l p e f = rw (p.x-is, p.k-is, e, p.y-is, p.c-is, f)

-- a header written is read back, whatever follows it
pub read-header : (kid ctr : ℕ) (rest : List ℕ) → kid < 2 ^ 64 → ctr < 2 ^ 64
    → read_header (header kid ctr ++ rest) ≡ header_of (record { 0 = kid }) (record { 0 = ctr }) (length (header kid ctr))
unfolding header
read-header kid ctr rest hk hc =
    let a = bytes (width kid) kid in
    let b = bytes (width ctr) ctr in
    let l = (a ++ b) ++ rest in
    let e : l ≡ a ++ (b ++ rest) = append_assoc a b rest in
    read-parts (config kid ctr) (flag kid) (code kid) (flag ctr) (code ctr) kid (width kid) ctr (width ctr) l (config-bits kid ctr hk hc)
    (ap (read_field (flag kid) (code kid)) e ∙ field-read kid (b ++ rest) hk)
    (ap (λ (t : List ℕ). read_field (flag ctr) (code ctr) (drop (width kid) t)) e
    ∙ ap (read_field (flag ctr) (code ctr)) (drop_at a (b ++ rest) (width kid) (bytes-length (width kid) kid))
    ∙ field-read ctr rest hc)
    ∙ ap (header_of (record { 0 = kid }) (record { 0 = ctr })) (sym (header-size kid ctr))

-- ---- a header as it is received

invalid-no-header : (k : Kid) (c : Ctr) (n : ℕ) → None ≡ header_of k c n → ⊥
invalid-no-header k c n e = let z : ◌≡◌ {A = ℕ} 0 1 = cc in omega arith

-- its two fields
record FieldsRead (b : ℕ) (l : List ℕ) (kid ctr n : ℕ) : Type 0 where
  kid-length : ℕ
  ctr-length : ℕ
  kid-read : read_field (b / 128) (b / 16 % 8) l ≡ Some (field kid kid-length)
  ctr-read : read_field (b / 8 % 2) (b % 8) (drop kid-length l) ≡ Some (field ctr ctr-length)
  whole : 1 + kid-length + ctr-length ≡ n

fields_read : (b : ℕ) (l : List ℕ) (k : Kid) (c : Ctr) (n : ℕ) → read_header (b ∷ l) ≡ header_of k c n → FieldsRead b l k.0 c.0 n
unfolding read_header read_counter with_counter
fields_read b l k c n e = kid-then (read_field (b / 128) (b / 16 % 8) l) refl e
  where
    ctr-then : (kid a : ℕ) → read_field (b / 128) (b / 16 % 8) l ≡ Some (field kid a) → (f : Option Field) → read_field (b / 8 % 2) (b % 8) (drop a l) ≡ f
        → with_counter kid a f ≡ header_of k c n → FieldsRead b l k.0 c.0 n
    ctr-then kid a p None q w = absurd (invalid-no-header k c n w)
    ctr-then kid a p (Some f) q w =
        let kk : kid ≡ k.0 = ap read_kid w in
        let cc' : f.value ≡ c.0 = ap read_ctr w in
        record { kid-length = a; ctr-length = f.width; kid-read = p ∙ ap (λ (v : ℕ). Some (field v a)) kk; ctr-read = q ∙ ap (λ (v : ℕ). Some (field v f.width)) cc'; whole = ap read_length w }

    kid-then : (f : Option Field) → read_field (b / 128) (b / 16 % 8) l ≡ f → read_counter b l f ≡ header_of k c n → FieldsRead b l k.0 c.0 n
    kid-then None q w = absurd (invalid-no-header k c n w)
    kid-then (Some f) q w = ctr-then f.value f.width q (read_field (b / 8 % 2) (b % 8) (drop f.width l)) refl w

-- it has the length that its first byte announces, and all of it is there
spans : (b : ℕ) (l : List ℕ) (k : Kid) (c : Ctr) (n : ℕ) → read_header (b ∷ l) ≡ header_of k c n → (n ≡ announced b) × (n ≤ length (b ∷ l))
unfolding announced
spans b l k c n e =
    let p = fields_read b l k c n e in
    let x = field_found _ _ _ _ l p.kid-read in
    let y = field_found _ _ _ _ (drop p.kid-length l) p.ctr-read in
    (omega (arith, p.whole, x.length-is, y.length-is), omega (arith, p.whole, x.inside, simp length-drop at y.inside))

-- two numbers of 64 bits, in 1 to 17 bytes
pub record HeaderRead (l : List ℕ) (kid ctr n : ℕ) : Type 0 where
  pub kid-below : kid < 2 ^ 64
  pub ctr-below : ctr < 2 ^ 64
  pub length-is : n ≡ announced (get_or l 0 0)
  pub least : 1 ≤ n
  pub most : n ≤ max_header
  pub inside : n ≤ length l

pub header_read : (l : List ℕ) (k : Kid) (c : Ctr) (n : ℕ) → Octets l → read_header l ≡ header_of k c n → HeaderRead l k.0 c.0 n
unfolding read_header
header_read [] k c n o e = absurd (invalid-no-header k c n e)
header_read (b ∷ l) k c n o e =
    let p = fields_read b l k c n e in
    let s = spans b l k c n e in
    let x = field_found _ _ _ _ l p.kid-read in
    let y = field_found _ _ _ _ (drop p.kid-length l) p.ctr-read in
    let mx = field-most (b / 128) (b / 16 % 8) (omega arith) in
    let my = field-most (b / 8 % 2) (b % 8) (omega arith) in
    record {
      kid-below = rw x.value-is (value-below (b / 128) (b / 16 % 8) l (omega arith) rest);
      ctr-below = rw y.value-is (value-below (b / 8 % 2) (b % 8) (drop p.kid-length l) (omega arith) (octets-drop p.kid-length l rest));
      length-is = s.0;
      least = omega (arith, p.whole);
      most = omega (arith, p.whole, x.length-is, y.length-is, mx, my);
      inside = s.1;
    }
  where
    rest : Octets l
    rest i = o (suc i)

-- and where its bytes are all there it is read
all_there : (b : ℕ) (l : List ℕ) → announced b ≤ length (b ∷ l) → read_header (b ∷ l) ≡ None → ⊥
unfolding announced
all_there b l h e =
    let a = field_bytes (b / 128) (b / 16 % 8) in
    let c = field_bytes (b / 8 % 2) (b % 8) in
    invalid-no-header _ _ _
    (sym e
    ∙ read-parts b (b / 128) (b / 16 % 8) (b / 8 % 2) (b % 8) _ a _ c l (record { x-is = refl; k-is = refl; y-is = refl; c-is = refl })
    (field-there _ _ l (omega arith))
    (field-there _ _ (drop a l) (rw length-drop (omega arith))))

there : (l : List ℕ) → read_header l ≡ None → CutShort l
there [] e = tt
there (b ∷ l) e = by (two (leb (announced b) (length (b ∷ l))))
  where
    by : Two (leb (announced b) (length (b ∷ l))) → CutShort (b ∷ l)
    by (yes' t) = absurd (all_there b l (leb-true (announced b) (length (b ∷ l)) t) e)
    by (no' t) = leb-false (announced b) (length (b ∷ l)) t

back : (l : List ℕ) → CutShort l → read_header l ≡ None
unfolding read_header
back [] h = refl
back (b ∷ l) h = by (read_header (b ∷ l)) refl
  where
    by : (r : Option Header) → read_header (b ∷ l) ≡ r → read_header (b ∷ l) ≡ None
    by None q = q
    by (Some r) q = let s = spans b l r.kid r.ctr r.length q in absurd (omega (arith, s.0, s.1, h))

-- a header is refused exactly when it is cut short
pub cut_short : (l : List ℕ) → (read_header l ≡ None) ↔ CutShort l
cut_short l = (there l, back l)

-- its own bytes are read as it was, whatever follows them
pub header-front : (l rest : List ℕ) (k : Kid) (c : Ctr) (n : ℕ) → read_header l ≡ header_of k c n → read_header (take n l ++ rest) ≡ header_of k c n
unfolding read_header
header-front [] rest k c n e = absurd (invalid-no-header k c n e)
header-front (b ∷ l) rest k c n e =
    let p = fields_read b l k c n e in
    let a = p.kid-length in
    let m = p.ctr-length in
    let w : n ≡ suc (a + m) = omega (arith, p.whole) in
    let s : take n (b ∷ l) ++ rest ≡ b ∷ (take a l ++ (take m (drop a l) ++ rest)) =
    ap (λ (j : ℕ). take j (b ∷ l) ++ rest) w ∙ ap (λ (t : List ℕ). b ∷ t) (ap (λ (t : List ℕ). t ++ rest) (take-add a m l) ∙ append_assoc (take a l) (take m (drop a l)) rest)
    in
    ap read_header s
    ∙ read-parts b (b / 128) (b / 16 % 8) (b / 8 % 2) (b % 8) k.0 a c.0 m (take a l ++ (take m (drop a l) ++ rest)) (record { x-is = refl; k-is = refl; y-is = refl; c-is = refl })
    (field-front _ _ k.0 a l (take m (drop a l) ++ rest) p.kid-read)
    (ap (read_field (b / 8 % 2) (b % 8)) (drop_at (take a l) (take m (drop a l) ++ rest) a (length-take-le a l (field-inside _ _ _ a l p.kid-read)))
    ∙ field-front _ _ c.0 m (drop a l) rest p.ctr-read)
    ∙ ap (header_of k c) p.whole

-- bytes that begin with two headers begin with one: neither begins the other
pub header-begins : (kid ctr kid' ctr' : ℕ) (x y : List ℕ) → kid < 2 ^ 64 → ctr < 2 ^ 64 → kid' < 2 ^ 64 → ctr' < 2 ^ 64
    → header kid ctr ++ x ≡ header kid' ctr' ++ y → (kid ≡ kid') × (ctr ≡ ctr') × (x ≡ y)
header-begins kid ctr kid' ctr' x y a b c d e =
    let r : header_of (record { 0 = kid }) (record { 0 = ctr }) (length (header kid ctr)) ≡ header_of (record { 0 = kid' }) (record { 0 = ctr' }) (length (header kid' ctr')) =
    sym (read-header kid ctr x a b) ∙ ap read_header e ∙ read-header kid' ctr' y c d
    in
    let en : length (header kid ctr) ≡ length (header kid' ctr') = ap read_length r in (
      ap read_kid r,
      ap read_ctr r,
      sym (drop_at (header kid ctr) x (length (header kid ctr)) refl)
          ∙ ap₂ drop en e
          ∙ drop_at (header kid' ctr') y (length (header kid' ctr')) refl,
    )

-- SPDX-License-Identifier: MIT
-- One turn of each loop of this crate, over plain variables. Assumes nothing.
use mathlib.Core.Path.{◌≡◌, refl, sym, ◌∙◌, ap, ap₂}
use mathlib.Core.List.{List, [], ◌∷◌, ◌++◌, append_assoc, append-nil}
use Prim.Native.Nat.{ℕ, zero, suc, ◌+◌, ◌*◌, ◌/◌, ◌%◌, ◌^◌, ◌-◌, ◌<◌, ◌≤◌}
use native.Mathlib.Nat.{sub_self, sub-zero, pow-zero, div-one, div-div-eq-div-mul, pow-suc, pow-le-pow_right, lt_of_lt_of_le}
use native.Mathlib.Numerals.{add-one, one-add}
use native.Mathlib.Omega.{arith}
use lib.Arith.{digits_lt}
use lib.Bits.{bit_or, bit_xor, xor_self, or_zero_l}
use lib.ListN.{length, get_or, take, drop, set, take-append-drop}
use lib.Seq.{take-suc, drop-cons, set_at, get_or_at, take_all, get_or-drop, drop-length, take-length, get_or-take, take-take, length-take-le}
use Rattle.std.specs.Int.{w32, w64, from_be_bytes, bytes_high_first}
use Rattle.octets.specs.Octets.{number, bytes, xors}
use Rattle.octets.proofs.Bits.{or-zero, xor-zero}
use Rattle.octets.proofs.Laws.{number-suc, bytes-zero, bytes-suc, bytes-length, xors-length}

-- a list filled front to back takes one element more
pub fill-next : (x l : List ℕ) (i v : ℕ) → length x ≡ i → i < length l → set (x ++ drop i l) i v ≡ (x ++ (v ∷ [])) ++ drop (i + 1) l
fill-next x l i v e h = rw (add-one, drop-cons l i 0 h, set_at x (get_or l i 0) (drop (suc i) l) v i e) (simp append_assoc)

-- and at the end there is nothing left of what it held
pub filled : (f : ℕ → List ℕ) (o l : List ℕ) (i : ℕ) → i ≤ length l → length l ≤ i → o ≡ f i ++ drop i l → o ≡ f (length l)
filled f o l i h k q =
    let e : i ≡ length l = omega arith in
    q ∙ ap (λ (n : ℕ). f n ++ drop n l) e ∙ ap (λ (t : List ℕ). f (length l) ++ t) (drop-length l) ∙ append-nil (f (length l))

-- reading: one byte more
pub number-next : (x d i : ℕ) (l : List ℕ) → x ≡ number i l → d ≡ get_or l i 0 → x * 256 + d ≡ number (i + 1) l
number-next x d i l e q = rw (add-one, number-suc, e, q)

pub number-below : (x d i : ℕ) → x < 256 ^ i → d < 256 → x * 256 + d < 256 ^ (i + 1)
number-below x d i h k = rw (add-one, pow-suc) (digits_lt h k)

pub number_fits : (x d i : ℕ) → i < 8 → x < 256 ^ i → d < 256 → x * 256 + d < 2 ^ 64
number_fits x d i l h k = lt_of_lt_of_le (number-below x d i h k) (pow-le-pow_right {n = 256} (omega arith) {i = i + 1} {j = 8} (omega arith))

pub number-done : (x n i : ℕ) (l : List ℕ) → i ≤ n → n ≤ i → x ≡ number i l → x < 256 ^ i → (x ≡ number n l) × (x < 256 ^ n)
number-done x n i l h k e q =
    let w : i ≡ n = omega arith in
    (e ∙ ap (λ (m : ℕ). number m l) w, rw w at q)

-- the library's number of four bytes and of eight
pub number-four : (l : List ℕ) → from_be_bytes w32 (get_or l 0 0 ∷ get_or l 1 0 ∷ get_or l 2 0 ∷ get_or l 3 0 ∷ []) ≡ number 4 l
unfolding number
number-four l = omega arith

pub number-eight : (l : List ℕ)
    → from_be_bytes w64 (get_or l 0 0 ∷ get_or l 1 0 ∷ get_or l 2 0 ∷ get_or l 3 0 ∷ get_or l 4 0 ∷ get_or l 5 0 ∷ get_or l 6 0 ∷ get_or l 7 0 ∷ []) ≡ number 8 l
unfolding number
number-eight l = omega arith

-- writing: one byte more, from the last to the first
bytes-before : (l t : List ℕ) (x j k : ℕ) → j < length l → set (take (suc j) l ++ (bytes k x ++ t)) j (x / 256 ^ k % 256) ≡ take j l ++ (bytes (suc k) x ++ t)
bytes-before l t x j k h =
    rw (take-suc l j 0 h, append_assoc (take j l) (get_or l j 0 ∷ []) (bytes k x ++ t), set_at (take j l) (get_or l j 0) (bytes k x ++ t) (x / 256 ^ k % 256) j (length-take-le j l (omega arith)), bytes-suc)

pub bytes_next : (o l : List ℕ) (r n x i : ℕ) → 0 < i → i ≤ n → n ≤ length l → r ≡ x / 256 ^ (n - i) → o ≡ take i l ++ (bytes (n - i) x ++ drop n l)
    → set o (i - 1) (r % 256) ≡ take (i - 1) l ++ (bytes (n - (i - 1)) x ++ drop n l)
bytes_next o l r n x i p h k q w =
    let e : i ≡ suc (i - 1) = omega arith in
    let f : n - (i - 1) ≡ suc (n - i) = omega arith in
    ap₂ (λ (t : List ℕ) (v : ℕ). set t (i - 1) (v % 256)) w q
    ∙ ap (λ (m : ℕ). set (take m l ++ (bytes (n - i) x ++ drop n l)) (i - 1) (x / 256 ^ (n - i) % 256)) e
    ∙ bytes-before l (drop n l) x (i - 1) (n - i) (omega arith)
    ∙ ap (λ (m : ℕ). take (i - 1) l ++ (bytes m x ++ drop n l)) (sym f)

pub rest-next : (r x n i : ℕ) → 0 < i → i ≤ n → r ≡ x / 256 ^ (n - i) → r / 256 ≡ x / 256 ^ (n - (i - 1))
rest-next r x n i p h q =
    let f : n - (i - 1) ≡ suc (n - i) = omega arith in
    rw (q, div-div-eq-div-mul, f, pow-suc)

pub bytes-start : (l : List ℕ) (n x : ℕ) → l ≡ take n l ++ (bytes (n - n) x ++ drop n l)
bytes-start l n x = rw (sub_self, bytes-zero) (sym (take-append-drop n l))

pub rest-start : (x n : ℕ) → x ≡ x / 256 ^ (n - n)
rest-start x n = rw (sub_self, pow-zero) (sym (div-one x))

pub bytes-done : (o l : List ℕ) (n x i : ℕ) → i ≤ 0 → o ≡ take i l ++ (bytes (n - i) x ++ drop n l) → o ≡ bytes n x ++ drop n l
bytes-done o l n x i h e =
    let z : i ≡ 0 = omega arith in
    e ∙ ap (λ (k : ℕ). take k l ++ (bytes (n - k) x ++ drop n l)) z ∙ ap (λ (k : ℕ). bytes k x ++ drop n l) (sub-zero n)

-- the library's bytes of a number
pub bytes-high : (n x : ℕ) → bytes_high_first n x ≡ bytes n x
unfolding bytes
bytes-high zero x = refl
bytes-high (suc zero) x = ap (λ (k : ℕ). (k % 256) ∷ []) (sym (div-one x))
bytes-high (suc (suc n)) x = ap (λ (t : List ℕ). (x / 256 ^ suc n % 256) ∷ t) (bytes-high (suc n) x)

-- and written to the front of a list
pub written-high : (n x : ℕ) (b l o : List ℕ) → b ≡ bytes_high_first n x → o ≡ b ++ drop (length b) l → o ≡ bytes n x ++ drop n l
written-high n x b l o e q =
    let f : b ≡ bytes n x = e ∙ bytes-high n x in
    q ∙ ap (λ (t : List ℕ). t ++ drop (length t) l) f ∙ ap (λ (k : ℕ). bytes n x ++ drop k l) (bytes-length n x)

-- copying: one byte more
pub copy-next : (o s l : List ℕ) (i : ℕ) → i < length s → i < length l → o ≡ take i s ++ drop i l → set o i (get_or s i 0) ≡ take (i + 1) s ++ drop (i + 1) l
copy-next o s l i h k q =
    ap (λ (t : List ℕ). set t i (get_or s i 0)) q
    ∙ fill-next (take i s) l i (get_or s i 0) (length-take-le i s (omega arith)) k ∙ ap (λ (t : List ℕ). t ++ drop (i + 1) l) (sym (take-suc s i 0 h) ∙ ap (λ (n : ℕ). take n s) (sym (add-one i)))

pub copied : (o s l : List ℕ) (i : ℕ) → i ≤ length s → length s ≤ i → o ≡ take i s ++ drop i l → o ≡ s ++ drop (length s) l
copied o s l i h k q =
    let e : i ≡ length s = omega arith in
    q ∙ ap (λ (n : ℕ). take n s ++ drop n l) e ∙ ap (λ (t : List ℕ). t ++ drop (length s) l) (take-length s)

-- XOR: one byte more
xors-snoc : (x y : List ℕ) (v : ℕ) → xors (x ++ (v ∷ [])) y ≡ xors x y ++ (bit_xor v (get_or y (length x) 0) ∷ [])
unfolding xors
xors-snoc [] y v = refl
xors-snoc (a ∷ x) y v =
    ap (λ (t : List ℕ). bit_xor a (get_or y 0 0) ∷ t)
    (xors-snoc x (drop 1 y) v ∙ ap (λ (d : ℕ). xors x (drop 1 y) ++ (bit_xor v d ∷ [])) (get_or-drop 1 y (length x) 0 ∙ ap (λ (k : ℕ). get_or y k 0) (one-add (length x))))

pub xors-next : (o l m : List ℕ) (i : ℕ) → i < length l → o ≡ xors (take i l) m ++ drop i l
    → set o i (bit_xor (get_or o i 0) (get_or m i 0)) ≡ xors (take (i + 1) l) m ++ drop (i + 1) l
xors-next o l m i h q =
    let e : length (take i l) ≡ i = length-take-le i l (omega arith) in
    let here : get_or o i 0 ≡ get_or l i 0 =
    ap (λ (t : List ℕ). get_or t i 0) (q ∙ ap (λ (t : List ℕ). xors (take i l) m ++ t) (drop-cons l i 0 h))
    ∙ get_or_at (xors (take i l) m) (get_or l i 0) (drop (suc i) l) 0 i (xors-length (take i l) m ∙ e)
    in
    ap₂ (λ (t : List ℕ) (v : ℕ). set t i (bit_xor v (get_or m i 0))) q here
    ∙ fill-next (xors (take i l) m) l i (bit_xor (get_or l i 0) (get_or m i 0)) (xors-length (take i l) m ∙ e) h
    ∙ ap (λ (t : List ℕ). t ++ drop (i + 1) l)
    (ap (λ (k : ℕ). xors (take i l) m ++ (bit_xor (get_or l i 0) (get_or m k 0) ∷ [])) (sym e)
    ∙ sym (xors-snoc (take i l) m (get_or l i 0))
    ∙ ap (λ (t : List ℕ). xors t m) (sym (take-suc l i 0 h) ∙ ap (λ (n : ℕ). take n l) (sym (add-one i))))

pub xors-start : (l m : List ℕ) → l ≡ xors (take 0 l) m ++ drop 0 l
unfolding xors
xors-start l m = refl

-- comparing: one byte more
pub differ-next : (d i : ℕ) (a b : List ℕ) → i < length a → i < length b → (d ≡ 0 → take i a ≡ take i b)
    → bit_or d (bit_xor (get_or a i 0) (get_or b i 0)) ≡ 0 → take (i + 1) a ≡ take (i + 1) b
differ-next d i a b h k p e =
    let z = or-zero d (bit_xor (get_or a i 0) (get_or b i 0)) e in
    rw (add-one, take-suc a i 0 h, take-suc b i 0 k, p z.0, xor-zero (get_or a i 0) (get_or b i 0) z.1)

pub differ-before : (d i : ℕ) (a b : List ℕ) → i < length a → i < length b → (take i a ≡ take i b → d ≡ 0)
    → take (i + 1) a ≡ take (i + 1) b → bit_or d (bit_xor (get_or a i 0) (get_or b i 0)) ≡ 0
differ-before d i a b h k q e =
    let f : take i a ≡ take i b = sym (take-take i (i + 1) a (omega arith)) ∙ ap (take i) e ∙ take-take i (i + 1) b (omega arith) in
    let g : get_or a i 0 ≡ get_or b i 0 = sym (get_or-take (i + 1) a i 0 (omega arith)) ∙ ap (λ (t : List ℕ). get_or t i 0) e ∙ get_or-take (i + 1) b i 0 (omega arith) in
    rw (q f, g, xor_self, or_zero_l)

pub taken-all : (i : ℕ) (a b : List ℕ) → length a ≤ i → length b ≤ i → take i a ≡ take i b → a ≡ b
taken-all i a b h k e = sym (take_all i a h) ∙ e ∙ take_all i b k

-- SPDX-License-Identifier: MIT
-- Laws of bytes and byte strings, for this crate's proofs and for those above it. Assumes nothing.
use mathlib.Core.Path.{◌≡◌, refl, sym, ◌∙◌, ap, ap₂}
use mathlib.Core.Bool.{Bool, true, false, false≢true}
use mathlib.Core.List.{List, [], ◌∷◌, ◌++◌, append_assoc, append-nil}
use Prim.Native.Nat.{ℕ, zero, suc, ◌+◌, ◌*◌, ◌/◌, ◌%◌, ◌^◌, ◌-◌, ◌<◌, ◌≤◌, min}
use native.Mathlib.Nat.{zero-min, min-zero, suc-min-suc, add-zero, zero-add, add-suc, add_comm, suc-add, mul-one, mul_assoc, mul-pos, add_assoc, pow-suc, pow-succ', pow-zero, mod-lt, mod-one, mod-mod_of_dvd, dvd-mul_left, div-div-eq-div-mul, div-one, one-le-pow}
use native.Mathlib.Numerals.{add-one, one-add}
use native.Mathlib.Omega.{arith}
use lib.Arith.{digits_lt, digits_div, digits_mod, mod-mul}
use lib.Bits.{bit_xor, xor_lt}
use lib.Dec.{eqb}
use lib.ListN.{length, get_or, take, drop, set, replicate, length-append, length-take, length-drop, take-append-drop, drop_of_length-le, get_or-append}
use lib.Seq.{take-suc, set_split, take_all, take_at, drop_at, drop-drop, drop-append-le, get_or-take, get_or-drop}
use lib.Pow.{pow-add}
use borrow.Rule.Slice.PartMut.{put_mid}
use borrow.Author.Tests.{eq-eqb, eqb-true, ne_eqb}
use Rattle.octets.proofs.Bits.{xor-twice}
use Rattle.octets.specs.Octets.{Octets, number, bytes, pasted, xors, same, both}

-- ---- powers of 256

pub pow_pos : (n : ℕ) → 0 < 256 ^ n
pow_pos n = one-le-pow n 256 (omega arith)

-- ---- numbers

pub number-zero : (l : List ℕ) → number 0 l ≡ 0
unfolding number
number-zero l = refl

pub number-suc : (n : ℕ) (l : List ℕ) → number (suc n) l ≡ number n l * 256 + get_or l n 0
unfolding number
number-suc n l = refl

-- a number of n bytes is below 256 ^ n
pub number_lt : (n : ℕ) (l : List ℕ) → Octets l → number n l < 256 ^ n
unfolding number
number_lt zero l o = omega arith
number_lt (suc n) l o = rw pow-suc (digits_lt (number_lt n l o) (o n))

-- a number is a matter of its own bytes
pub number-ext : (n : ℕ) (a b : List ℕ) → ((i : ℕ) → i < n → get_or a i 0 ≡ get_or b i 0) → number n a ≡ number n b
unfolding number
number-ext zero a b e = refl
number-ext (suc n) a b e = rw (number-ext n a b (λ i h. e i (omega arith)), e n (omega arith))

-- what follows the bytes of a number does not matter
pub number_append : (n : ℕ) (a b : List ℕ) → n ≤ length a → number n (a ++ b) ≡ number n a
number_append n a b h = number-ext n (a ++ b) a (λ i p. get_or-append a b 0 i (omega arith))

pub number-take : (n m : ℕ) (l : List ℕ) → n ≤ m → number n (take m l) ≡ number n l
number-take n m l h = number-ext n (take m l) l (λ i p. get_or-take m l i 0 (omega arith))

-- a number in two parts
pub number-add : (m n : ℕ) (l : List ℕ) → number (m + n) l ≡ number m l * 256 ^ n + number n (drop m l)
unfolding number
number-add m zero l = rw (add-zero, pow-zero, mul-one, add-zero)
number-add m (suc n) l = rw (add-suc, number-suc, number-add m n l, get_or-drop, pow-suc) (rearrange (number m l) (256 ^ n) (number n (drop m l)) (get_or l (m + n) 0))
  where
    rearrange : (a p b d : ℕ) → (a * p + b) * 256 + d ≡ a * (p * 256) + (b * 256 + d)
    rearrange a p b d = rw (← mul_assoc) (omega arith)

-- ---- bytes

pub bytes-zero : (x : ℕ) → bytes 0 x ≡ []
unfolding bytes
bytes-zero x = refl

pub bytes-suc : (n x : ℕ) → bytes (suc n) x ≡ (x / 256 ^ n % 256) ∷ bytes n x
unfolding bytes
bytes-suc n x = refl

pub bytes-length : (n x : ℕ) → length (bytes n x) ≡ n
unfolding bytes
bytes-length zero x = refl
bytes-length (suc n) x = ap suc (bytes-length n x)

pub bytes-octets : (n x : ℕ) → Octets (bytes n x)
unfolding bytes
bytes-octets zero x i = omega arith
bytes-octets (suc n) x zero = mod-lt (x / 256 ^ n) (omega arith)
bytes-octets (suc n) x (suc i) = bytes-octets n x i

-- the digits of x above its lowest n + k do not reach its n bytes
bytes-mod-more : (n k x : ℕ) → bytes n (x % 256 ^ (n + k)) ≡ bytes n x
unfolding bytes
bytes-mod-more zero k x = refl
bytes-mod-more (suc n) k x = ap₂ (λ (d : ℕ) (l : List ℕ). d ∷ l) digit (ap (λ (m : ℕ). bytes n (x % 256 ^ m)) (suc-add n k ∙ sym (add-suc n k)) ∙ bytes-mod-more n (suc k) x)
  where
    power : 256 ^ (suc n + k) ≡ (256 ^ k * 256) * 256 ^ n
    power = ap (λ (m : ℕ). 256 ^ m) (omega arith) ∙ pow-add 256 (suc k) n ∙ ap (λ (m : ℕ). m * 256 ^ n) (pow-suc 256 k)

    digit : x % 256 ^ (suc n + k) / 256 ^ n % 256 ≡ x / 256 ^ n % 256
    digit =
        ap (λ (m : ℕ). x % m / 256 ^ n % 256) power
        ∙ ap (λ (m : ℕ). m / 256 ^ n % 256) (mod-mul x (mul-pos (pow_pos k) (omega arith)) (pow_pos n))
        ∙ ap (λ (m : ℕ). m % 256) (digits_div (x / 256 ^ n % (256 ^ k * 256)) (mod-lt x (pow_pos n)))
        ∙ mod-mod_of_dvd 256 (x / 256 ^ n) (dvd-mul_left 256 (256 ^ k))

-- the digits of x above its lowest n do not reach its n bytes
pub bytes-mod : (n x : ℕ) → bytes n (x % 256 ^ n) ≡ bytes n x
bytes-mod n x = ap (λ (m : ℕ). bytes n (x % 256 ^ m)) (sym (add-zero n)) ∙ bytes-mod-more n 0 x

-- the bytes of a number in two parts
pub bytes-add : (m n x : ℕ) → bytes (m + n) x ≡ bytes m (x / 256 ^ n) ++ bytes n x
unfolding bytes
bytes-add zero n x = ap (λ (k : ℕ). bytes k x) (zero-add n)
bytes-add (suc m) n x = ap (λ (k : ℕ). bytes k x) (suc-add m n) ∙ ap₂ (λ (d : ℕ) (l : List ℕ). d ∷ l) digit (bytes-add m n x)
  where
    digit : x / 256 ^ (m + n) % 256 ≡ x / 256 ^ n / 256 ^ m % 256
    digit = rw (div-div-eq-div-mul, add_comm m n, pow-add)

-- the last of a number's bytes
pub bytes-snoc : (n x : ℕ) → bytes (suc n) x ≡ bytes n (x / 256) ++ (x % 256 ∷ [])
unfolding bytes
bytes-snoc n x = ap (λ (k : ℕ). bytes k x) (sym (add-one n)) ∙ bytes-add n 1 x ∙ ap (λ (d : ℕ). bytes n (x / 256) ++ (d % 256 ∷ [])) (div-one x)

-- bytes written are the number read
pub number-bytes : (n x : ℕ) → number n (bytes n x) ≡ x % 256 ^ n
unfolding bytes number
number-bytes zero x = sym (mod-one x)
number-bytes (suc n) x =
    ap (λ (k : ℕ). number k (bytes (suc n) x)) (sym (one-add n))
    ∙ number-add 1 n (bytes (suc n) x)
    ∙ ap₂ (λ (a b : ℕ). a * 256 ^ n + b) (zero-add (x / 256 ^ n % 256)) (number-bytes n x)
    ∙ sym (mod-mul x (omega arith) (pow_pos n))
    ∙ ap (λ (k : ℕ). x % k) (sym (pow-succ' 256 n))

-- a number read is its bytes written
pub bytes-number : (n : ℕ) (l : List ℕ) → Octets l → n ≤ length l → bytes n (number n l) ≡ take n l
bytes-number zero l o h = bytes-zero (number 0 l)
bytes-number (suc n) l o h =
    bytes-snoc n (number (suc n) l)
    ∙ ap (λ (k : ℕ). bytes n (k / 256) ++ (k % 256 ∷ [])) (number-suc n l)
    ∙ ap₂ (λ (a b : ℕ). bytes n a ++ (b ∷ [])) (digits_div (number n l) (o n)) (digits_mod (number n l) (o n))
    ∙ ap (λ (a : List ℕ). a ++ (get_or l n 0 ∷ [])) (bytes-number n l o (omega arith))
    ∙ sym (take-suc l n 0 h)

-- ---- byte strings

pub octets-append : (a b : List ℕ) → Octets a → Octets b → Octets (a ++ b)
octets-append [] b p q i = q i
octets-append (x ∷ a) b p q zero = p 0
octets-append (x ∷ a) b p q (suc i) = octets-append a b (λ j. p (suc j)) q i

pub octets-take : (n : ℕ) (l : List ℕ) → Octets l → Octets (take n l)
octets-take zero l o i = omega arith
octets-take (suc n) [] o i = omega arith
octets-take (suc n) (x ∷ l) o zero = o 0
octets-take (suc n) (x ∷ l) o (suc i) = octets-take n l (λ j. o (suc j)) i

pub octets-drop : (n : ℕ) (l : List ℕ) → Octets l → Octets (drop n l)
octets-drop n l o i = rw get_or-drop (o (n + i))

pub octets-replicate : (n b : ℕ) → b < 256 → Octets (replicate n b)
octets-replicate zero b h i = omega arith
octets-replicate (suc n) b h zero = h
octets-replicate (suc n) b h (suc i) = octets-replicate n b h i

-- a part that runs to the end of a slice
pub part-rest : (n : ℕ) (l : List ℕ) → take (length l - n) (drop n l) ≡ drop n l
part-rest n l = take_all (length l - n) (drop n l) (simp length-drop (omega arith))

-- a part from the front on is no longer than its end
pub front-most : (l : List ℕ) (n m : ℕ) → n ≤ m → length (take (n - 0) l) ≤ m
front-most l n m h = simp length-take (omega arith)

-- ---- a part from an offset on, which may lie past the end

pub take_min : (n : ℕ) (l : List ℕ) → take (min n (length l)) l ≡ take n l
take_min zero l = rw zero-min
take_min (suc n) [] = rw min-zero
take_min (suc n) (x ∷ l) = ap (λ (k : ℕ). take k (x ∷ l)) (suc-min-suc n (length l)) ∙ ap (λ (t : List ℕ). x ∷ t) (take_min n l)

pub drop_min : (n : ℕ) (l : List ℕ) → drop (min n (length l)) l ≡ drop n l
drop_min zero l = rw zero-min
drop_min (suc n) [] = rw min-zero
drop_min (suc n) (x ∷ l) = ap (λ (k : ℕ). drop k (x ∷ l)) (suc-min-suc n (length l)) ∙ drop_min n l

-- the part that is lent from offset n on, i being where the code begins it
pub part-from : (l : List ℕ) (n i : ℕ) → i ≡ min n (length l) → take (length l - i) (drop i l) ≡ drop n l
part-from l n i e = part-rest i l ∙ ap (λ (k : ℕ). drop k l) e ∙ drop_min n l

-- what is left of the whole where that part has become p
pub lent-from : (l p : List ℕ) (n i : ℕ) → i ≡ min n (length l) → put_mid i (length l - i) l p ≡ take n l ++ p
lent-from l p n i e =
    let nothing : drop (length l - i) (drop i l) ≡ [] = drop_of_length-le (drop i l) {i = length l - i} (simp length-drop (omega arith)) in
    ap (λ (t : List ℕ). take i l ++ (p ++ t)) nothing
    ∙ ap (λ (t : List ℕ). take i l ++ t) (append-nil p)
    ∙ ap (λ (t : List ℕ). t ++ p) (ap (λ (k : ℕ). take k l) e ∙ take_min n l)

-- ---- pasting

pub pasted_length : (l : List ℕ) (i : ℕ) (x : List ℕ) → i + length x ≤ length l → length (pasted l i x) ≡ length l
unfolding pasted
pasted_length l i x h = simp (length-append, length-take, length-drop) (omega arith)

-- a second paste right behind the first joins it
pub pasted-append : (l : List ℕ) (i : ℕ) (x y : List ℕ) → i + length x + length y ≤ length l
    → pasted (pasted l i x) (i + length x) y ≡ pasted l i (x ++ y)
unfolding pasted
pasted-append l i x y h =
    joined (take i l) x y (drop (i + length x) l) (i + length x) (simp (length-append, length-take) (omega arith))
    ∙ ap (λ (t : List ℕ). take i l ++ ((x ++ y) ++ t))
    (drop-drop (length y) (i + length x) l ∙ ap (λ (k : ℕ). drop k l) (add_assoc i (length x) (length y) ∙ ap (λ (k : ℕ). i + k) (sym (length-append x y))))
  where
    joined : (p x y r : List ℕ) (n : ℕ) → length (p ++ x) ≡ n
        → take n (p ++ (x ++ r)) ++ (y ++ drop (n + length y) (p ++ (x ++ r))) ≡ p ++ ((x ++ y) ++ drop (length y) r)
    joined p x y r n e = rw (← append_assoc p x r, take_at (p ++ x) r n e, ← drop-drop (length y) n ((p ++ x) ++ r), drop_at (p ++ x) r n e) (simp append_assoc)

pub pasted-front : (l x : List ℕ) → pasted l 0 x ≡ x ++ drop (length x) l
unfolding pasted
pasted-front l x = rw zero-add

-- pasting at n is pasting at the front of what lies from n on
pub pasted-from : (l : List ℕ) (n : ℕ) (x : List ℕ) → take n l ++ pasted (drop n l) 0 x ≡ pasted l n x
unfolding pasted
pasted-from l n x = rw zero-add (ap (λ (t : List ℕ). take n l ++ (x ++ t)) (drop-drop (length x) n l))

-- what was pasted stands there
pub pasted_at : (l : List ℕ) (n : ℕ) (x : List ℕ) → n ≤ length l → take (length x) (drop n (pasted l n x)) ≡ x
unfolding pasted
pasted_at l n x h = ap (take (length x)) (drop_at (take n l) (x ++ drop (n + length x) l) n (simp length-take (omega arith))) ∙ take_at x (drop (n + length x) l) (length x) refl

-- one byte stored is one byte pasted
pub set-pasted : (l : List ℕ) (i b : ℕ) → i < length l → set l i b ≡ pasted l i (b ∷ [])
unfolding pasted
set-pasted l i b h = set_split l i b h ∙ ap (λ (k : ℕ). take i l ++ (b ∷ drop k l)) (sym (add-one i))

-- what is written to the front of a part that is lent, from index i up to k elements, is pasted at i
pub lent-pasted : (l p x : List ℕ) (i k : ℕ) → length x ≤ k → i + k ≤ length l → p ≡ x ++ drop (length x) (take k (drop i l)) → put_mid i k l p ≡ pasted l i x
unfolding pasted
lent-pasted l p x i k h f e =
    rw e (ap (λ (t : List ℕ). take i l ++ t) (append_assoc x (drop (length x) (take k (drop i l))) (drop k (drop i l))
    ∙ ap (λ (t : List ℕ). x ++ t) (sym (drop-append-le (length x) (take k (drop i l)) (drop k (drop i l)) (simp (length-take, length-drop) (omega arith)))
    ∙ ap (drop (length x)) (take-append-drop k (drop i l))
    ∙ drop-drop (length x) i l)))

pub lent-bytes : (l p : List ℕ) (i n x : ℕ) → i + n ≤ length l → p ≡ bytes n x ++ drop n (take (length l - i) (drop i l))
    → put_mid i (length l - i) l p ≡ pasted l i (bytes n x)
lent-bytes l p i n x h e =
    let b = bytes-length n x in
    lent-pasted l p (bytes n x) i (length l - i) (omega arith) (omega arith) (e ∙ ap (λ (k : ℕ). bytes n x ++ drop k (take (length l - i) (drop i l))) (sym b))

-- ---- XOR of byte strings

pub xors-length : (x y : List ℕ) → length (xors x y) ≡ length x
unfolding xors
xors-length [] y = refl
xors-length (a ∷ x) y = ap suc (xors-length x (drop 1 y))

pub xors-at : (x y : List ℕ) (i : ℕ) → i < length x → get_or (xors x y) i 0 ≡ bit_xor (get_or x i 0) (get_or y i 0)
unfolding xors
xors-at [] y i h = absurd (omega arith)
xors-at (a ∷ x) y zero h = refl
xors-at (a ∷ x) y (suc i) h = xors-at x (drop 1 y) i (omega arith) ∙ ap (bit_xor (get_or x i 0)) (get_or-drop 1 y i 0 ∙ ap (λ (k : ℕ). get_or y k 0) (one-add i))

pub xors-octets : (x y : List ℕ) → Octets x → Octets y → Octets (xors x y)
unfolding xors
xors-octets [] y p q i = omega arith
xors-octets (a ∷ x) y p q zero = xor_lt 8 a (get_or y 0 0) (p 0) (q 0)
xors-octets (a ∷ x) y p q (suc i) = xors-octets x (drop 1 y) (λ j. p (suc j)) (octets-drop 1 y q) i

-- a mask put on twice is off again
pub xors-twice : (x y : List ℕ) → xors (xors x y) y ≡ x
unfolding xors
xors-twice [] y = refl
xors-twice (a ∷ x) y = ap₂ (λ (d : ℕ) (l : List ℕ). d ∷ l) (xor-twice a (get_or y 0 0)) (xors-twice x (drop 1 y))

-- ---- equality of byte strings

pub same_refl : (x : List ℕ) → same x x ≡ true
unfolding same
same_refl [] = refl
same_refl (a ∷ x) = ap (λ (t : Bool). both t (same x x)) (eq-eqb a a refl) ∙ same_refl x

both_true : (a b : Bool) → both a b ≡ true → (a ≡ true) × (b ≡ true)
both_true true b e = (refl, e)
both_true false b e = (e, absurd (false≢true e))

pub same-eq : (x y : List ℕ) → same x y ≡ true → x ≡ y
unfolding same
same-eq [] [] e = refl
same-eq [] (b ∷ y) e = absurd (false≢true e)
same-eq (a ∷ x) [] e = absurd (false≢true e)
same-eq (a ∷ x) (b ∷ y) e = let t = both_true (eqb a b) (same x y) e in ap₂ (λ (d : ℕ) (l : List ℕ). d ∷ l) (eqb-true a b t.0) (same-eq x y t.1)

-- strings of different lengths are not equal
pub same-lengths : (x y : List ℕ) → (length x ≡ length y → ⊥) → same x y ≡ false
same-lengths x y d = by (same x y) refl
  where
    by : (t : Bool) → same x y ≡ t → same x y ≡ false
    by true e = absurd (d (ap length (same-eq x y e)))
    by false e = e

-- a count that is 0 just where two strings are equal says whether they are
pub same_count : (d : ℕ) (x y : List ℕ) → (d ≡ 0 → x ≡ y) → (x ≡ y → d ≡ 0) → eqb d 0 ≡ same x y
same_count d x y p q = by (same x y) refl
  where
    by : (t : Bool) → same x y ≡ t → eqb d 0 ≡ same x y
    by true e = eq-eqb d 0 (q (same-eq x y e)) ∙ sym e
    by false e = ne_eqb d 0 (λ z. false≢true (sym e ∙ ap (same x) (sym (p z)) ∙ same_refl x)) ∙ sym e

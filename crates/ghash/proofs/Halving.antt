-- SPDX-License-Identifier: MIT
-- Laws of the product of blocks: it is their product as polynomials, halved.
-- Assumes nothing.
use mathlib.Core.Path.{◌≡◌, refl, ap, ap₂, sym, ◌∙◌}
use Prim.Native.Nat.{ℕ, zero, suc, ◌+◌, ◌*◌, ◌/◌, ◌%◌, ◌^◌, ◌<◌}
use native.Mathlib.Nat.{zero-mul, one-mul, mul-one, mul_assoc, mul_comm, add-zero, zero-add, suc-add, pow-suc, mod-eq_of_lt}
use native.Mathlib.Omega.{arith}
use lib.Bits.{bit_xor, xor_zero_r, xor_shr, xor_mod, xor_shifted, xor_block}
use Rattle.clmul.specs.Clmul.{clmul}
use Rattle.clmul.proofs.Sums.{xor-exchange, bit-sum}
use Rattle.clmul.proofs.Laws.{clmul-one, clmul-xor-r, clmul-shift-r}
use Rattle.ghash.specs.Ghash.{R, halve, sum, product, pair}
use Rattle.ghash.specs.Inner.Products.{halves}

-- Halving distributes over sums.
halve-sum : (a b : ℕ) → halve (bit_xor a b) ≡ bit_xor (halve a) (halve b)
unfolding halve
halve-sum a b =
    ap (λ (x : ℕ). bit_xor x (bit_xor a b % 2 * R)) (xor_shr a b 1)
    ∙ ap (λ (x : ℕ). bit_xor (bit_xor (a / 2) (b / 2)) (x * R)) (xor_mod a b 1)
    ∙ ap (bit_xor (bit_xor (a / 2) (b / 2))) (bit-sum (a % 2) (b % 2) R (omega arith) (omega arith))
    ∙ xor-exchange (a / 2) (b / 2) (a % 2 * R) (b % 2 * R)

halve-bit : (b v : ℕ) → b < 2 → halve (b * v) ≡ b * halve v
unfolding halve
halve-bit zero v h = simp zero-mul
halve-bit (suc zero) v h = simp one-mul
halve-bit (suc (suc b)) v h = absurd (omega arith)

halve-even : (w : ℕ) → halve (w * 2) ≡ w
unfolding halve
halve-even w =
    let p : w * 2 / 2 ≡ w = omega arith in
    let q : w * 2 % 2 ≡ 0 = omega arith in
    rw (p, q) (simp (zero-mul, xor_zero_r))

halve-zero : 0 ≡ halve 0
unfolding halve
halve-zero = refl

sum-halve : (n x v : ℕ) → sum n x (halve v) ≡ halve (sum n x v)
unfolding sum
sum-halve zero x v = halve-zero
sum-halve (suc n) x v =
    rw (sum-halve n x (halve v), ← halve-bit (x / 2 ^ n % 2) v (omega arith), halve-sum)

-- The same of n times.
halves-sum : (n a b : ℕ) → halves n (bit_xor a b) ≡ bit_xor (halves n a) (halves n b)
unfolding halves
halves-sum zero a b = refl
halves-sum (suc n) a b = ap halve (halves-sum n a b) ∙ halve-sum (halves n a) (halves n b)

halves-bit : (n b v : ℕ) → b < 2 → halves n (b * v) ≡ b * halves n v
unfolding halves
halves-bit zero b v h = refl
halves-bit (suc n) b v h = ap halve (halves-bit n b v h) ∙ halve-bit b (halves n v) h

-- What is moved up by n comes down again.
halves-whole : (n w : ℕ) → halves n (w * 2 ^ n) ≡ w
unfolding halves
halves-whole zero w = mul-one w
halves-whole (suc n) w =
    ap (λ (x : ℕ). halve (halves n (w * x))) (pow-suc 2 n ∙ mul_comm (2 ^ n) 2) ∙ ap (λ (x : ℕ). halve (halves n x)) (sym (mul_assoc w 2 (2 ^ n)))
    ∙ ap halve (halves-whole n (w * 2)) ∙ halve-even w

pub halves-add : (m n v : ℕ) → halves (m + n) v ≡ halves m (halves n v)
unfolding halves
halves-add zero n v = rw zero-add
halves-add (suc m) n v = rw suc-add (ap halve (halves-add m n v))

pub halves-pair : (n hi lo : ℕ) → lo < 2 ^ n → halves n (hi * 2 ^ n + lo) ≡ bit_xor hi (halves n lo)
halves-pair n hi lo h =
    ap (halves n) (sym (xor_shifted hi n lo h)) ∙ halves-sum n (hi * 2 ^ n) lo ∙ ap (λ (x : ℕ). bit_xor x (halves n lo)) (halves-whole n hi)

-- §6.3: the sum over the bits of x, of a key's half, is the product of polynomials, halved n times.
halves-clmul : (n x k : ℕ) → halves n (clmul n x k) ≡ sum n x (halve k)
unfolding halves clmul sum
halves-clmul zero x k = refl
halves-clmul (suc n) x k =
    ap halve
    (halves-sum n (x / 2 ^ n % 2 * (k * 2 ^ n)) (clmul n x k)
    ∙ ap₂ bit_xor (halves-bit n (x / 2 ^ n % 2) (k * 2 ^ n) (omega arith) ∙ ap (λ (z : ℕ). x / 2 ^ n % 2 * z) (halves-whole n k)) (halves-clmul n x k))
    ∙ halve-sum (x / 2 ^ n % 2 * k) (sum n x (halve k))
    ∙ ap₂ bit_xor (halve-bit (x / 2 ^ n % 2) k (omega arith)) (sym (sum-halve n x (halve k)))

pub product-halves : (x k : ℕ) → halves 128 (clmul 128 x k) ≡ product x (halve k)
unfolding product
product-halves x k = halves-clmul 128 x k

-- Where nothing falls out, the sum is a product of polynomials.
sum-clmul : (n x w : ℕ) → sum n x (w * 2 ^ n) ≡ clmul n x (w * 2)
unfolding sum clmul
sum-clmul zero x w = refl
sum-clmul (suc n) x w =
    let e : w * 2 ^ suc n ≡ w * 2 * 2 ^ n =
    ap (λ (z : ℕ). w * z) (pow-suc 2 n ∙ mul_comm (2 ^ n) 2) ∙ sym (mul_assoc w 2 (2 ^ n)) in
    let f : w * 2 ^ suc n ≡ w * 2 ^ n * 2 = ap (λ (z : ℕ). w * z) (pow-suc 2 n) ∙ sym (mul_assoc w (2 ^ n) 2) in
    ap₂ bit_xor (ap (λ (z : ℕ). x / 2 ^ n % 2 * z) e) (ap (sum n x) (ap halve f ∙ halve-even (w * 2 ^ n)) ∙ sum-clmul n x w)

-- 64 bits that fall out.
clmul-power : (x a : ℕ) → x < 2 ^ 64 → clmul 64 x (2 ^ a) ≡ x * 2 ^ a
clmul-power x a h =
    ap (clmul 64 x) (sym (one-mul (2 ^ a))) ∙ clmul-shift-r 64 a x 1 ∙ ap (λ (z : ℕ). z * 2 ^ a) (clmul-one 64 x ∙ mod-eq_of_lt h)

pub halves-low : (x : ℕ) → x < 2 ^ 64
    → halves 64 x ≡ bit_xor (bit_xor (bit_xor (x * 2 ^ 64) (x * 2 ^ 63)) (x * 2 ^ 62)) (x * 2 ^ 57)
unfolding halve
halves-low x h =
    ap (halves 64) (sym (clmul-one 64 x ∙ mod-eq_of_lt h)) ∙ halves-clmul 64 x 1 ∙ sum-clmul 64 x (0xe1 * 2 ^ 56)
    ∙ clmul-xor-r 64 x (bit_xor (bit_xor (2 ^ 64) (2 ^ 63)) (2 ^ 62)) (2 ^ 57)
    ∙ ap₂ bit_xor
    (clmul-xor-r 64 x (bit_xor (2 ^ 64) (2 ^ 63)) (2 ^ 62)
    ∙ ap₂ bit_xor (clmul-xor-r 64 x (2 ^ 64) (2 ^ 63) ∙ ap₂ bit_xor (clmul-power x 64 h) (clmul-power x 63 h)) (clmul-power x 62 h))
    (clmul-power x 57 h)

-- Blocks in two halves.
module _ (a b c d : ℕ) where
  pub pair-sum : b < 2 ^ 64 → d < 2 ^ 64 → pair (bit_xor a c) (bit_xor b d) ≡ bit_xor (pair a b) (pair c d)
  pair-sum h k = sym (xor_block 64 a c b d h k)

pub pair-high : (a b c : ℕ) → b < 2 ^ 64 → pair (bit_xor a c) b ≡ bit_xor (pair a b) (c * 2 ^ 64)
pair-high a b c h =
    ap (pair (bit_xor a c)) (sym (xor_zero_r b)) ∙ pair-sum a b c 0 h (omega arith)
    ∙ ap (bit_xor (pair a b)) (add-zero (c * 2 ^ 64))

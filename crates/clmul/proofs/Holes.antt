-- SPDX-License-Identifier: MIT
-- Multiplication with holes: of two numbers with bits at every fourth place alone, eight at most, the integer product has
-- at every fourth place the bit of the product without carries.
-- Assumes nothing.
use mathlib.Core.Path.{◌≡◌, refl, sym, ◌∙◌, ap, ap₂}
use Prim.Native.Nat.{ℕ, zero, suc, ◌+◌, ◌*◌, ◌-◌, ◌/◌, ◌%◌, ◌^◌, ◌≤◌, ◌<◌}
use native.Mathlib.Nat.{zero-mul, one-mul, mul-one, zero-add, suc-add, add-mul, mul_assoc, mul_comm, add_comm, div-one, div-add-mod', mod-eq_of_lt, mul-le-mul}
use native.Mathlib.Numerals.{add-one, add-two, add-three, add-four}
use native.Mathlib.Omega.{arith}
use lib.Bits.{bit_xor, bit_and, xor_shr, xor_mod, and_shr, and_mod, and_le_r, and_block, and_mask, and_zero_r, xor_zero_l, xor_comm}
use lib.Pow.{shr-shr, pow-add, mod-pow-add}
use Rattle.clmul.specs.Clmul.{clmul}

-- y has n digits to the base 16, each of them 0 or 1.
abbrev pub Sparse : ℕ → ℕ → Type 0
Sparse zero y = y ≡ 0
Sparse (suc n) y = (y % 16 ≤ 1) × Sparse n (y / 16)

-- p and q have n digits; those of q are 0 or 1, and those of p have the same parity and are k at most.
abbrev pub Near : ℕ → ℕ → ℕ → ℕ → Type 0
Near zero k p q = (p ≡ 0) × (q ≡ 0)
Near (suc n) k p q = (p % 16 ≤ k) × (q % 16 ≤ 1) × (p % 2 ≡ q % 2) × Near n k (p / 16) (q / 16)

-- One and one is zero.
parity : (x y : ℕ) → x ≤ 1 → y ≤ 1 → (x + y) % 2 ≡ bit_xor x y
parity zero zero h k = refl
parity zero (suc zero) h k = refl
parity (suc zero) zero h k = refl
parity (suc zero) (suc zero) h k = refl
parity zero (suc (suc y)) h k = absurd (omega arith)
parity (suc zero) (suc (suc y)) h k = absurd (omega arith)
parity (suc (suc x)) y h k = absurd (omega arith)

digit-add : (k p r : ℕ) → k < 15 → p % 16 ≤ k → r % 16 ≤ 1 → (p + r) % 16 ≤ suc k
digit-add k p r h d e = omega arith

no-carry : (k p r : ℕ) → k < 15 → p % 16 ≤ k → r % 16 ≤ 1 → (p + r) / 16 ≡ p / 16 + r / 16
no-carry k p r h d e = omega arith

digit-xor : (q r : ℕ) → q % 16 ≤ 1 → r % 16 ≤ 1 → bit_xor q r % 16 ≤ 1
digit-xor q r d e = rw (xor_mod q r 4, ← parity (q % 16) (r % 16) d e) (omega arith)

parity-xor : (p q r : ℕ) → p % 2 ≡ q % 2 → (p + r) % 2 ≡ bit_xor q r % 2
parity-xor p q r e =
    let s : (p + r) % 2 ≡ (q % 2 + r % 2) % 2 = omega arith in
    s ∙ parity (q % 2) (r % 2) (omega arith) (omega arith) ∙ sym (xor_mod q r 1)

-- A sparse number added: no digit carries.
near_add : (n k p q r : ℕ) → k < 15 → Near n k p q → Sparse n r → Near n (suc k) (p + r) (bit_xor q r)
near_add zero k p q r h a b = (omega (arith, a.0), rw (a.1, b))
near_add (suc n) k p q r h a b = (
  digit-add k p r h a.0 b.0,
  digit-xor q r a.1 b.0,
  parity-xor p q r a.2,
  rw (no-carry k p r h a.0 b.0, xor_shr q r 4) (near_add n k (p / 16) (q / 16) (r / 16) h a.3 b.1),
)

-- Sparse numbers: zero, with more digits, moved up by digits, scaled by a bit.
sparse-zero : (n : ℕ) → Sparse n 0
sparse-zero zero = refl
sparse-zero (suc n) = (omega arith, sparse-zero n)

sparse-more : (n m y : ℕ) → Sparse n y → Sparse (n + m) y
sparse-more zero m y s = rw (s, zero-add) (sparse-zero m)
sparse-more (suc n) m y s = rw suc-add (s.0, sparse-more n m (y / 16) s.1)

sparse-shift : (k n y : ℕ) → Sparse n y → Sparse (k + n) (y * 2 ^ (4 * k))
sparse-shift zero n y s = rw (zero-add, mul-one) s
sparse-shift (suc k) n y s =
    let f : 4 * suc k ≡ 4 * k + 4 = omega arith in
    let e : y * 2 ^ (4 * suc k) ≡ y * 2 ^ (4 * k) * 16 =
    ap (λ (x : ℕ). y * 2 ^ x) f ∙ ap (λ (x : ℕ). y * x) (pow-add 2 (4 * k) 4) ∙ sym (mul_assoc y (2 ^ (4 * k)) 16) in
    let d : y * 2 ^ (4 * k) * 16 % 16 ≤ 1 = omega arith in
    let q : y * 2 ^ (4 * k) * 16 / 16 ≡ y * 2 ^ (4 * k) = omega arith in
    rw (suc-add k n, e) (d, rw q (sparse-shift k n y s))

sparse-bit : (n b y : ℕ) → b ≤ 1 → Sparse n y → Sparse n (b * y)
sparse-bit n zero y h s = rw zero-mul (sparse-zero n)
sparse-bit n (suc zero) y h s = rw one-mul s
sparse-bit n (suc (suc b)) y h s = absurd (omega arith)

-- Of digits that are 0 or 1, the four bits of one are all in its lowest.
digit-bits : (n x y : ℕ) → x / 2 ^ n % 16 ≤ 1 → clmul (n + 4) x y ≡ bit_xor (x / 2 ^ n % 16 * (y * 2 ^ n)) (clmul n x y)
unfolding clmul
digit-bits n x y h =
    let p : x / 2 ^ n / 8 ≡ x / 2 ^ suc (suc (suc n)) = shr-shr x n 3 ∙ rw (add-three n) in
    let q : x / 2 ^ n / 4 ≡ x / 2 ^ suc (suc n) = shr-shr x n 2 ∙ rw (add-two n) in
    let r : x / 2 ^ n / 2 ≡ x / 2 ^ suc n = shr-shr x n 1 ∙ rw (add-one n) in
    let b3 : x / 2 ^ suc (suc (suc n)) % 2 ≡ 0 = omega arith in
    let b2 : x / 2 ^ suc (suc n) % 2 ≡ 0 = omega arith in
    let b1 : x / 2 ^ suc n % 2 ≡ 0 = omega arith in
    let b0 : x / 2 ^ n % 2 ≡ x / 2 ^ n % 16 = omega arith in
    rw (add-four n, b3, b2, b1, b0) (simp (zero-mul, xor_zero_l))

sparse-digit : (n y c : ℕ) → Sparse n y → c < n → y / 2 ^ (4 * c) % 16 ≤ 1
sparse-digit zero y c s h = absurd (omega arith)
sparse-digit (suc n) y zero s h = rw div-one s.0
sparse-digit (suc n) y (suc c) s h =
    let e : 4 * suc c ≡ 4 + 4 * c = omega arith in
    rw (e, ← shr-shr y 4 (4 * c)) (sparse-digit n (y / 16) c s.1 (omega arith))

-- The products by the first c digits of a, with carries and without.
near-zero : (n : ℕ) → Near n 0 0 0
near-zero zero = (refl, refl)
near-zero (suc n) = (omega arith, omega arith, refl, near-zero n)

digit-more : (d s m b : ℕ) → (d * s + m) * b ≡ m * b + d * (b * s)
digit-more d s m b =
    add-mul (d * s) m b ∙ add_comm (d * s * b) (m * b)
    ∙ ap (λ (x : ℕ). m * b + x) (mul_assoc d s b ∙ ap (λ (x : ℕ). d * x) (mul_comm s b))

module _ (n a b : ℕ) (h : 15 ≤ n) (s : Sparse 8 a) (t : Sparse 8 b) where
  summand : (c : ℕ) → c < 8 → Sparse n (a / 2 ^ (4 * c) % 16 * (b * 2 ^ (4 * c)))
  summand c l =
      let e : c + 8 + (n - (c + 8)) ≡ n = omega arith in
      sparse-bit n (a / 2 ^ (4 * c) % 16) (b * 2 ^ (4 * c)) (sparse-digit 8 a c s l)
      (rw e at (sparse-more (c + 8) (n - (c + 8)) (b * 2 ^ (4 * c)) (sparse-shift c 8 b t)))

  near-products : (c : ℕ) → c ≤ 8 → Near n c (a % 2 ^ (4 * c) * b) (clmul (4 * c) a b)
  unfolding clmul
  near-products zero l = let e : a % 1 ≡ 0 = omega arith in rw (e, zero-mul) (near-zero n)
  near-products (suc c) l =
      let f : 4 * suc c ≡ 4 + 4 * c = omega arith in
      let g : 4 + 4 * c ≡ 4 * c + 4 = omega arith in
      let p : a % 2 ^ (4 + 4 * c) * b ≡ a % 2 ^ (4 * c) * b + a / 2 ^ (4 * c) % 16 * (b * 2 ^ (4 * c)) =
      ap (λ (x : ℕ). x * b) (mod-pow-add a 4 (4 * c)) ∙ digit-more (a / 2 ^ (4 * c) % 16) (2 ^ (4 * c)) (a % 2 ^ (4 * c)) b in
      let q : clmul (4 + 4 * c) a b ≡ bit_xor (clmul (4 * c) a b) (a / 2 ^ (4 * c) % 16 * (b * 2 ^ (4 * c))) =
      ap (λ (x : ℕ). clmul x a b) g ∙ digit-bits (4 * c) a b (sparse-digit 8 a c s (omega arith))
      ∙ xor_comm (a / 2 ^ (4 * c) % 16 * (b * 2 ^ (4 * c))) (clmul (4 * c) a b) in
      rw (f, p, q) (near_add n c _ _ _ (omega arith) (near-products c (omega arith)) (summand c (omega arith)))

-- The number with the lowest bit of each of n digits.
abbrev pub mask : ℕ → ℕ
mask zero = 0
mask (suc n) = mask n * 16 + 1

pub mask-sparse : (n x : ℕ) → Sparse n (bit_and x (mask n))
mask-sparse zero x = and_zero_r x
mask-sparse (suc n) x =
    let e : (mask n * 16 + 1) / 16 ≡ mask n = omega arith in
    let d : (mask n * 16 + 1) % 16 ≡ 1 = omega arith in
    (rw (and_mod x (mask n * 16 + 1) 4, d) (and_le_r (x % 16) 1), rw (and_shr x (mask n * 16 + 1) 4, e) (mask-sparse n (x / 16)))

near-mask : (n k p q : ℕ) → Near n k p q → bit_and p (mask n) ≡ q
near-mask zero k p q a = and_zero_r p ∙ sym a.1
near-mask (suc n) k p q a =
    let t : q % 16 ≤ 1 = a.1 in
    let o : p % 2 ≡ q % 2 = a.2 in
    let e : p % 16 % 2 ≡ q % 16 = omega arith in
    ap (λ (x : ℕ). bit_and x (mask n * 16 + 1)) (sym (div-add-mod' p 16))
    ∙ and_block 4 (p / 16) (mask n) (p % 16) 1 (omega arith) (omega arith)
    ∙ ap₂ (λ (x y : ℕ). x * 16 + y) (near-mask n k (p / 16) (q / 16) a.3) (and_mask (p % 16) 1 ∙ e)
    ∙ div-add-mod' q 16

-- What a mask leaves of the integer product is the product without carries.
pub digits_product : (n a b : ℕ) → 15 ≤ n → Sparse 8 a → Sparse 8 b → a < 2 ^ 32 → bit_and (a * b) (mask n) ≡ clmul 32 a b
digits_product n a b h s t l =
    ap (λ (x : ℕ). bit_and (x * b) (mask n)) (sym (mod-eq_of_lt l)) ∙ near-mask n 8 (a % 2 ^ 32 * b) (clmul 32 a b) (near-products n a b h s t 8 (omega arith))

-- The product of two words of 32 bits fits 64.
pub product-fits : (x y : ℕ) → x < 2 ^ 32 → y < 2 ^ 32 → x * y < 2 ^ 64
product-fits x y h l =
    let p : x ≤ 2 ^ 32 - 1 = omega arith in
    let q : y ≤ 2 ^ 32 - 1 = omega arith in
    omega (arith, mul-le-mul p q)

-- SPDX-License-Identifier: MIT
-- One law for each step of a product of blocks, over plain variables.
-- Assumes nothing.
use mathlib.Core.Path.{◌≡◌, ap, ap₂, sym, ◌∙◌, subst}
use mathlib.Core.List.{List}
use Prim.Native.Nat.{ℕ, ◌+◌, ◌*◌, ◌/◌, ◌%◌, ◌^◌, ◌≤◌, ◌<◌}
use native.Mathlib.Nat.{zero-add, add-mul, mul_assoc, div-add-mod', mod-lt, lt_of_lt_of_le}
use native.Mathlib.Omega.{arith}
use lib.Bits.{bit_xor, xor_zero_r, xor_self, xor_comm, xor_lt, xor_shr, xor_shifted, xor_block}
use lib.Pow.{pow-add, pow_mono, pow_pos, shl_lt, split}
use lib.ListN.{get_or}
use Rattle.octets.proofs.Bits.{xor_assoc, xor-twice}
use Rattle.clmul.specs.Clmul.{clmul}
use Rattle.clmul.specs.Inner.Karatsuba.{karatsuba}
use Rattle.clmul.proofs.Sums.{shift-sum}
use Rattle.clmul.proofs.Laws.{karatsuba-product}
use Rattle.ghash.specs.Ghash.{R, halve, product, pair}
use Rattle.ghash.specs.Inner.HashKey.{factors_of, high_of, low_of, hash_key_of, HashKey}
use Rattle.ghash.specs.Inner.Products.{halves, Products}
use Rattle.ghash.proofs.Halving.{halves-low, halves-add, halves-pair, product-halves, pair-sum, pair-high}

-- A word moved up by k, in two halves: the s bits on top leave it.
module _ (s k l : ℕ) where
  moved : l / 2 ^ s * 2 ^ (s + k) + l % 2 ^ s * 2 ^ k ≡ l * 2 ^ k
  moved =
      sym (ap (λ (x : ℕ). x * 2 ^ k) (sym (split l s)) ∙ add-mul (l / 2 ^ s * 2 ^ s) (l % 2 ^ s) (2 ^ k)
      ∙ ap (λ (x : ℕ). x + l % 2 ^ s * 2 ^ k) (mul_assoc (l / 2 ^ s) (2 ^ s) (2 ^ k) ∙ ap (λ (x : ℕ). l / 2 ^ s * x) (sym (pow-add 2 s k))))

  moved-fits : l % 2 ^ s * 2 ^ k < 2 ^ (s + k)
  moved-fits = shl_lt s k (mod-lt l (pow_pos s))

-- ---- `doubled`

top_bit : (b : ℕ) → b ≤ 1 → b * 0xe100000000000000 / 2 ^ 63 ≡ b
top_bit b h = omega arith

pub top-cleared : (hi : ℕ) → hi < 2 ^ 64 → bit_xor hi (hi / 2 ^ 63 * 0xe100000000000000) < 2 ^ 63
top-cleared hi h =
    let b : hi / 2 ^ 63 ≤ 1 = omega arith in
    let e : bit_xor hi (hi / 2 ^ 63 * 0xe100000000000000) / 2 ^ 63 ≡ 0 =
    xor_shr hi (hi / 2 ^ 63 * 0xe100000000000000) 63 ∙ ap (bit_xor (hi / 2 ^ 63)) (top_bit (hi / 2 ^ 63) b) ∙ xor_self (hi / 2 ^ 63) in
    below (bit_xor hi (hi / 2 ^ 63 * 0xe100000000000000)) e
  where
    below : (x : ℕ) → x / 2 ^ 63 ≡ 0 → x < 2 ^ 63
    below x e = omega arith

pub double-fits : (m lo : ℕ) → m < 2 ^ 63 → lo < 2 ^ 64 → m * 2 + lo / 2 ^ 63 < 2 ^ 64
double-fits m lo h l = omega arith

pub low_fits : (hi lo : ℕ) → hi < 2 ^ 64 → lo % 2 ^ 63 * 2 + hi / 2 ^ 63 < 2 ^ 64
low_fits hi lo h = omega arith

twice : (m lo b : ℕ) → pair (m * 2 + lo / 2 ^ 63) (lo % 2 ^ 63 * 2 + b) ≡ pair m lo * 2 + b
twice m lo b = omega arith

halve-odd : (v b : ℕ) → b ≤ 1 → halve (v * 2 + b) ≡ bit_xor v (b * R)
unfolding halve
halve-odd v b h =
    let p : (v * 2 + b) / 2 ≡ v = omega arith in
    let q : (v * 2 + b) % 2 ≡ b = omega arith in
    rw (p, q)

pub doubled-pair : (hi lo : ℕ) → hi < 2 ^ 64 → lo < 2 ^ 64
    → halve (pair (bit_xor hi (hi / 2 ^ 63 * 0xe100000000000000) * 2 + lo / 2 ^ 63) (lo % 2 ^ 63 * 2 + hi / 2 ^ 63)) ≡ pair hi lo
doubled-pair hi lo h l =
    let b : ℕ = hi / 2 ^ 63 in
    ap halve (twice (bit_xor hi (b * 0xe100000000000000)) lo b) ∙ halve-odd (pair (bit_xor hi (b * 0xe100000000000000)) lo) b (omega arith)
    ∙ ap (λ (x : ℕ). bit_xor x (b * R)) (pair-high hi lo (b * 0xe100000000000000) l ∙ ap (bit_xor (pair hi lo)) (mul_assoc b 0xe100000000000000 (2 ^ 64)))
    ∙ xor-twice (pair hi lo) (b * R)

-- ---- `expand`

pub expanded : (h hi lo : ℕ) (t : List ℕ) → lo < 2 ^ 64 → t ≡ factors_of hi lo → halve (pair hi lo) ≡ h → HashKey h t
expanded h hi lo t l e k = subst (λ (x : List ℕ). HashKey h x) (sym e) made
  where
    made : HashKey h (factors_of hi lo)
    made =
        let p : high_of (factors_of hi lo) ≡ hi = div-add-mod' hi (2 ^ 32) in
        let q : low_of (factors_of hi lo) ≡ lo = div-add-mod' lo (2 ^ 32) in
        record {
          factors = sym (ap₂ factors_of p q);
          fits = rw q l;
          key = ap₂ (λ (x y : ℕ). halve (pair x y)) p q ∙ k;
        }

-- ---- `join`

xor-swap : (a b c : ℕ) → bit_xor (bit_xor a b) c ≡ bit_xor (bit_xor a c) b
xor-swap a b c = xor_assoc a b c ∙ ap (bit_xor a) (xor_comm b c) ∙ sym (xor_assoc a c b)

pub joined : (l h b : ℕ) → l < 2 ^ 64 → h < 2 ^ 64 → b < 2 ^ 64
    → pair (bit_xor h (bit_xor (bit_xor b l) h / 2 ^ 32)) (bit_xor l (bit_xor (bit_xor b l) h % 2 ^ 32 * 2 ^ 32)) ≡ karatsuba 32 l h b
joined l h b p q r =
    let m : ℕ = bit_xor (bit_xor b l) h in
    pair-sum h l (m / 2 ^ 32) (m % 2 ^ 32 * 2 ^ 32) p (moved-fits 32 32 m)
    ∙ ap₂ bit_xor (sym (xor_shifted h 64 l p)) (moved 32 32 m) ∙ xor-swap (h * 2 ^ 64) l (m * 2 ^ 32)

-- ---- `halved`

pub halved-pair : (hi l : ℕ) → hi < 2 ^ 64 → l < 2 ^ 64
    → pair (bit_xor (bit_xor (bit_xor l (l / 2)) (l / 4)) (l / 128)) (bit_xor (bit_xor (bit_xor hi (l % 2 * 0x8000000000000000)) (l % 4 * 0x4000000000000000)) (l % 128 * 0x200000000000000))
    ≡ halves 64 (pair hi l)
halved-pair hi l h k =
    let a : ℕ = l % 2 * 0x8000000000000000 in
    let b : ℕ = l % 4 * 0x4000000000000000 in
    let c : ℕ = l % 128 * 0x200000000000000 in
    let ha : bit_xor hi a < 2 ^ 64 = xor_lt 64 hi a h (moved-fits 1 63 l) in
    let hb : bit_xor (bit_xor hi a) b < 2 ^ 64 = xor_lt 64 (bit_xor hi a) b ha (moved-fits 2 62 l) in
    pair-sum (bit_xor (bit_xor l (l / 2)) (l / 4)) (bit_xor (bit_xor hi a) b) (l / 128) c hb (moved-fits 7 57 l)
    ∙ ap₂ bit_xor
    (pair-sum (bit_xor l (l / 2)) (bit_xor hi a) (l / 4) b ha (moved-fits 2 62 l)
    ∙ ap₂ bit_xor (pair-sum l hi (l / 2) a h (moved-fits 1 63 l) ∙ ap₂ bit_xor (sym (xor_shifted l 64 hi h) ∙ xor_comm (l * 2 ^ 64) hi) (moved 1 63 l)) (moved 2 62 l))
    (moved 7 57 l)
    ∙ gathered hi (l * 2 ^ 64) (l * 2 ^ 63) (l * 2 ^ 62) (l * 2 ^ 57)
    ∙ sym (halves-pair 64 hi l k ∙ ap (bit_xor hi) (halves-low l k))
  where
    gathered : (x a b c d : ℕ) → bit_xor (bit_xor (bit_xor (bit_xor x a) b) c) d ≡ bit_xor x (bit_xor (bit_xor (bit_xor a b) c) d)
    gathered x a b c d = simp xor_assoc

-- ---- `reduced`

-- Blocks in two halves: a sum in the low half, a block's range, a block moved up.
pair-low : (a b c : ℕ) → b < 2 ^ 64 → c < 2 ^ 64 → pair a (bit_xor b c) ≡ bit_xor (pair a b) c
pair-low a b c h l =
    ap (λ (x : ℕ). pair x (bit_xor b c)) (sym (xor_zero_r a)) ∙ pair-sum a b 0 c h l ∙ ap (bit_xor (pair a b)) (zero-add c)

pair_fits : (a b : ℕ) → a < 2 ^ 64 → b < 2 ^ 64 → pair a b < 2 ^ 128
pair_fits a b h l =
    let longer : 64 ≤ 128 = omega arith in
    rw (← xor_shifted a 64 b l) (xor_lt 128 (a * 2 ^ 64) b (shl_lt 64 64 h) (lt_of_lt_of_le l (pow_mono longer)))

pair-shift : (a b : ℕ) → pair a b * 2 ^ 64 ≡ a * 2 ^ 128 + b * 2 ^ 64
pair-shift a b = add-mul (a * 2 ^ 64) b (2 ^ 64) ∙ ap (λ (x : ℕ). x + b * 2 ^ 64) (mul_assoc a (2 ^ 64) (2 ^ 64))

module _ (lh ll hh hl mh ml : ℕ) (p : ll < 2 ^ 64) (q : hl < 2 ^ 64) (r : mh < 2 ^ 64) (s : ml < 2 ^ 64) (t : lh < 2 ^ 64) where
  -- The three products, one above the other.
  stacked : bit_xor (bit_xor (pair hh hl * 2 ^ 128) (pair mh ml * 2 ^ 64)) (pair lh ll) ≡ pair hh (bit_xor hl mh) * 2 ^ 128 + pair (bit_xor lh ml) ll
  stacked =
      let e : pair mh ml * 2 ^ 64 ≡ bit_xor (mh * 2 ^ 128) (ml * 2 ^ 64) = pair-shift mh ml ∙ sym (xor_shifted mh 128 (ml * 2 ^ 64) (shl_lt 64 64 s)) in
      let f : pair (bit_xor lh ml) ll < 2 ^ 128 = pair_fits (bit_xor lh ml) ll (xor_lt 64 lh ml t s) p in
      ap (λ (x : ℕ). bit_xor (bit_xor (pair hh hl * 2 ^ 128) x) (pair lh ll)) e
      ∙ ap (λ (x : ℕ). bit_xor x (pair lh ll)) (sym (xor_assoc (pair hh hl * 2 ^ 128) (mh * 2 ^ 128) (ml * 2 ^ 64)))
      ∙ xor_assoc (bit_xor (pair hh hl * 2 ^ 128) (mh * 2 ^ 128)) (ml * 2 ^ 64) (pair lh ll)
      ∙ ap₂ bit_xor (sym (shift-sum 128 (pair hh hl) mh) ∙ ap (λ (x : ℕ). x * 2 ^ 128) (sym (pair-low hh hl mh q r)))
      (xor_comm (ml * 2 ^ 64) (pair lh ll) ∙ sym (pair-high lh ll ml p))
      ∙ xor_shifted (pair hh (bit_xor hl mh)) 128 (pair (bit_xor lh ml) ll) f

  pub reduction : (b f g z : ℕ) → pair mh ml ≡ bit_xor (bit_xor b (pair lh ll)) (pair hh hl) → f ≡ halves 64 (pair (bit_xor lh ml) ll) → g ≡ halves 64 f
      → z ≡ bit_xor (pair hh (bit_xor hl mh)) g → z ≡ halves 128 (karatsuba 64 (pair lh ll) (pair hh hl) b)
  reduction b f g z m e k w =
      let u : pair (bit_xor lh ml) ll < 2 ^ 128 = pair_fits (bit_xor lh ml) ll (xor_lt 64 lh ml t s) p in
      w ∙ ap (bit_xor (pair hh (bit_xor hl mh))) (k ∙ ap (halves 64) e ∙ sym (halves-add 64 64 (pair (bit_xor lh ml) ll)))
      ∙ sym (ap (λ (x : ℕ). halves 128 (bit_xor (bit_xor (pair hh hl * 2 ^ 128) (x * 2 ^ 64)) (pair lh ll))) (sym m)
      ∙ ap (halves 128) stacked ∙ halves-pair 128 (pair hh (bit_xor hl mh)) (pair (bit_xor lh ml) ll) u)

-- ---- `times`

-- The product of two words of 64 bits from those of their halves; and that of the sums of two each.
word-product : (x y : ℕ)
    → karatsuba 32 (clmul 32 (x % 2 ^ 32) (y % 2 ^ 32)) (clmul 32 (x / 2 ^ 32) (y / 2 ^ 32)) (clmul 32 (bit_xor (x % 2 ^ 32) (x / 2 ^ 32)) (bit_xor (y % 2 ^ 32) (y / 2 ^ 32)))
    ≡ clmul 64 x y
word-product x y =
    karatsuba-product 32 (x % 2 ^ 32) (x / 2 ^ 32) (y % 2 ^ 32) (y / 2 ^ 32) (omega arith) (omega arith)
    ∙ ap₂ (clmul 64) (div-add-mod' x (2 ^ 32)) (div-add-mod' y (2 ^ 32))

sum-halves : (x y : ℕ) → bit_xor (x / 2 ^ 32) (y / 2 ^ 32) * 2 ^ 32 + bit_xor (x % 2 ^ 32) (y % 2 ^ 32) ≡ bit_xor x y
sum-halves x y =
    sym (xor_block 32 (x / 2 ^ 32) (y / 2 ^ 32) (x % 2 ^ 32) (y % 2 ^ 32) (omega arith) (omega arith))
    ∙ ap₂ bit_xor (div-add-mod' x (2 ^ 32)) (div-add-mod' y (2 ^ 32))

sum-product : (x x' y y' : ℕ)
    → karatsuba 32 (clmul 32 (bit_xor (x % 2 ^ 32) (x' % 2 ^ 32)) (bit_xor (y % 2 ^ 32) (y' % 2 ^ 32))) (clmul 32 (bit_xor (x / 2 ^ 32) (x' / 2 ^ 32)) (bit_xor (y / 2 ^ 32) (y' / 2 ^ 32)))
    (clmul 32 (bit_xor (bit_xor (x % 2 ^ 32) (x' % 2 ^ 32)) (bit_xor (x / 2 ^ 32) (x' / 2 ^ 32))) (bit_xor (bit_xor (y % 2 ^ 32) (y' % 2 ^ 32)) (bit_xor (y / 2 ^ 32) (y' / 2 ^ 32))))
    ≡ clmul 64 (bit_xor x x') (bit_xor y y')
sum-product x x' y y' =
    karatsuba-product 32 (bit_xor (x % 2 ^ 32) (x' % 2 ^ 32)) (bit_xor (x / 2 ^ 32) (x' / 2 ^ 32)) (bit_xor (y % 2 ^ 32) (y' % 2 ^ 32)) (bit_xor (y / 2 ^ 32) (y' / 2 ^ 32))
    (xor_lt 32 (x % 2 ^ 32) (x' % 2 ^ 32) (omega arith) (omega arith)) (xor_lt 32 (y % 2 ^ 32) (y' % 2 ^ 32) (omega arith) (omega arith))
    ∙ ap₂ (clmul 64) (sum-halves x x') (sum-halves y y')

module _ (xh xl : ℕ) (t p : List ℕ) (h : xl < 2 ^ 64) (k : HashKey (hash_key_of t) t) (s : Products (factors_of xh xl) t 9 p) where
  at : (i : ℕ) → i < 9 → get_or p i 0 ≡ clmul 32 (get_or (factors_of xh xl) i 0) (get_or (factors_of (high_of t) (low_of t)) i 0)
  at i l = s.entry i l ∙ ap (λ (z : List ℕ). clmul 32 (get_or (factors_of xh xl) i 0) (get_or z i 0)) k.factors

  three : (i j n : ℕ) → i < 9 → j < 9 → n < 9
      → karatsuba 32 (get_or p i 0) (get_or p j 0) (get_or p n 0)
      ≡ karatsuba 32 (clmul 32 (get_or (factors_of xh xl) i 0) (get_or (factors_of (high_of t) (low_of t)) i 0)) (clmul 32 (get_or (factors_of xh xl) j 0) (get_or (factors_of (high_of t) (low_of t)) j 0))
      (clmul 32 (get_or (factors_of xh xl) n 0) (get_or (factors_of (high_of t) (low_of t)) n 0))
  three i j n a b c = rw (at i a, at j b, at n c)

  pub multiplied : (a b m z : ℕ) → a ≡ karatsuba 32 (get_or p 0 0) (get_or p 1 0) (get_or p 2 0) → b ≡ karatsuba 32 (get_or p 3 0) (get_or p 4 0) (get_or p 5 0)
      → m ≡ karatsuba 32 (get_or p 6 0) (get_or p 7 0) (get_or p 8 0) → z ≡ halves 128 (karatsuba 64 a b m) → z ≡ product (pair xh xl) (hash_key_of t)
  multiplied a b m z ea eb em ez =
      let fa : a ≡ clmul 64 xl (low_of t) = ea ∙ three 0 1 2 (omega arith) (omega arith) (omega arith) ∙ word-product xl (low_of t) in
      let fb : b ≡ clmul 64 xh (high_of t) = eb ∙ three 3 4 5 (omega arith) (omega arith) (omega arith) ∙ word-product xh (high_of t) in
      let fm : m ≡ clmul 64 (bit_xor xl xh) (bit_xor (low_of t) (high_of t)) =
      em ∙ three 6 7 8 (omega arith) (omega arith) (omega arith) ∙ sum-product xl xh (low_of t) (high_of t) in
      ez ∙ rw (fa, fb, fm) (ap (halves 128) (karatsuba-product 64 xl xh (low_of t) (high_of t) h k.fits))
      ∙ product-halves (pair xh xl) (pair (high_of t) (low_of t))

-- SPDX-License-Identifier: MIT
-- Laws of SubWord by the circuit, and of words in planes.
-- Assumes nothing.
use mathlib.Core.Path.{◌≡◌, sym, ◌∙◌, ap}
use mathlib.Core.List.{List, [], ◌∷◌}
use Prim.Native.Nat.{ℕ, zero, suc, ◌+◌, ◌*◌, ◌/◌, ◌%◌, ◌^◌, ◌-◌, ◌<◌}
use native.Mathlib.Nat.{div-one, mod-lt, div-add-mod'}
use native.Mathlib.Omega.{arith}
use lib.Bits.{bit_and}
use lib.ListN.{get_or}
use lib.Pow.{shr-shr}
use Rattle.aes.specs.Aes.{word, sub_word}
use Rattle.aes.proofs.Words.{word_bytes}
use Rattle.bitslice.specs.declared.Planes.{Planes}
use Rattle.bitslice.specs.Lanes.{lane, byte_of, lane_byte, Substituted, Spread}
use Rattle.bitslice.proofs.Spreads.{ones, eighths, masked}
use Rattle.aes_rows.specs.Rows.{row_at, Each}
use Rattle.aes_rows.specs.Blocks.{place, column}
use Rattle.aes_keys.specs.Inner.Keys.{packed, Filled}

-- ---- SubWord

-- Every eighth bit, as the bytes of a word.
pub eighth-bits : (w : ℕ) → bit_and w 0x1010101 ≡ word (lane 24 w) (lane 16 w) (lane 8 w) (lane 0 w)
unfolding ones eighths word lane
eighth-bits w =
    let p : w / 256 / 256 ≡ w / 65536 = omega arith in
    let q : w / 65536 / 256 ≡ w / 16777216 = omega arith in
    let z : (0 * 256 + w / 16777216 % 2) ≡ w / 16777216 % 2 = omega arith in
    masked 4 w ∙ rw (p, q, z) (ap (λ (x : ℕ). ((w / 16777216 % 2 * 256 + w / 65536 % 2) * 256 + w / 256 % 2) * 256 + x % 2) (sym (div-one w)))

-- Eight such words, each at its bit.
pub bytes-gathered : (s : Planes) (e0 e1 e2 e3 e4 e5 e6 e7 : ℕ)
    → e0 ≡ word (lane 24 s.p0) (lane 16 s.p0) (lane 8 s.p0) (lane 0 s.p0)
    → e1 ≡ word (lane 24 s.p1) (lane 16 s.p1) (lane 8 s.p1) (lane 0 s.p1)
    → e2 ≡ word (lane 24 s.p2) (lane 16 s.p2) (lane 8 s.p2) (lane 0 s.p2)
    → e3 ≡ word (lane 24 s.p3) (lane 16 s.p3) (lane 8 s.p3) (lane 0 s.p3)
    → e4 ≡ word (lane 24 s.p4) (lane 16 s.p4) (lane 8 s.p4) (lane 0 s.p4)
    → e5 ≡ word (lane 24 s.p5) (lane 16 s.p5) (lane 8 s.p5) (lane 0 s.p5)
    → e6 ≡ word (lane 24 s.p6) (lane 16 s.p6) (lane 8 s.p6) (lane 0 s.p6)
    → e7 ≡ word (lane 24 s.p7) (lane 16 s.p7) (lane 8 s.p7) (lane 0 s.p7)
    → e0 + e1 * 2 + e2 * 4 + e3 * 8 + (e4 + e5 * 2 + e6 * 4 + e7 * 8) * 16 ≡ word (lane_byte 24 s) (lane_byte 16 s) (lane_byte 8 s) (lane_byte 0 s)
unfolding word lane_byte byte_of
bytes-gathered s e0 e1 e2 e3 e4 e5 e6 e7 f0 f1 f2 f3 f4 f5 f6 f7 = omega arith

-- The circuit between a word's bytes in lanes and the bytes gathered.
pub sub_word_lem : (x : ℕ) (q s : Planes) (r : ℕ)
    → ((k : ℕ) → lane_byte k q ≡ x / 2 ^ k % 256) → Substituted q s → r ≡ word (lane_byte 24 s) (lane_byte 16 s) (lane_byte 8 s) (lane_byte 0 s) → r ≡ sub_word x
unfolding sub_word
sub_word_lem x q s r e f g =
    g ∙ rw (f.each 24 (omega arith), f.each 16 (omega arith), f.each 8 (omega arith), f.each 0 (omega arith), e 24, e 16, e 8, e 0)

-- ---- words in planes

-- Four numbers below 2^16 in a word.
module _ (a b c d : ℕ) (ha : a < 65536) (hb : b < 65536) (hc : c < 65536) (hd : d < 65536) where
  abbrev wide : ℕ
  wide = ((a * 65536 + b) * 65536 + c) * 65536 + d

  wide-0 : wide / 2 ^ 48 % 65536 ≡ a
  wide-0 = omega arith

  wide-1 : wide / 2 ^ 32 % 65536 ≡ b
  wide-1 = omega arith

  wide-2 : wide / 2 ^ 16 % 65536 ≡ c
  wide-2 = omega arith

  wide-3 : wide / 2 ^ 0 % 65536 ≡ d
  wide-3 = omega arith

-- Each half of a byte twice over is the byte.
low_half : (k v : ℕ) → v < 256 → (k * 65536 + v * 257) / 1 % 256 ≡ v
low_half k v h =
    let e : (k * 65536 + v * 257) / 1 ≡ (k * 256 + v) * 256 + v = omega arith in
    rw e (omega arith)

high_half : (k v : ℕ) → v < 256 → (k * 65536 + v * 257) / 256 % 256 ≡ v
high_half k v h =
    let e : (k * 65536 + v * 257) / 256 ≡ k * 256 + v = omega arith in
    rw e (omega arith)

half : (x v h : ℕ) → v < 256 → h < 2 → x % 65536 ≡ v * 257 → x / 2 ^ (8 * h) % 256 ≡ v
half x v h l k e = by h k
  where
    whole : x ≡ x / 65536 * 65536 + v * 257
    whole = sym (div-add-mod' x 65536) ∙ ap (λ (y : ℕ). x / 65536 * 65536 + y) e

    by : (h : ℕ) → h < 2 → x / 2 ^ (8 * h) % 256 ≡ v
    by zero g = ap (λ (y : ℕ). y / 1 % 256) whole ∙ low_half (x / 65536) v l
    by (suc zero) g = ap (λ (y : ℕ). y / 256 % 256) whole ∙ high_half (x / 65536) v l
    by (suc (suc h)) g = absurd (omega arith)

-- The byte in the lane of column c and block m.
packed-at : (a b c d : ℕ) → a < 256 → b < 256 → c < 256 → d < 256 → (i m : ℕ) → i < 4 → m < 16
    → packed a b c d / 2 ^ (8 * (place i m / 8)) % 256 ≡ get_or (a ∷ b ∷ c ∷ d ∷ []) i 0
unfolding packed
packed-at a b c d ha hb hc hd i m hi hm = at i hi
  where
    x : ℕ
    x = ((a * 257 * 65536 + b * 257) * 65536 + c * 257) * 65536 + d * 257

    split : (((a * 0x10000 + b) * 0x10000 + c) * 0x10000 + d) * 0x101 ≡ x
    split = omega arith

    one : (n v : ℕ) → v < 256 → x / 2 ^ n % 65536 ≡ v * 257 → (k : ℕ) → k ≡ n + 8 * (m / 8)
        → (((a * 0x10000 + b) * 0x10000 + c) * 0x10000 + d) * 0x101 / 2 ^ k % 256 ≡ v
    one n v l e k f =
        ap (λ (y : ℕ). y / 2 ^ k % 256) split ∙ ap (λ (y : ℕ). x / 2 ^ y % 256) f ∙ ap (λ (y : ℕ). y % 256) (sym (shr-shr x n (8 * (m / 8))))
        ∙ half (x / 2 ^ n) v (m / 8) l (omega arith) e

    at : (i : ℕ) → i < 4 → (((a * 0x10000 + b) * 0x10000 + c) * 0x10000 + d) * 0x101 / 2 ^ (8 * (place i m / 8)) % 256 ≡ get_or (a ∷ b ∷ c ∷ d ∷ []) i 0
    at zero h = one 48 a ha (wide-0 (a * 257) (b * 257) (c * 257) (d * 257) (omega arith) (omega arith) (omega arith) (omega arith)) _ (omega arith)
    at (suc zero) h = one 32 b hb (wide-1 (a * 257) (b * 257) (c * 257) (d * 257) (omega arith) (omega arith) (omega arith) (omega arith)) _ (omega arith)
    at (suc (suc zero)) h = one 16 c hc (wide-2 (a * 257) (b * 257) (c * 257) (d * 257) (omega arith) (omega arith) (omega arith) (omega arith)) _ (omega arith)
    at (suc (suc (suc zero))) h = one 0 d hd (wide-3 (a * 257) (b * 257) (c * 257) (d * 257) (omega arith) (omega arith) (omega arith) (omega arith)) _ (omega arith)
    at (suc (suc (suc (suc i)))) h = absurd (omega arith)

-- Row s of four words.
abbrev pub Filling : (w0 w1 w2 w3 : ℕ) → ℕ → Planes → Planes → Type 0
Filling w0 w1 w2 w3 s a b =
    Spread (packed (w0 / 2 ^ (24 - 8 * s) % 256) (w1 / 2 ^ (24 - 8 * s) % 256) (w2 / 2 ^ (24 - 8 * s) % 256) (w3 / 2 ^ (24 - 8 * s) % 256)) b

module _ (w0 w1 w2 w3 : ℕ) (q t : List ℕ) (e : Each (Filling w0 w1 w2 w3) 4 q t) where
  filled-byte : (s m c : ℕ) → s < 4 → m < 16 → c < 4
      → lane_byte (place c m) (row_at t s)
      ≡ get_or (w0 / 2 ^ (24 - 8 * s) % 256 ∷ w1 / 2 ^ (24 - 8 * s) % 256 ∷ w2 / 2 ^ (24 - 8 * s) % 256 ∷ w3 / 2 ^ (24 - 8 * s) % 256 ∷ []) c 0
  filled-byte s m c hs hm hc =
      let byte : (w : ℕ) → w % 256 < 256 = λ w. mod-lt w (omega arith) in
      (e.done s hs).each (place c m) (omega arith) ∙ packed-at _ _ _ _ (byte _) (byte _) (byte _) (byte _) c m hc hm

  filled-column : w0 < 2 ^ 32 → w1 < 2 ^ 32 → w2 < 2 ^ 32 → w3 < 2 ^ 32 → (m c : ℕ) → m < 16 → c < 4
      → column t m c ≡ get_or (w0 ∷ w1 ∷ w2 ∷ w3 ∷ []) c 0
  unfolding column
  filled-column h0 h1 h2 h3 m zero hm hc =
      rw (filled-byte 0 m 0 (omega arith) hm hc, filled-byte 1 m 0 (omega arith) hm hc, filled-byte 2 m 0 (omega arith) hm hc, filled-byte 3 m 0 (omega arith) hm hc)
      (word_bytes w0 h0)
  filled-column h0 h1 h2 h3 m (suc zero) hm hc =
      rw (filled-byte 0 m 1 (omega arith) hm hc, filled-byte 1 m 1 (omega arith) hm hc, filled-byte 2 m 1 (omega arith) hm hc, filled-byte 3 m 1 (omega arith) hm hc)
      (word_bytes w1 h1)
  filled-column h0 h1 h2 h3 m (suc (suc zero)) hm hc =
      rw (filled-byte 0 m 2 (omega arith) hm hc, filled-byte 1 m 2 (omega arith) hm hc, filled-byte 2 m 2 (omega arith) hm hc, filled-byte 3 m 2 (omega arith) hm hc)
      (word_bytes w2 h2)
  filled-column h0 h1 h2 h3 m (suc (suc (suc zero))) hm hc =
      rw (filled-byte 0 m 3 (omega arith) hm hc, filled-byte 1 m 3 (omega arith) hm hc, filled-byte 2 m 3 (omega arith) hm hc, filled-byte 3 m 3 (omega arith) hm hc)
      (word_bytes w3 h3)
  filled-column h0 h1 h2 h3 m (suc (suc (suc (suc c)))) hm hc = absurd (omega arith)

  pub filled : w0 < 2 ^ 32 → w1 < 2 ^ 32 → w2 < 2 ^ 32 → w3 < 2 ^ 32 → Filled w0 w1 w2 w3 t
  filled h0 h1 h2 h3 = record { sized = e.sized; each = filled-column h0 h1 h2 h3 }

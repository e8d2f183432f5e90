-- SPDX-License-Identifier: MIT
-- Planes into bytes, and rows of bytes into columns, from the exchanges of the code.
-- Assumes nothing.
use mathlib.Core.Path.{◌≡◌, refl, sym, ◌∙◌}
use mathlib.Core.List.{List, [], ◌∷◌}
use Prim.Native.Nat.{ℕ, zero, suc, ◌+◌, ◌*◌, ◌-◌, ◌/◌, ◌%◌, ◌^◌, ◌<◌}
use native.Mathlib.Nat.{mod-eq_of_lt}
use native.Mathlib.Omega.{arith}
use lib.ListN.{get_or}
use Rattle.octets.specs.Octets.{number, bytes}
use Rattle.octets.proofs.Laws.{number-bytes}
use Rattle.bitslice.specs.declared.Planes.{Planes}
use Rattle.bitslice.specs.Lanes.{lane, lane_byte}
use Rattle.bit_transpose.specs.Transposition.{octet, column, words_of, Swapped, Transposed}
use Rattle.bit_transpose.proofs.Sources.{source, Reads, given, Partner, first_reads, second_reads, follows, reads_as, octet-bits}

partner-1 : Partner 1
partner-1 j h d = omega arith

partner-2 : Partner 2
partner-2 j h d = omega arith

partner-4 : Partner 4
partner-4 j h d = omega arith

partner-8 : Partner 8
partner-8 j h d = omega arith

partner-16 : Partner 16
partner-16 j h d = omega arith

partner-32 : Partner 32
partner-32 j h d = omega arith

-- ---- planes into bytes

-- Word i has in place j bit 8 (j / 8) + i of plane j % 8.
abbrev across : ℕ → ℕ → ℕ
across i j = 64 * (j % 8) + (8 * (j / 8) + i)

-- Byte b of such a word.
across-bit : (l : List ℕ) (i w b t : ℕ) → Reads l (across i) w → i < 8 → b < 8 → t < 8 → lane (t + 8 * b) w ≡ lane (8 * b + i) (get_or l t 0)
across-bit l i w b t r hi hb ht =
    let u : (t + 8 * b) % 8 ≡ t = omega arith in
    let v : (t + 8 * b) / 8 ≡ b = omega arith in
    let e : (64 * t + (8 * b + i)) % 64 ≡ 8 * b + i = omega arith in
    let f : (64 * t + (8 * b + i)) / 64 ≡ t = omega arith in
    r.each (t + 8 * b) (omega arith) ∙ rw (u, v, e, f)

across-octet : (q : Planes) (i w b : ℕ) → Reads (words_of q) (across i) w → i < 8 → b < 8 → octet b w ≡ lane_byte (8 * b + i) q
unfolding lane_byte
across-octet q i w b r hi hb =
    let l : List ℕ = words_of q in
    octet-bits b w
    ∙ rw (
      across-bit l i w b 7 r hi hb (omega arith),
      across-bit l i w b 6 r hi hb (omega arith),
      across-bit l i w b 5 r hi hb (omega arith),
      across-bit l i w b 4 r hi hb (omega arith),
      across-bit l i w b 3 r hi hb (omega arith),
      across-bit l i w b 2 r hi hb (omega arith),
      across-bit l i w b 1 r hi hb (omega arith),
      across-bit l i w b 0 r hi hb (omega arith),
    )

-- Eight words of which the i-th is made so.
record Across (q r : Planes) : Type 0 where
  r0 : Reads (words_of q) (across 0) r.p0
  r1 : Reads (words_of q) (across 1) r.p1
  r2 : Reads (words_of q) (across 2) r.p2
  r3 : Reads (words_of q) (across 3) r.p3
  r4 : Reads (words_of q) (across 4) r.p4
  r5 : Reads (words_of q) (across 5) r.p5
  r6 : Reads (words_of q) (across 6) r.p6
  r7 : Reads (words_of q) (across 7) r.p7

across-each : (q r : Planes) → Across q r → (i b : ℕ) → i < 8 → b < 8 → octet b (get_or (words_of r) i 0) ≡ lane_byte (8 * b + i) q
across-each q r a zero b hi hb = across-octet q 0 _ b a.r0 hi hb
across-each q r a (suc zero) b hi hb = across-octet q 1 _ b a.r1 hi hb
across-each q r a (suc (suc zero)) b hi hb = across-octet q 2 _ b a.r2 hi hb
across-each q r a (suc (suc (suc zero))) b hi hb = across-octet q 3 _ b a.r3 hi hb
across-each q r a (suc (suc (suc (suc zero)))) b hi hb = across-octet q 4 _ b a.r4 hi hb
across-each q r a (suc (suc (suc (suc (suc zero))))) b hi hb = across-octet q 5 _ b a.r5 hi hb
across-each q r a (suc (suc (suc (suc (suc (suc zero)))))) b hi hb = across-octet q 6 _ b a.r6 hi hb
across-each q r a (suc (suc (suc (suc (suc (suc (suc zero))))))) b hi hb = across-octet q 7 _ b a.r7 hi hb
across-each q r a (suc (suc (suc (suc (suc (suc (suc (suc i)))))))) b hi hb = absurd (omega arith)

module _ (q r : Planes) (a₀ a₁ b₀ b₁ c₀ c₁ d₀ d₁ e₀ e₁ f₀ f₁ g₀ g₁ h₀ h₁ : ℕ)
    (a : Swapped 1 q.p0 q.p1 a₀ a₁) (b : Swapped 1 q.p2 q.p3 b₀ b₁)
    (c : Swapped 1 q.p4 q.p5 c₀ c₁) (d : Swapped 1 q.p6 q.p7 d₀ d₁)
    (e : Swapped 2 a₀ b₀ e₀ e₁) (f : Swapped 2 a₁ b₁ f₀ f₁) (g : Swapped 2 c₀ d₀ g₀ g₁) (h : Swapped 2 c₁ d₁ h₀ h₁)
    (s : Swapped 4 e₀ g₀ r.p0 r.p4) (t : Swapped 4 f₀ h₀ r.p1 r.p5)
    (u : Swapped 4 e₁ g₁ r.p2 r.p6) (v : Swapped 4 f₁ h₁ r.p3 r.p7) where
  exchanged : Across q r
  unfolding follows
  exchanged =
      let l : List ℕ = words_of q in
      let p0 = given l 0 in
      let p1 = given l 1 in
      let p2 = given l 2 in
      let p3 = given l 3 in
      let p4 = given l 4 in
      let p5 = given l 5 in
      let p6 = given l 6 in
      let p7 = given l 7 in
      let e0 = first_reads l 2 _ _ _ _ _ _ partner-2 e (first_reads l 1 _ _ _ _ _ _ partner-1 a p0 p1) (first_reads l 1 _ _ _ _ _ _ partner-1 b p2 p3) in
      let e1 = second_reads l 2 _ _ _ _ _ _ partner-2 e (first_reads l 1 _ _ _ _ _ _ partner-1 a p0 p1) (first_reads l 1 _ _ _ _ _ _ partner-1 b p2 p3) in
      let f0 = first_reads l 2 _ _ _ _ _ _ partner-2 f (second_reads l 1 _ _ _ _ _ _ partner-1 a p0 p1) (second_reads l 1 _ _ _ _ _ _ partner-1 b p2 p3) in
      let f1 = second_reads l 2 _ _ _ _ _ _ partner-2 f (second_reads l 1 _ _ _ _ _ _ partner-1 a p0 p1) (second_reads l 1 _ _ _ _ _ _ partner-1 b p2 p3) in
      let g0 = first_reads l 2 _ _ _ _ _ _ partner-2 g (first_reads l 1 _ _ _ _ _ _ partner-1 c p4 p5) (first_reads l 1 _ _ _ _ _ _ partner-1 d p6 p7) in
      let g1 = second_reads l 2 _ _ _ _ _ _ partner-2 g (first_reads l 1 _ _ _ _ _ _ partner-1 c p4 p5) (first_reads l 1 _ _ _ _ _ _ partner-1 d p6 p7) in
      let h0 = first_reads l 2 _ _ _ _ _ _ partner-2 h (second_reads l 1 _ _ _ _ _ _ partner-1 c p4 p5) (second_reads l 1 _ _ _ _ _ _ partner-1 d p6 p7) in
      let h1 = second_reads l 2 _ _ _ _ _ _ partner-2 h (second_reads l 1 _ _ _ _ _ _ partner-1 c p4 p5) (second_reads l 1 _ _ _ _ _ _ partner-1 d p6 p7) in
      record {
        r0 = reads_as l _ (across 0) _ (first_reads l 4 _ _ _ _ _ _ partner-4 s e0 g0) tt;
        r1 = reads_as l _ (across 1) _ (first_reads l 4 _ _ _ _ _ _ partner-4 t f0 h0) tt;
        r2 = reads_as l _ (across 2) _ (first_reads l 4 _ _ _ _ _ _ partner-4 u e1 g1) tt;
        r3 = reads_as l _ (across 3) _ (first_reads l 4 _ _ _ _ _ _ partner-4 v f1 h1) tt;
        r4 = reads_as l _ (across 4) _ (second_reads l 4 _ _ _ _ _ _ partner-4 s e0 g0) tt;
        r5 = reads_as l _ (across 5) _ (second_reads l 4 _ _ _ _ _ _ partner-4 t f0 h0) tt;
        r6 = reads_as l _ (across 6) _ (second_reads l 4 _ _ _ _ _ _ partner-4 u e1 g1) tt;
        r7 = reads_as l _ (across 7) _ (second_reads l 4 _ _ _ _ _ _ partner-4 v f1 h1) tt;
      }

  pub transposed : Transposed q r
  transposed = record { each = across-each q r exchanged }

-- ---- rows of bytes into columns

-- A word of eight bytes.
halves : (a b c d e f g h : ℕ)
    → (((((((0 * 256 + a) * 256 + b) * 256 + c) * 256 + d) * 256 + e) * 256 + f) * 256 + g) * 256 + h
    ≡ (((a * 256 + b) * 256 + c) * 256 + d) * 2 ^ 32 + (((e * 256 + f) * 256 + g) * 256 + h)
halves a b c d e f g h = omega arith

eight : (w : ℕ) → w < 2 ^ 64
    → w ≡ (((octet 7 w * 256 + octet 6 w) * 256 + octet 5 w) * 256 + octet 4 w) * 2 ^ 32 + (((octet 3 w * 256 + octet 2 w) * 256 + octet 1 w) * 256 + octet 0 w)
unfolding octet number bytes
eight w h = sym (mod-eq_of_lt h) ∙ sym (number-bytes 8 w) ∙ halves _ _ _ _ _ _ _ _

-- Of the columns m + 2 and m, joined: in place j, which is byte 3 - j / 8 % 4 of its column.
abbrev along : ℕ → ℕ → ℕ
along m j = 64 * (3 - j / 8 % 4) + (8 * (m + 2 * (j / 32)) + j % 8)

-- Bit s of word i.
numbered : (l : List ℕ) (i s : ℕ) → s < 64 → source l (64 * i + s) ≡ lane s (get_or l i 0)
numbered l i s h =
    let e : (64 * i + s) % 64 ≡ s = omega arith in
    let f : (64 * i + s) / 64 ≡ i = omega arith in
    rw (e, f)

module _ (l : List ℕ) (m w : ℕ) (r : Reads l (along m) w) (hm : m < 6) where
  along-bit : (b i k t : ℕ) → b < 8 → t < 8 → i + b % 4 ≡ 3 → k ≡ m + 2 * (b / 4) → lane (t + 8 * b) w ≡ lane (t + 8 * k) (get_or l i 0)
  along-bit b i k t hb ht ei ek =
      let u : (t + 8 * b) / 8 ≡ b = omega arith in
      let v : (t + 8 * b) / 32 ≡ b / 4 = omega arith in
      let w : (t + 8 * b) % 8 ≡ t = omega arith in
      let x : 3 - b % 4 ≡ i = omega arith in
      let y : 8 * k + t ≡ t + 8 * k = omega arith in
      r.each (t + 8 * b) (omega arith) ∙ rw (u, v, w, x, ← ek, y) (numbered l i (t + 8 * k) (omega arith))

  along-octet : (b i k : ℕ) → b < 8 → i + b % 4 ≡ 3 → k ≡ m + 2 * (b / 4) → octet b w ≡ octet k (get_or l i 0)
  along-octet b i k hb ei ek =
      octet-bits b w
      ∙ rw (
        along-bit b i k 7 hb (omega arith) ei ek,
        along-bit b i k 6 hb (omega arith) ei ek,
        along-bit b i k 5 hb (omega arith) ei ek,
        along-bit b i k 4 hb (omega arith) ei ek,
        along-bit b i k 3 hb (omega arith) ei ek,
        along-bit b i k 2 hb (omega arith) ei ek,
        along-bit b i k 1 hb (omega arith) ei ek,
        along-bit b i k 0 hb (omega arith) ei ek,
      ) (sym (octet-bits k (get_or l i 0)))

  -- The word is its eight bytes.
  joined : w < 2 ^ 64 → (r0 r1 r2 r3 : ℕ) → get_or l 0 0 ≡ r0 → get_or l 1 0 ≡ r1 → get_or l 2 0 ≡ r2 → get_or l 3 0 ≡ r3
      → w ≡ column (m + 2) r0 r1 r2 r3 * 2 ^ 32 + column m r0 r1 r2 r3
  unfolding column
  joined h r0 r1 r2 r3 e0 e1 e2 e3 =
      eight w h
      ∙ rw (
        along-octet 7 0 (m + 2) (omega arith) (omega arith) (omega arith),
        along-octet 6 1 (m + 2) (omega arith) (omega arith) (omega arith),
        along-octet 5 2 (m + 2) (omega arith) (omega arith) (omega arith),
        along-octet 4 3 (m + 2) (omega arith) (omega arith) (omega arith),
        along-octet 3 0 m (omega arith) (omega arith) (omega arith),
        along-octet 2 1 m (omega arith) (omega arith) (omega arith),
        along-octet 1 2 m (omega arith) (omega arith) (omega arith),
        along-octet 0 3 m (omega arith) (omega arith) (omega arith),
        e0,
        e1,
        e2,
        e3,
      )

module _ (r0 r1 r2 r3 x₀ x₁ y₀ y₁ s₀ s₁ t₀ t₁ a b c d : ℕ)
    (x : Swapped 8 r1 r0 x₀ x₁) (y : Swapped 8 r3 r2 y₀ y₁) (s : Swapped 16 y₀ x₀ s₀ s₁) (t : Swapped 16 y₁ x₁ t₀ t₁)
    (u : Swapped 32 s₀ s₁ b a) (v : Swapped 32 t₀ t₁ d c) (ha : a < 2 ^ 64) (hb : b < 2 ^ 64) (hc : c < 2 ^ 64) (hd : d < 2 ^ 64) where
  abbrev rows : List ℕ
  rows = r0 ∷ r1 ∷ r2 ∷ r3 ∷ []

  -- The two halves of the even columns, and those of the odd ones.
  pub in-columns : ((a ≡ column 6 r0 r1 r2 r3 * 2 ^ 32 + column 4 r0 r1 r2 r3) × (b ≡ column 2 r0 r1 r2 r3 * 2 ^ 32 + column 0 r0 r1 r2 r3))
      × ((c ≡ column 7 r0 r1 r2 r3 * 2 ^ 32 + column 5 r0 r1 r2 r3) × (d ≡ column 3 r0 r1 r2 r3 * 2 ^ 32 + column 1 r0 r1 r2 r3))
  unfolding follows
  in-columns =
      let l : List ℕ = rows in
      let x0 = first_reads l 8 _ _ _ _ _ _ partner-8 x (given l 1) (given l 0) in
      let x1 = second_reads l 8 _ _ _ _ _ _ partner-8 x (given l 1) (given l 0) in
      let y0 = first_reads l 8 _ _ _ _ _ _ partner-8 y (given l 3) (given l 2) in
      let y1 = second_reads l 8 _ _ _ _ _ _ partner-8 y (given l 3) (given l 2) in
      let s0 = first_reads l 16 _ _ _ _ _ _ partner-16 s y0 x0 in
      let s1 = second_reads l 16 _ _ _ _ _ _ partner-16 s y0 x0 in
      let t0 = first_reads l 16 _ _ _ _ _ _ partner-16 t y1 x1 in
      let t1 = second_reads l 16 _ _ _ _ _ _ partner-16 t y1 x1 in
      let a' = reads_as l _ (along 4) a (second_reads l 32 _ _ _ _ _ _ partner-32 u s0 s1) tt in
      let b' = reads_as l _ (along 0) b (first_reads l 32 _ _ _ _ _ _ partner-32 u s0 s1) tt in
      let c' = reads_as l _ (along 5) c (second_reads l 32 _ _ _ _ _ _ partner-32 v t0 t1) tt in
      let d' = reads_as l _ (along 1) d (first_reads l 32 _ _ _ _ _ _ partner-32 v t0 t1) tt in (
        (joined l 4 a a' (omega arith) ha r0 r1 r2 r3 refl refl refl refl, joined l 0 b b' (omega arith) hb r0 r1 r2 r3 refl refl refl refl),
        (joined l 5 c c' (omega arith) hc r0 r1 r2 r3 refl refl refl refl, joined l 1 d d' (omega arith) hd r0 r1 r2 r3 refl refl refl refl),
      )

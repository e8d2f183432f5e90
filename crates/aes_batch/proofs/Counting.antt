-- SPDX-License-Identifier: MIT
-- Laws of sixteen counter blocks in planes.
-- Assumes nothing.
use mathlib.Core.Path.{◌≡◌, refl, sym, ◌∙◌, ap, ap₂}
use mathlib.Core.Bool.{Bool, true, false}
use mathlib.Core.List.{List, [], ◌∷◌}
use Prim.Native.Nat.{ℕ, ◌+◌, ◌*◌, ◌-◌, ◌/◌, ◌%◌, ◌<◌, min}
use native.Mathlib.Nat.{min-zero}
use native.Mathlib.Omega.{arith}
use borrow.Author.Tests.{lt-ltb, le-ltb, ne_eqb}
use lib.Bits.{bit_xor, bit_and, xor_block, xor_zero_l, xor_zero_r}
use lib.Dec.{T, eqb, eqb→eq, ltb}
use lib.ListN.{get_or, drop, replicate}
use Rattle.octets.specs.Octets.{number, pick}
use Rattle.octets.proofs.Entries.{all, entry-rule}
use Rattle.aes.specs.Aes.{word}
use Rattle.bitslice.specs.declared.Planes.{Planes}
use Rattle.bitslice.specs.Lanes.{lane, byte_of, lane_byte, Sum}
use Rattle.bitslice.proofs.Bits.{lane-bit, lane_and}
use Rattle.aes_rows.specs.Rows.{row_at, RowSet, Each}
use Rattle.aes_rows.specs.Blocks.{place, column, state}
use Rattle.aes_keys.specs.Inner.Keys.{Filled}
use Rattle.aes_batch.specs.Inner.Batch.{batch_blocks, number_of, Numbered, Counters, Cleared, Clearing}

-- ---- the numbers of the blocks, tested on each lane

abbrev numbers_row : Planes
numbers_row = record { p0 = 0xff00; p1 = 0xaaaa; p2 = 0xcccc; p3 = 0xf0f0; p4 = 0; p5 = 0; p6 = 0; p7 = 0 }

unfoldable right : ℕ → ℕ → Bool
right j x = eqb (lane_byte j numbers_row) (pick (ltb j batch_blocks) (number_of j) 0)

tested : T (all right 0 (replicate 64 0))
unfolding right lane_byte byte_of lane
tested = tt

numbers-at : (j : ℕ) → j < 64 → lane_byte j numbers_row ≡ pick (ltb j batch_blocks) (number_of j) 0
unfolding right
numbers-at j h = eqb→eq _ _ (entry-rule right (replicate 64 0) tested j h)

pub numbered : (q t : List ℕ) (a p : Planes) → a ≡ row_at q 3 → Sum a numbers_row p → RowSet q 3 p t → Numbered q t
numbered q t a p e s r =
    record {
      sized = r.sized;
      same = λ i h. r.others i (omega arith) (omega arith);
      last = λ l h.
          ap (lane_byte l) r.same ∙ s.each l (omega arith)
          ∙ ap₂ bit_xor (ap (lane_byte l) e) (numbers-at l (omega arith) ∙ rw (lt-ltb l batch_blocks h));
      others = λ j k h.
          ap (lane_byte j) r.same ∙ s.each j h
          ∙ ap₂ bit_xor (ap (lane_byte j) e) (numbers-at j h ∙ rw (le-ltb j batch_blocks k)) ∙ xor_zero_r (lane_byte j (row_at q 3));
    }

-- ---- counter blocks

-- A number below 16 is added to a multiple of 16 by XOR.
xor-plus : (b k : ℕ) → b % 16 ≡ 0 → k < 16 → bit_xor b k ≡ b + k
xor-plus b k e h =
    let f : b / 16 * 16 + 0 ≡ b = omega arith in
    let g : 0 * 16 + k ≡ k = omega arith in
    ap₂ bit_xor (sym f) (sym g) ∙ xor_block 4 (b / 16) 0 0 k (omega arith) h
    ∙ ap₂ (λ (x y : ℕ). x * 16 + y) (xor_zero_r (b / 16)) (xor_zero_l k) ∙ omega arith

word-plus : (a b c d k : ℕ) → word a b c (d + k) ≡ word a b c d + k
unfolding word
word-plus a b c d k = omega arith

low_byte : (a b c d x : ℕ) → word a b c d ≡ x → x % 16 ≡ 0 → d % 16 ≡ 0
unfolding word
low_byte a b c d x g h =
    let e : x ≡ (a * 0x100000 + b * 0x1000 + c * 0x10) * 16 + d = omega arith in
    omega arith

module _ (n0 n1 n2 count : ℕ) (q t : List ℕ) (f : Filled n0 n1 n2 count q) (n : Numbered q t) (l : ℕ) (hl : l < batch_blocks) where
  -- The first three columns.
  kept-column : (c : ℕ) → c < 3 → column t l c ≡ get_or (n0 ∷ n1 ∷ n2 ∷ count ∷ []) c 0
  unfolding column
  kept-column c h =
      ap (λ (p : Planes). word (lane_byte (place c l) p) (lane_byte (place c l) (row_at t 1)) (lane_byte (place c l) (row_at t 2)) (lane_byte (place c l) (row_at t 3))) (n.same 0 (omega arith))
      ∙ rw (n.same 1 (omega arith), n.same 2 (omega arith), n.others (place c l) (omega arith) (omega arith)) (f.each l c hl (omega arith))

  -- The last column.
  last-column : count % batch_blocks ≡ 0 → column t l 3 ≡ count + number_of l
  unfolding column
  last-column e =
      let z : 16 * 0 + l ≡ l = omega arith in
      let w : word (lane_byte l (row_at q 0)) (lane_byte l (row_at q 1)) (lane_byte l (row_at q 2)) (lane_byte l (row_at q 3)) ≡ count =
      rw z at (f.each l 3 hl (omega arith)) in
      let b : lane_byte l (row_at q 3) % 16 ≡ 0 =
      low_byte (lane_byte l (row_at q 0)) (lane_byte l (row_at q 1)) (lane_byte l (row_at q 2)) (lane_byte l (row_at q 3)) count w e in
      rw (z, n.same 0 (omega arith), n.same 1 (omega arith), n.same 2 (omega arith), n.last l hl, xor-plus (lane_byte l (row_at q 3)) (number_of l) b (omega arith))
      (word-plus (lane_byte l (row_at q 0)) (lane_byte l (row_at q 1)) (lane_byte l (row_at q 2)) (lane_byte l (row_at q 3)) (number_of l) ∙ ap (λ (x : ℕ). x + number_of l) w)

-- The sixteen counter blocks.
pub counters-made : (nonce : List ℕ) (n0 n1 n2 count : ℕ) (q t : List ℕ) → n0 ≡ number 4 nonce → n1 ≡ number 4 (drop 4 nonce)
    → n2 ≡ number 4 (drop 8 nonce) → Filled n0 n1 n2 count q → Numbered q t → count % batch_blocks ≡ 0 → Counters nonce count t
unfolding state
counters-made nonce n0 n1 n2 count q t e0 e1 e2 f n h =
    record {
      sized = n.sized;
      each = λ l hl.
          rw (
            kept-column n0 n1 n2 count q t f n l hl 0 (omega arith),
            kept-column n0 n1 n2 count q t f n l hl 1 (omega arith),
            kept-column n0 n1 n2 count q t f n l hl 2 (omega arith),
            last-column n0 n1 n2 count q t f n l hl h,
            e0,
            e1,
            e2,
          );
    }

-- ---- block 0 cleared

unfoldable keeps : ℕ → ℕ → Bool
keeps j x = eqb (lane j 0xfffefffefffefffe) (pick (eqb (j % batch_blocks) 0) 0 1)

kept-lanes : T (all keeps 0 (replicate 64 0))
unfolding keeps lane
kept-lanes = tt

keeps-at : (j : ℕ) → j < 64 → lane j 0xfffefffefffefffe ≡ pick (eqb (j % batch_blocks) 0) 0 1
unfolding keeps
keeps-at j h = eqb→eq _ _ (entry-rule keeps (replicate 64 0) kept-lanes j h)

-- A bit that is kept or cleared.
masked-lane : (j w : ℕ) → j < 64 → lane j (bit_and w 0xfffefffefffefffe) ≡ pick (eqb (j % batch_blocks) 0) 0 (lane j w)
masked-lane j w h = lane_and j w 0xfffefffefffefffe ∙ ap (min (lane j w)) (keeps-at j h) ∙ by (eqb (j % batch_blocks) 0)
  where
    by : (b : Bool) → min (lane j w) (pick b 0 1) ≡ pick b 0 (lane j w)
    by true = min-zero (lane j w)
    by false = omega (arith, lane-bit j w)

picked : (b : Bool) (x0 x1 x2 x3 x4 x5 x6 x7 : ℕ)
    → byte_of (pick b 0 x0) (pick b 0 x1) (pick b 0 x2) (pick b 0 x3) (pick b 0 x4) (pick b 0 x5) (pick b 0 x6) (pick b 0 x7)
    ≡ pick b 0 (byte_of x0 x1 x2 x3 x4 x5 x6 x7)
unfolding byte_of
picked true x0 x1 x2 x3 x4 x5 x6 x7 = refl
picked false x0 x1 x2 x3 x4 x5 x6 x7 = refl

abbrev keep : ℕ → ℕ
keep w = bit_and w 0xfffefffefffefffe

pub cleared : (a : Planes)
    → Cleared a (record { p0 = keep a.p0; p1 = keep a.p1; p2 = keep a.p2; p3 = keep a.p3; p4 = keep a.p4; p5 = keep a.p5; p6 = keep a.p6; p7 = keep a.p7 })
unfolding lane_byte
cleared a =
    record {
      each = λ j h.
          rw (
            masked-lane j a.p7 h,
            masked-lane j a.p6 h,
            masked-lane j a.p5 h,
            masked-lane j a.p4 h,
            masked-lane j a.p3 h,
            masked-lane j a.p2 h,
            masked-lane j a.p1 h,
            masked-lane j a.p0 h,
          )
          (picked (eqb (j % batch_blocks) 0) _ _ _ _ _ _ _ _);
    }

module _ (q t : List ℕ) (e : Each Clearing 4 q t) where
  zero-column : (c : ℕ) → c < 4 → column t 0 c ≡ 0
  unfolding column word
  zero-column c h =
      let z : (16 * (3 - c) + 0) % 16 ≡ 0 = omega arith in
      let b : (s : ℕ) → s < 4 → lane_byte (place c 0) (row_at t s) ≡ 0 = λ s k. (e.done s k).each (place c 0) (omega arith) ∙ rw z in
      rw (b 0 (omega arith), b 1 (omega arith), b 2 (omega arith), b 3 (omega arith))

  other-column : (l c : ℕ) → 0 < l → l < batch_blocks → c < 4 → column t l c ≡ column q l c
  unfolding column
  other-column l c p k h =
      let z : (16 * (3 - c) + l) % 16 ≡ l = omega arith in
      let b : (s : ℕ) → s < 4 → lane_byte (place c l) (row_at t s) ≡ lane_byte (place c l) (row_at q s) =
      λ s g. (e.done s g).each (place c l) (omega arith) ∙ rw (z, ne_eqb l 0 (omega arith)) in
      rw (b 0 (omega arith), b 1 (omega arith), b 2 (omega arith), b 3 (omega arith))

  pub first-cleared : state t 0 ≡ 0 ∷ 0 ∷ 0 ∷ 0 ∷ []
  unfolding state
  first-cleared = rw (zero-column 0 (omega arith), zero-column 1 (omega arith), zero-column 2 (omega arith), zero-column 3 (omega arith))

  pub others-kept : (l : ℕ) → 0 < l → l < batch_blocks → state t l ≡ state q l
  unfolding state
  others-kept l p h =
      rw (other-column l 0 p h (omega arith), other-column l 1 p h (omega arith), other-column l 2 p h (omega arith), other-column l 3 p h (omega arith))

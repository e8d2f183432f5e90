-- SPDX-License-Identifier: MIT
-- The circuit is the S-box on eight bits, by one test over every byte, and so on each lane of eight words.
-- Assumes nothing.
use mathlib.Core.Path.{◌≡◌, refl, ap, ◌∙◌}
use mathlib.Core.Bool.{Bool}
use Prim.Native.Nat.{ℕ, ◌-◌, ◌^◌, ◌<◌, min}
use native.Mathlib.Omega.{arith}
use lib.Dec.{T, eqb, eqb→eq}
use lib.Bits.{bit_xor, bit_and, differ, xor_lt, and_lt}
use lib.ListN.{replicate}
use lib.Pow.{ones_sub-lt}
use Rattle.octets.proofs.Entries.{all, entry-rule}
use Rattle.aes_tables.specs.Field.{products, x_times, mul, squares, inverse, affine_bit, affine_bits, s_box, bit}
use Rattle.bitslice.specs.declared.Planes.{Planes}
use Rattle.bitslice.specs.declared.Sums as sums
use Rattle.bitslice.specs.declared.Nibble as nibble
use Rattle.bitslice.specs.declared.Inverted as inverted
use Rattle.bitslice.specs.declared.Terms as terms
use Rattle.bitslice.specs.Circuit as circuit
use Rattle.bitslice.specs.Circuit.{Eight, circuit}
use Rattle.bitslice.specs.Lanes.{lane, byte_of, lane_byte, Substituted}
use Rattle.bitslice.specs.Inner.Parts.{eight_of, sums_of, nibble_of, inverted_of, terms_of, flip_word, Words}
use Rattle.bitslice.proofs.Bits.{lane-bit, lane_xor, lane_and, lane-flip}

-- The circuit on eight bits, and the byte of eight bits.
abbrev flip_bit : ℕ → ℕ
flip_bit x = 1 - x

abbrev bitwise : Eight ℕ → Eight ℕ
bitwise = circuit ℕ differ min flip_bit

abbrev byte_of_eight : Eight ℕ → ℕ
byte_of_eight e = byte_of e.s0 e.s1 e.s2 e.s3 e.s4 e.s5 e.s6 e.s7

abbrev bits_of : ℕ → Eight ℕ
bits_of k =
    record { s0 = bit 7 k; s1 = bit 6 k; s2 = bit 5 k; s3 = bit 4 k; s4 = bit 3 k; s5 = bit 2 k; s6 = bit 1 k; s7 = bit 0 k }

-- The test looks at k alone.
unfoldable right : ℕ → ℕ → Bool
right k x = eqb (byte_of_eight (bitwise (bits_of k))) (s_box k)

tested : T (all right 0 (replicate 256 0))
unfolding right circuit circuit.top circuit.products circuit.inverse circuit.scaled circuit.bottom byte_of products x_times mul squares inverse affine_bit affine_bits s_box
tested = tt

on-byte : (k : ℕ) → k < 256 → byte_of_eight (bitwise (bits_of k)) ≡ s_box k
unfolding right
on-byte k h = eqb→eq _ _ (entry-rule right (replicate 256 0) tested k h)

module _ (x0 x1 x2 x3 x4 x5 x6 x7 : ℕ) (h0 : x0 < 2) (h1 : x1 < 2) (h2 : x2 < 2) (h3 : x3 < 2) (h4 : x4 < 2) (h5 : x5 < 2) (h6 : x6 < 2) (h7 : x7 < 2) where
  pub bit-7 : bit 7 (byte_of x0 x1 x2 x3 x4 x5 x6 x7) ≡ x0
  unfolding byte_of
  bit-7 = omega arith

  pub bit-6 : bit 6 (byte_of x0 x1 x2 x3 x4 x5 x6 x7) ≡ x1
  unfolding byte_of
  bit-6 = omega arith

  pub bit-5 : bit 5 (byte_of x0 x1 x2 x3 x4 x5 x6 x7) ≡ x2
  unfolding byte_of
  bit-5 = omega arith

  pub bit-4 : bit 4 (byte_of x0 x1 x2 x3 x4 x5 x6 x7) ≡ x3
  unfolding byte_of
  bit-4 = omega arith

  pub bit-3 : bit 3 (byte_of x0 x1 x2 x3 x4 x5 x6 x7) ≡ x4
  unfolding byte_of
  bit-3 = omega arith

  pub bit-2 : bit 2 (byte_of x0 x1 x2 x3 x4 x5 x6 x7) ≡ x5
  unfolding byte_of
  bit-2 = omega arith

  pub bit-1 : bit 1 (byte_of x0 x1 x2 x3 x4 x5 x6 x7) ≡ x6
  unfolding byte_of
  bit-1 = omega arith

  pub bit-0 : bit 0 (byte_of x0 x1 x2 x3 x4 x5 x6 x7) ≡ x7
  unfolding byte_of
  bit-0 = omega arith

  pub byte-lt : byte_of x0 x1 x2 x3 x4 x5 x6 x7 < 256
  unfolding byte_of
  byte-lt = omega arith

  on-bits : byte_of_eight (bitwise (record { s0 = x0; s1 = x1; s2 = x2; s3 = x3; s4 = x4; s5 = x5; s6 = x6; s7 = x7 }))
      ≡ s_box (byte_of x0 x1 x2 x3 x4 x5 x6 x7)
  on-bits = rw (bit-7, bit-6, bit-5, bit-4, bit-3, bit-2, bit-1, bit-0) at (on-byte (byte_of x0 x1 x2 x3 x4 x5 x6 x7) byte-lt)

-- A word beside its bit j.
record Pair (j : ℕ) : Type 0 where
  w : ℕ
  b : ℕ
  small : w < 2 ^ 64
  same : lane j w ≡ b

module _ (j : ℕ) (hj : j < 64) where
  xor_pair : Pair j → Pair j → Pair j
  xor_pair p q =
      record {
        w = bit_xor p.w q.w;
        b = differ p.b q.b;
        small = xor_lt 64 _ _ p.small q.small;
        same = rw (← p.same, ← q.same) (lane_xor j p.w q.w);
      }

  and_pair : Pair j → Pair j → Pair j
  and_pair p q =
      record {
        w = bit_and p.w q.w;
        b = min p.b q.b;
        small = and_lt 64 _ _ p.small q.small;
        same = rw (← p.same, ← q.same) (lane_and j p.w q.w);
      }

  flip_pair : Pair j → Pair j
  flip_pair p =
      record {
        w = flip_word p.w;
        b = flip_bit p.b;
        small = ones_sub-lt 64 p.w;
        same = rw (← p.same) (lane-flip 64 j p.w p.small hj);
      }

  pair : (x : ℕ) → x < 2 ^ 64 → Pair j
  pair x h = record { w = x; b = lane j x; small = h; same = refl }

  module _ (x0 x1 x2 x3 x4 x5 x6 x7 : ℕ) (h0 : x0 < 2 ^ 64) (h1 : x1 < 2 ^ 64) (h2 : x2 < 2 ^ 64) (h3 : x3 < 2 ^ 64) (h4 : x4 < 2 ^ 64) (h5 : x5 < 2 ^ 64) (h6 : x6 < 2 ^ 64) (h7 : x7 < 2 ^ 64) where
    pairs : Eight (Pair j)
    pairs =
        circuit (Pair j) xor_pair and_pair flip_pair (record {
          s0 = pair x0 h0;
          s1 = pair x1 h1;
          s2 = pair x2 h2;
          s3 = pair x3 h3;
          s4 = pair x4 h4;
          s5 = pair x5 h5;
          s6 = pair x6 h6;
          s7 = pair x7 h7;
        })

    abbrev given : Eight ℕ
    given = record { s0 = x0; s1 = x1; s2 = x2; s3 = x3; s4 = x4; s5 = x5; s6 = x6; s7 = x7 }

    abbrev bits : Eight ℕ
    bits =
        record {
          s0 = lane j x0;
          s1 = lane j x1;
          s2 = lane j x2;
          s3 = lane j x3;
          s4 = lane j x4;
          s5 = lane j x5;
          s6 = lane j x6;
          s7 = lane j x7;
        }

    abbrev out : Eight ℕ
    out = circuit ℕ bit_xor bit_and flip_word given

    lane-0 : lane j out.s0 ≡ (bitwise bits).s0
    unfolding circuit circuit.top circuit.products circuit.inverse circuit.scaled circuit.bottom pairs xor_pair and_pair flip_pair pair
    lane-0 = pairs.s0.same

    lane-1 : lane j out.s1 ≡ (bitwise bits).s1
    unfolding circuit circuit.top circuit.products circuit.inverse circuit.scaled circuit.bottom pairs xor_pair and_pair flip_pair pair
    lane-1 = pairs.s1.same

    lane-2 : lane j out.s2 ≡ (bitwise bits).s2
    unfolding circuit circuit.top circuit.products circuit.inverse circuit.scaled circuit.bottom pairs xor_pair and_pair flip_pair pair
    lane-2 = pairs.s2.same

    lane-3 : lane j out.s3 ≡ (bitwise bits).s3
    unfolding circuit circuit.top circuit.products circuit.inverse circuit.scaled circuit.bottom pairs xor_pair and_pair flip_pair pair
    lane-3 = pairs.s3.same

    lane-4 : lane j out.s4 ≡ (bitwise bits).s4
    unfolding circuit circuit.top circuit.products circuit.inverse circuit.scaled circuit.bottom pairs xor_pair and_pair flip_pair pair
    lane-4 = pairs.s4.same

    lane-5 : lane j out.s5 ≡ (bitwise bits).s5
    unfolding circuit circuit.top circuit.products circuit.inverse circuit.scaled circuit.bottom pairs xor_pair and_pair flip_pair pair
    lane-5 = pairs.s5.same

    lane-6 : lane j out.s6 ≡ (bitwise bits).s6
    unfolding circuit circuit.top circuit.products circuit.inverse circuit.scaled circuit.bottom pairs xor_pair and_pair flip_pair pair
    lane-6 = pairs.s6.same

    lane-7 : lane j out.s7 ≡ (bitwise bits).s7
    unfolding circuit circuit.top circuit.products circuit.inverse circuit.scaled circuit.bottom pairs xor_pair and_pair flip_pair pair
    lane-7 = pairs.s7.same

    on-lane : byte_of (lane j out.s0) (lane j out.s1) (lane j out.s2) (lane j out.s3)
        (lane j out.s4) (lane j out.s5) (lane j out.s6) (lane j out.s7)
        ≡ s_box (byte_of (lane j x0) (lane j x1) (lane j x2) (lane j x3) (lane j x4) (lane j x5) (lane j x6) (lane j x7))
    on-lane =
        rw (lane-0, lane-1, lane-2, lane-3, lane-4, lane-5, lane-6, lane-7)
        (on-bits _ _ _ _ _ _ _ _ (lane-bit j x0) (lane-bit j x1) (lane-bit j x2) (lane-bit j x3)
        (lane-bit j x4) (lane-bit j x5) (lane-bit j x6) (lane-bit j x7))

abbrev lane_eight : ℕ → Eight ℕ → ℕ
lane_eight j e =
    byte_of (lane j e.s0) (lane j e.s1) (lane j e.s2) (lane j e.s3)
    (lane j e.s4) (lane j e.s5) (lane j e.s6) (lane j e.s7)

-- The circuit on words is the S-box on each lane.
substituted : (q r : Planes) → Words q → eight_of r ≡ circuit ℕ bit_xor bit_and flip_word (eight_of q) → Substituted q r
unfolding lane_byte
substituted q r f e =
    record {
      each = λ j h.
          ap (lane_eight j) e
          ∙ on-lane j h q.p7 q.p6 q.p5 q.p4 q.p3 q.p2 q.p1 q.p0
          f.w7 f.w6 f.w5 f.w4 f.w3 f.w2 f.w1 f.w0;
    }

-- The five parts of the code, one after the other.
pub by_parts : (q p : Planes) (y : sums.Sums) (t : nibble.Nibble) (v : inverted.Inverted) (z : terms.Terms)
    → (sums_of y ≡ circuit.top ℕ bit_xor (eight_of q)) × Words q
    → nibble_of t ≡ circuit.products ℕ bit_xor bit_and (sums_of y)
    → inverted_of v ≡ circuit.inverse ℕ bit_xor bit_and (nibble_of t)
    → terms_of z ≡ circuit.scaled ℕ bit_and (inverted_of v) (sums_of y)
    → eight_of p ≡ circuit.bottom ℕ bit_xor flip_word (terms_of z) → Substituted q p
unfolding circuit
by_parts q p y t v z ey et ev ez ep = substituted q p ey.1 (ep ∙ rw (ez, ev, et, ey.0))

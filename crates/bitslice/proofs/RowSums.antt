-- SPDX-License-Identifier: MIT
-- Laws of rows of planes: sums and products with x, lane by lane.
-- Assumes nothing.
use mathlib.Core.Path.{◌≡◌, refl, sym, ◌∙◌, ap}
use mathlib.Core.Bool.{Bool}
use Prim.Native.Nat.{ℕ, zero, suc, ◌+◌, ◌*◌, ◌<◌}
use native.Mathlib.Omega.{arith}
use lib.Dec.{T, eqb, eqb→eq}
use lib.Bits.{bit_xor, differ, xor_block}
use lib.ListN.{replicate}
use Rattle.octets.proofs.Entries.{all, entry-rule}
use Rattle.aes_tables.specs.Field.{x_times, bit}
use Rattle.bitslice.specs.Lanes.{lane, byte_of, lane_byte, Sum, Doubled, Mixed}
use Rattle.bitslice.specs.declared.Planes.{Planes}
use Rattle.bitslice.proofs.Bits.{lane-bit, lane_xor}
use Rattle.bitslice.proofs.SBox.{bit-7, bit-6, bit-5, bit-4, bit-3, bit-2, bit-1, bit-0, byte-lt}

differ-xor : (x y : ℕ) → x < 2 → y < 2 → differ x y ≡ bit_xor x y
differ-xor zero y h k = refl
differ-xor (suc zero) zero h k = refl
differ-xor (suc zero) (suc zero) h k = refl
differ-xor (suc zero) (suc (suc y)) h k = absurd (omega arith)
differ-xor (suc (suc x)) y h k = absurd (omega arith)

one : (a b x y : ℕ) → x < 2 → y < 2 → bit_xor (a * 2 + x) (b * 2 + y) ≡ bit_xor a b * 2 + differ x y
one a b x y h k = xor_block 1 a b x y h k ∙ ap (λ (n : ℕ). bit_xor a b * 2 + n) (sym (differ-xor x y h k))

-- The byte of sums of bits is the sum of the bytes.
pub byte-xor : (a7 a6 a5 a4 a3 a2 a1 a0 b7 b6 b5 b4 b3 b2 b1 b0 : ℕ) (ab7 : a7 < 2) (ab6 : a6 < 2) (ab5 : a5 < 2) (ab4 : a4 < 2) (ab3 : a3 < 2) (ab2 : a2 < 2) (ab1 : a1 < 2) (ab0 : a0 < 2) (bb7 : b7 < 2) (bb6 : b6 < 2) (bb5 : b5 < 2) (bb4 : b4 < 2) (bb3 : b3 < 2) (bb2 : b2 < 2) (bb1 : b1 < 2) (bb0 : b0 < 2)
    → bit_xor (byte_of a7 a6 a5 a4 a3 a2 a1 a0) (byte_of b7 b6 b5 b4 b3 b2 b1 b0) ≡ byte_of (differ a7 b7) (differ a6 b6) (differ a5 b5) (differ a4 b4) (differ a3 b3) (differ a2 b2) (differ a1 b1) (differ a0 b0)
unfolding byte_of
byte-xor a7 a6 a5 a4 a3 a2 a1 a0 b7 b6 b5 b4 b3 b2 b1 b0 ab7 ab6 ab5 ab4 ab3 ab2 ab1 ab0 bb7 bb6 bb5 bb4 bb3 bb2 bb1 bb0 =
    one _ _ _ _ ab0 bb0 ∙ ap (λ (n : ℕ). n * 2 + differ a0 b0)
    (one _ _ _ _ ab1 bb1 ∙ ap (λ (n : ℕ). n * 2 + differ a1 b1)
    (one _ _ _ _ ab2 bb2 ∙ ap (λ (n : ℕ). n * 2 + differ a2 b2)
    (one _ _ _ _ ab3 bb3 ∙ ap (λ (n : ℕ). n * 2 + differ a3 b3)
    (one _ _ _ _ ab4 bb4 ∙ ap (λ (n : ℕ). n * 2 + differ a4 b4)
    (one _ _ _ _ ab5 bb5 ∙ ap (λ (n : ℕ). n * 2 + differ a5 b5)
    (one _ _ _ _ ab6 bb6 ∙ ap (λ (n : ℕ). n * 2 + differ a6 b6)
    (sym (differ-xor a7 b7 ab7 bb7))))))))

-- Eight planes at once.
pub lanes-xor : (j a7 a6 a5 a4 a3 a2 a1 a0 b7 b6 b5 b4 b3 b2 b1 b0 : ℕ)
    → byte_of (lane j (bit_xor a7 b7)) (lane j (bit_xor a6 b6)) (lane j (bit_xor a5 b5)) (lane j (bit_xor a4 b4)) (lane j (bit_xor a3 b3)) (lane j (bit_xor a2 b2)) (lane j (bit_xor a1 b1)) (lane j (bit_xor a0 b0))
    ≡ bit_xor (byte_of (lane j a7) (lane j a6) (lane j a5) (lane j a4) (lane j a3) (lane j a2) (lane j a1) (lane j a0)) (byte_of (lane j b7) (lane j b6) (lane j b5) (lane j b4) (lane j b3) (lane j b2) (lane j b1) (lane j b0))
lanes-xor j a7 a6 a5 a4 a3 a2 a1 a0 b7 b6 b5 b4 b3 b2 b1 b0 =
    simp lane_xor
    (sym (byte-xor (lane j a7) (lane j a6) (lane j a5) (lane j a4) (lane j a3) (lane j a2) (lane j a1) (lane j a0) (lane j b7) (lane j b6) (lane j b5) (lane j b4) (lane j b3) (lane j b2) (lane j b1) (lane j b0)
    (lane-bit j a7) (lane-bit j a6) (lane-bit j a5) (lane-bit j a4) (lane-bit j a3) (lane-bit j a2) (lane-bit j a1) (lane-bit j a0)
    (lane-bit j b7) (lane-bit j b6) (lane-bit j b5) (lane-bit j b4) (lane-bit j b3) (lane-bit j b2) (lane-bit j b1) (lane-bit j b0)))

-- The product with x, bit by bit: tested at each byte. The test looks at k alone.
unfoldable twice : ℕ → ℕ → Bool
twice k x =
    eqb (byte_of (bit 6 k) (bit 5 k) (bit 4 k) (differ (bit 3 k) (bit 7 k)) (differ (bit 2 k) (bit 7 k)) (bit 1 k) (differ (bit 0 k) (bit 7 k)) (bit 7 k))
    (x_times k)

twice-tested : T (all twice 0 (replicate 256 0))
unfolding twice byte_of x_times
twice-tested = tt

pub byte-double : (a7 a6 a5 a4 a3 a2 a1 a0 : ℕ) (ab7 : a7 < 2) (ab6 : a6 < 2) (ab5 : a5 < 2) (ab4 : a4 < 2) (ab3 : a3 < 2) (ab2 : a2 < 2) (ab1 : a1 < 2) (ab0 : a0 < 2)
    → byte_of a6 a5 a4 (differ a3 a7) (differ a2 a7) a1 (differ a0 a7) a7 ≡ x_times (byte_of a7 a6 a5 a4 a3 a2 a1 a0)
unfolding twice
byte-double a7 a6 a5 a4 a3 a2 a1 a0 ab7 ab6 ab5 ab4 ab3 ab2 ab1 ab0 =
    let k : ℕ = byte_of a7 a6 a5 a4 a3 a2 a1 a0 in
    let t : byte_of (bit 6 k) (bit 5 k) (bit 4 k) (differ (bit 3 k) (bit 7 k)) (differ (bit 2 k) (bit 7 k)) (bit 1 k) (differ (bit 0 k) (bit 7 k)) (bit 7 k) ≡ x_times k =
    eqb→eq _ _ (entry-rule twice (replicate 256 0) twice-tested k (byte-lt a7 a6 a5 a4 a3 a2 a1 a0 ab7 ab6 ab5 ab4 ab3 ab2 ab1 ab0)) in
    rw (bit-7 a7 a6 a5 a4 a3 a2 a1 a0 ab7 ab6 ab5 ab4 ab3 ab2 ab1 ab0, bit-6 a7 a6 a5 a4 a3 a2 a1 a0 ab7 ab6 ab5 ab4 ab3 ab2 ab1 ab0, bit-5 a7 a6 a5 a4 a3 a2 a1 a0 ab7 ab6 ab5 ab4 ab3 ab2 ab1 ab0, bit-4 a7 a6 a5 a4 a3 a2 a1 a0 ab7 ab6 ab5 ab4 ab3 ab2 ab1 ab0, bit-3 a7 a6 a5 a4 a3 a2 a1 a0 ab7 ab6 ab5 ab4 ab3 ab2 ab1 ab0, bit-2 a7 a6 a5 a4 a3 a2 a1 a0 ab7 ab6 ab5 ab4 ab3 ab2 ab1 ab0, bit-1 a7 a6 a5 a4 a3 a2 a1 a0 ab7 ab6 ab5 ab4 ab3 ab2 ab1 ab0, bit-0 a7 a6 a5 a4 a3 a2 a1 a0 ab7 ab6 ab5 ab4 ab3 ab2 ab1 ab0) at t

pub lanes_double : (j a7 a6 a5 a4 a3 a2 a1 a0 : ℕ)
    → byte_of (lane j a6) (lane j a5) (lane j a4) (lane j (bit_xor a3 a7)) (lane j (bit_xor a2 a7)) (lane j a1) (lane j (bit_xor a0 a7)) (lane j a7)
    ≡ x_times (byte_of (lane j a7) (lane j a6) (lane j a5) (lane j a4) (lane j a3) (lane j a2) (lane j a1) (lane j a0))
lanes_double j a7 a6 a5 a4 a3 a2 a1 a0 =
    simp lane_xor (byte-double (lane j a7) (lane j a6) (lane j a5) (lane j a4) (lane j a3) (lane j a2) (lane j a1) (lane j a0)
    (lane-bit j a7) (lane-bit j a6) (lane-bit j a5) (lane-bit j a4) (lane-bit j a3) (lane-bit j a2) (lane-bit j a1) (lane-bit j a0))

pub lane-byte-lt : (j : ℕ) (q : Planes) → lane_byte j q < 256
unfolding lane_byte
lane-byte-lt j q = byte-lt _ _ _ _ _ _ _ _ (lane-bit j q.p7) (lane-bit j q.p6) (lane-bit j q.p5) (lane-bit j q.p4) (lane-bit j q.p3) (lane-bit j q.p2) (lane-bit j q.p1) (lane-bit j q.p0)

-- The four steps of `mix`.
pub mixed : (s b t k u v w r : Planes) → Doubled s u → Sum u b v → Sum t k w → Sum v w r → Mixed s b t k r
mixed s b t k u v w r e f g h = record { each = λ j l. rw (h.each j l, g.each j l, f.each j l, e.each j l) }

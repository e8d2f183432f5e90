-- SPDX-License-Identifier: MIT
-- Laws of a round's steps on rows of planes.
-- Assumes nothing.
use mathlib.Core.Path.{◌≡◌, refl, sym, ◌∙◌, ap, ap₂}
use mathlib.Core.List.{List}
use Prim.Native.Nat.{ℕ, zero, suc, ◌+◌, ◌*◌, ◌/◌, ◌%◌, ◌<◌}
use native.Mathlib.Omega.{arith}
use lib.Bits.{bit_xor, xor_block, xor_mod, xor_shr, xor_comm}
use Rattle.octets.proofs.Bits.{xor_assoc}
use Rattle.aes_tables.specs.Field.{x_times, mul}
use Rattle.aes.proofs.Words.{mul-two, mul-three}
use Rattle.bitslice.specs.declared.Planes.{Planes}
use Rattle.bitslice.specs.Lanes.{lane_byte, Sum, Mixed}
use Rattle.bitslice.proofs.RowSums.{lane-byte-lt}
use Rattle.aes_rows.specs.declared.State.{State}
use Rattle.aes_rows.specs.Rows.{row_at, RowSet, Each, Adding}
use Rattle.aes_rows.proofs.Sets.{each_step}
use Rattle.aes_rows.specs.Rounds.{Shifted, RowMixed, RowAdded, byte_at, shifted_at, mix_of, AllMixed, AllShifted}

-- ---- the product with x is linear

scaled : (x y : ℕ) → x < 2 → y < 2 → bit_xor x y * 0x1b ≡ bit_xor (x * 0x1b) (y * 0x1b)
scaled zero y h k = refl
scaled (suc zero) zero h k = refl
scaled (suc zero) (suc zero) h k = refl
scaled (suc zero) (suc (suc y)) h k = absurd (omega arith)
scaled (suc (suc x)) y h k = absurd (omega arith)

twice-xor : (a b : ℕ) → bit_xor a b * 2 ≡ bit_xor (a * 2) (b * 2)
twice-xor a b =
    let p : a * 2 + 0 ≡ a * 2 = omega arith in
    let q : b * 2 + 0 ≡ b * 2 = omega arith in
    let r : bit_xor a b * 2 + 0 ≡ bit_xor a b * 2 = omega arith in
    sym r ∙ sym (xor_block 1 a b 0 0 (omega arith) (omega arith)) ∙ ap₂ bit_xor p q

four : (a b c d : ℕ) → bit_xor (bit_xor a b) (bit_xor c d) ≡ bit_xor (bit_xor a c) (bit_xor b d)
four a b c d =
    xor_assoc a b (bit_xor c d)
    ∙ ap (bit_xor a) (sym (xor_assoc b c d) ∙ ap (λ (x : ℕ). bit_xor x d) (xor_comm b c) ∙ xor_assoc c b d)
    ∙ sym (xor_assoc a c (bit_xor b d))

x_times-xor : (a b : ℕ) → a < 256 → b < 256 → x_times (bit_xor a b) ≡ bit_xor (x_times a) (x_times b)
unfolding x_times
x_times-xor a b h k =
    ap₂ bit_xor (ap (λ (x : ℕ). x % 256) (twice-xor a b) ∙ xor_mod (a * 2) (b * 2) 8)
    (ap (λ (x : ℕ). x * 0x1b) (xor_shr a b 7) ∙ scaled (a / 128) (b / 128) (omega arith) (omega arith))
    ∙ four (a * 2 % 256) (b * 2 % 256) (a / 128 * 0x1b) (b / 128 * 0x1b)

-- A byte of MixColumns as the code sums it up.
mix-byte : (a b c d k : ℕ) → a < 256 → b < 256
    → bit_xor (bit_xor (x_times (bit_xor a b)) b) (bit_xor (bit_xor c d) k) ≡ mix_of a b c d k
mix-byte a b c d k h g =
    ap (λ (x : ℕ). bit_xor (bit_xor x b) (bit_xor (bit_xor c d) k)) (x_times-xor a b h g)
    ∙ ap (λ (x : ℕ). bit_xor x (bit_xor (bit_xor c d) k))
    (xor_assoc (x_times a) (x_times b) b ∙ ap₂ bit_xor (sym (mul-two a)) (xor_comm (x_times b) b ∙ sym (mul-three b)))
    ∙ sym (xor_assoc (bit_xor (mul 2 a) (mul 3 b)) (bit_xor c d) k)
    ∙ ap (λ (x : ℕ). bit_xor x k) (sym (xor_assoc (bit_xor (mul 2 a) (mul 3 b)) c d))

-- ---- row by row

pub row-mixed : (q k : List ℕ) (r : ℕ) (s b v e p : Planes) (t : List ℕ) → e ≡ row_at k r → Mixed s b v e p → RowSet q r p t → RowMixed q k r s b v t
row-mixed q k r s b v e p t f m g = record { sized = g.sized; same = rw (g.same, ← f) m; others = g.others }

pub row-added : (q k : List ℕ) (r : ℕ) (a e p : Planes) (t : List ℕ) → e ≡ row_at k r → Sum a e p → RowSet q r p t → RowAdded q k r a t
row-added q k r a e p t f m g = record { sized = g.sized; same = rw (g.same, ← f) m; others = g.others }

pub added-step : (k q t u : List ℕ) (n : ℕ) (a : Planes) → n < 4 → Each (Adding k) n q t → a ≡ row_at t n → RowAdded t k n a u
    → Each (Adding k) (n + 1) q u
added-step k q t u n a h e f g =
    each_step (Adding k) n q t u (row_at u n) h e (rw (← f) g.same) (record { sized = g.sized; same = refl; others = g.others })

-- The rows that ShiftRows gives, lane by lane.
module _ (q : List ℕ) (s : State) (h : Shifted q s) (j : ℕ) (l : j < 64) where
  at-0 : lane_byte j s.r0 ≡ byte_at q 0 j
  at-0 = ap (lane_byte j) h.r0

  at_1 : lane_byte j s.r1 ≡ shifted_at q 1 j
  at_1 = h.r1.each j l

  at-2 : lane_byte j s.r2 ≡ shifted_at q 2 j
  at-2 = h.r2.each j l

  at-3 : lane_byte j s.r3 ≡ shifted_at q 3 j
  at-3 = h.r3.each j l

-- A row of the sums of two and two others.
mixed-at : (a b c d s v k p : Planes) (w x y z : ℕ) → Sum a b s → Sum c d v → Mixed s b v k p → (j : ℕ) → j < 64
    → lane_byte j a ≡ w → lane_byte j b ≡ x → lane_byte j c ≡ y → lane_byte j d ≡ z → lane_byte j p ≡ mix_of w x y z (lane_byte j k)
mixed-at a b c d s v k p w x y z e f m j l ea eb ec ed =
    m.each j l
    ∙ rw (e.each j l, f.each j l) (mix-byte (lane_byte j a) (lane_byte j b) (lane_byte j c) (lane_byte j d) (lane_byte j k) (lane-byte-lt j a) (lane-byte-lt j b) ∙ rw (ea, eb, ec, ed))

module _ (q k t u v w : List ℕ) (s : State) (h : Shifted q s) (s01 s12 s23 s30 : Planes)
    (a : Sum s.r0 s.r1 s01) (b : Sum s.r1 s.r2 s12) (c : Sum s.r2 s.r3 s23) (d : Sum s.r3 s.r0 s30)
    (m0 : RowMixed q k 0 s01 s.r1 s23 t) (m1 : RowMixed t k 1 s12 s.r2 s30 u)
    (m2 : RowMixed u k 2 s23 s.r3 s01 v) (m3 : RowMixed v k 3 s30 s.r0 s12 w) where
  pub all-mixed : AllMixed q k w
  all-mixed =
      record {
        sized = m3.sized;
        row0 = λ j l.
            ap (lane_byte j) (m3.others 0 (omega arith) (omega arith) ∙ m2.others 0 (omega arith) (omega arith) ∙ m1.others 0 (omega arith) (omega arith))
            ∙ mixed-at _ _ _ _ _ _ _ _ _ _ _ _ a c m0.same j l (at-0 q s h j l) (at_1 q s h j l) (at-2 q s h j l) (at-3 q s h j l);
        row1 = λ j l.
            ap (lane_byte j) (m3.others 1 (omega arith) (omega arith) ∙ m2.others 1 (omega arith) (omega arith))
            ∙ mixed-at _ _ _ _ _ _ _ _ _ _ _ _ b d m1.same j l (at_1 q s h j l) (at-2 q s h j l) (at-3 q s h j l) (at-0 q s h j l);
        row2 = λ j l.
            ap (lane_byte j) (m3.others 2 (omega arith) (omega arith))
            ∙ mixed-at _ _ _ _ _ _ _ _ _ _ _ _ c a m2.same j l (at-2 q s h j l) (at-3 q s h j l) (at-0 q s h j l) (at_1 q s h j l);
        row3 = λ j l.
            mixed-at _ _ _ _ _ _ _ _ _ _ _ _ d b m3.same j l (at-3 q s h j l) (at-0 q s h j l) (at_1 q s h j l) (at-2 q s h j l);
      }

module _ (q k t u v w : List ℕ) (s : State) (h : Shifted q s) (m0 : RowAdded q k 0 s.r0 t) (m1 : RowAdded t k 1 s.r1 u)
    (m2 : RowAdded u k 2 s.r2 v) (m3 : RowAdded v k 3 s.r3 w) where
  pub all-shifted : AllShifted q k w
  all-shifted =
      record {
        sized = m3.sized;
        row0 = λ j l.
            ap (lane_byte j) (m3.others 0 (omega arith) (omega arith) ∙ m2.others 0 (omega arith) (omega arith) ∙ m1.others 0 (omega arith) (omega arith))
            ∙ m0.same.each j l ∙ ap (λ (x : ℕ). bit_xor x (byte_at k 0 j)) (at-0 q s h j l);
        row1 = λ j l.
            ap (lane_byte j) (m3.others 1 (omega arith) (omega arith) ∙ m2.others 1 (omega arith) (omega arith))
            ∙ m1.same.each j l ∙ ap (λ (x : ℕ). bit_xor x (byte_at k 1 j)) (at_1 q s h j l);
        row2 = λ j l.
            ap (lane_byte j) (m3.others 2 (omega arith) (omega arith))
            ∙ m2.same.each j l ∙ ap (λ (x : ℕ). bit_xor x (byte_at k 2 j)) (at-2 q s h j l);
        row3 = λ j l. m3.same.each j l ∙ ap (λ (x : ℕ). bit_xor x (byte_at k 3 j)) (at-3 q s h j l);
      }

-- SPDX-License-Identifier: MIT
-- What a round does to planes is the round of FIPS 197 on each of the sixteen blocks.
-- Assumes nothing.
use mathlib.Core.Path.{◌≡◌, sym, ◌∙◌, ap}
use mathlib.Core.List.{List}
use Prim.Native.Nat.{ℕ, ◌+◌, ◌*◌, ◌-◌, ◌%◌, ◌<◌}
use native.Mathlib.Omega.{arith}
use lib.Bits.{bit_xor, xor_comm, xor_lt}
use lib.ListN.{get_or}
use Rattle.octets.proofs.Bits.{xor_assoc}
use Rattle.aes_tables.specs.Field.{s_box, mul}
use Rattle.aes.specs.Aes.{word, byte, add_round_key, mix_column, mix_columns, shift_rows, sub_bytes}
use Rattle.aes.proofs.Words.{byte-0, byte-1, byte-2, byte-3, word-xor, s_box-lt, twice-lt, thrice-lt}
use Rattle.aes.proofs.Columns.{shifted, shift-columns, mixed_column, mix-columns}
use Rattle.bitslice.proofs.RowSums.{lane-byte-lt}
use Rattle.aes_rows.specs.Rows.{Each, Substituting, Adding}
use Rattle.aes_rows.specs.Rounds.{byte_at, shifted_at, mix_of, AllMixed, AllShifted}
use Rattle.aes_rows.specs.Blocks.{place, column, state, KeyPlanes}

module _ (a b c d : ℕ) where
  rotate : bit_xor (bit_xor (bit_xor b c) d) a ≡ bit_xor (bit_xor (bit_xor a b) c) d
  rotate =
      xor_comm (bit_xor (bit_xor b c) d) a ∙ sym (xor_assoc a (bit_xor b c) d)
      ∙ ap (λ (x : ℕ). bit_xor x d) (sym (xor_assoc a b c))

-- The four rows of a mixed column, the key added.
mixed-word : (a b c d e f g h : ℕ) → a < 256 → b < 256 → c < 256 → d < 256 → f < 256 → g < 256 → h < 256
    → word (mix_of a b c d e) (mix_of b c d a f) (mix_of c d a b g) (mix_of d a b c h) ≡ bit_xor (mix_column a b c d) (word e f g h)
unfolding mix_column
mixed-word a b c d e f g h ha hb hc hd hf hg hh =
    ap (λ (x : ℕ). word (mix_of a b c d e) x (mix_of c d a b g) (mix_of d a b c h)) (ap (λ (x : ℕ). bit_xor x f) r1)
    ∙ ap (λ (x : ℕ). word (mix_of a b c d e) (bit_xor s1 f) x (mix_of d a b c h)) (ap (λ (x : ℕ). bit_xor x g) r2)
    ∙ ap (λ (x : ℕ). word (mix_of a b c d e) (bit_xor s1 f) (bit_xor s2 g) x) (ap (λ (x : ℕ). bit_xor x h) r3)
    ∙ sym (word-xor s0 s1 s2 s3
    (xor_lt 8 _ _ (xor_lt 8 _ _ (xor_lt 8 _ _ (twice-lt a ha) (thrice-lt b hb)) hc) hd)
    (xor_lt 8 _ _ (xor_lt 8 _ _ (xor_lt 8 _ _ ha (twice-lt b hb)) (thrice-lt c hc)) hd)
    (xor_lt 8 _ _ (xor_lt 8 _ _ (xor_lt 8 _ _ ha hb) (twice-lt c hc)) (thrice-lt d hd))
    (xor_lt 8 _ _ (xor_lt 8 _ _ (xor_lt 8 _ _ (thrice-lt a ha) hb) hc) (twice-lt d hd)) e f g h hf hg hh)
  where
    s0 : ℕ
    s0 = bit_xor (bit_xor (bit_xor (mul 2 a) (mul 3 b)) c) d

    s1 : ℕ
    s1 = bit_xor (bit_xor (bit_xor a (mul 2 b)) (mul 3 c)) d

    s2 : ℕ
    s2 = bit_xor (bit_xor (bit_xor a b) (mul 2 c)) (mul 3 d)

    s3 : ℕ
    s3 = bit_xor (bit_xor (bit_xor (mul 3 a) b) c) (mul 2 d)

    r1 : bit_xor (bit_xor (bit_xor (mul 2 b) (mul 3 c)) d) a ≡ s1
    r1 = rotate a (mul 2 b) (mul 3 c) d

    r2 : bit_xor (bit_xor (bit_xor (mul 2 c) (mul 3 d)) a) b ≡ s2
    r2 = rotate b (mul 2 c) (mul 3 d) a ∙ rotate a b (mul 2 c) (mul 3 d)

    r3 : bit_xor (bit_xor (bit_xor (mul 2 d) (mul 3 a)) b) c ≡ s3
    r3 = rotate c (mul 2 d) (mul 3 a) b ∙ rotate b c (mul 2 d) (mul 3 a) ∙ rotate (mul 3 a) b c (mul 2 d)

-- The bytes of a column.
module _ (q : List ℕ) (m c : ℕ) where
  column-0 : byte 0 (column q m c) ≡ byte_at q 0 (place c m)
  unfolding column
  column-0 = byte-0 _ _ _ _ (lane-byte-lt _ _) (lane-byte-lt _ _) (lane-byte-lt _ _) (lane-byte-lt _ _)

  column-1 : byte 1 (column q m c) ≡ byte_at q 1 (place c m)
  unfolding column
  column-1 = byte-1 _ _ _ _ (lane-byte-lt _ _) (lane-byte-lt _ _) (lane-byte-lt _ _) (lane-byte-lt _ _)

  column-2 : byte 2 (column q m c) ≡ byte_at q 2 (place c m)
  unfolding column
  column-2 = byte-2 _ _ _ _ (lane-byte-lt _ _) (lane-byte-lt _ _) (lane-byte-lt _ _) (lane-byte-lt _ _)

  column-3 : byte 3 (column q m c) ≡ byte_at q 3 (place c m)
  unfolding column
  column-3 = byte-3 _ _ _ _ (lane-byte-lt _ _) (lane-byte-lt _ _) (lane-byte-lt _ _) (lane-byte-lt _ _)

-- Column c of a block after SubBytes and ShiftRows, which take it from the columns c, n, o and p.
module _ (q t : List ℕ) (s : Each Substituting 4 q t) (m : ℕ) (hm : m < 16) (c n o p : ℕ) (hc : c < 4) (hn : n < 4) (ho : o < 4) (hp : p < 4)
    (en : (64 - 16 * 1 + place c m) % 64 ≡ place n m) (eo : (64 - 16 * 2 + place c m) % 64 ≡ place o m)
    (ep : (64 - 16 * 3 + place c m) % 64 ≡ place p m) where
  b0 : byte_at t 0 (place c m) ≡ s_box (byte 0 (column q m c))
  b0 = (s.done 0 (omega arith)).each (place c m) (omega arith) ∙ ap s_box (sym (column-0 q m c))

  b1 : shifted_at t 1 (place c m) ≡ s_box (byte 1 (column q m n))
  b1 = ap (byte_at t 1) en ∙ (s.done 1 (omega arith)).each (place n m) (omega arith) ∙ ap s_box (sym (column-1 q m n))

  b2 : shifted_at t 2 (place c m) ≡ s_box (byte 2 (column q m o))
  b2 = ap (byte_at t 2) eo ∙ (s.done 2 (omega arith)).each (place o m) (omega arith) ∙ ap s_box (sym (column-2 q m o))

  b3 : shifted_at t 3 (place c m) ≡ s_box (byte 3 (column q m p))
  b3 = ap (byte_at t 3) ep ∙ (s.done 3 (omega arith)).each (place p m) (omega arith) ∙ ap s_box (sym (column-3 q m p))

  mixed-column : (k u : List ℕ) → AllMixed t k u
      → column u m c ≡ bit_xor (mixed_column (column q m c) (column q m n) (column q m o) (column q m p)) (column k m c)
  unfolding column
  mixed-column k u x =
      rw (x.row0 (place c m) (omega arith), x.row1 (place c m) (omega arith), x.row2 (place c m) (omega arith), x.row3 (place c m) (omega arith))
      (rw (b0, b1, b2, b3)
      (mixed-word _ _ _ _ _ _ _ _ (s_box-lt _) (s_box-lt _) (s_box-lt _) (s_box-lt _) (lane-byte-lt _ _) (lane-byte-lt _ _) (lane-byte-lt _ _)))

  shifted-column : (k u : List ℕ) → AllShifted t k u
      → column u m c ≡ bit_xor (shifted (column q m c) (column q m n) (column q m o) (column q m p)) (column k m c)
  unfolding column shifted
  shifted-column k u x =
      rw (x.row0 (place c m) (omega arith), x.row1 (place c m) (omega arith), x.row2 (place c m) (omega arith), x.row3 (place c m) (omega arith))
      (rw (b0, b1, b2, b3)
      (sym (word-xor _ _ _ _ (s_box-lt _) (s_box-lt _) (s_box-lt _) (s_box-lt _) _ _ _ _ (lane-byte-lt _ _) (lane-byte-lt _ _) (lane-byte-lt _ _))))

module _ (w : List ℕ) (r : ℕ) (q t k u : List ℕ) (s : Each Substituting 4 q t) (p : KeyPlanes w r k) (m : ℕ) (hm : m < 16) where
  -- §5.1: a round.
  pub round : AllMixed t k u → state u m ≡ add_round_key w r (mix_columns (shift_rows (sub_bytes (state q m))))
  unfolding state add_round_key
  round x =
      rw (mix-columns (column q m 0) (column q m 1) (column q m 2) (column q m 3))
      (rw (
        mixed-column q t s m hm 0 1 2 3 (omega arith) (omega arith) (omega arith) (omega arith) (omega arith) (omega arith) (omega arith) k u x,
        mixed-column q t s m hm 1 2 3 0 (omega arith) (omega arith) (omega arith) (omega arith) (omega arith) (omega arith) (omega arith) k u x,
        mixed-column q t s m hm 2 3 0 1 (omega arith) (omega arith) (omega arith) (omega arith) (omega arith) (omega arith) (omega arith) k u x,
        mixed-column q t s m hm 3 0 1 2 (omega arith) (omega arith) (omega arith) (omega arith) (omega arith) (omega arith) (omega arith) k u x,
        p.each m 0 hm (omega arith),
        p.each m 1 hm (omega arith),
        p.each m 2 hm (omega arith),
        p.each m 3 hm (omega arith),
      ))

  -- §5.1: the last round.
  pub last-round : AllShifted t k u → state u m ≡ add_round_key w r (shift_rows (sub_bytes (state q m)))
  unfolding state add_round_key
  last-round x =
      rw (shift-columns (column q m 0) (column q m 1) (column q m 2) (column q m 3))
      (rw (
        shifted-column q t s m hm 0 1 2 3 (omega arith) (omega arith) (omega arith) (omega arith) (omega arith) (omega arith) (omega arith) k u x,
        shifted-column q t s m hm 1 2 3 0 (omega arith) (omega arith) (omega arith) (omega arith) (omega arith) (omega arith) (omega arith) k u x,
        shifted-column q t s m hm 2 3 0 1 (omega arith) (omega arith) (omega arith) (omega arith) (omega arith) (omega arith) (omega arith) k u x,
        shifted-column q t s m hm 3 0 1 2 (omega arith) (omega arith) (omega arith) (omega arith) (omega arith) (omega arith) (omega arith) k u x,
        p.each m 0 hm (omega arith),
        p.each m 1 hm (omega arith),
        p.each m 2 hm (omega arith),
        p.each m 3 hm (omega arith),
      ))

-- AddRoundKey alone.
module _ (w : List ℕ) (r : ℕ) (q k u : List ℕ) (s : Each (Adding k) 4 q u) (p : KeyPlanes w r k) (m : ℕ) (hm : m < 16) where
  added-column : (c : ℕ) → c < 4 → column u m c ≡ bit_xor (column q m c) (get_or w (4 * r + c) 0)
  unfolding column
  added-column c hc =
      rw (
        (s.done 0 (omega arith)).each (place c m) (omega arith),
        (s.done 1 (omega arith)).each (place c m) (omega arith),
        (s.done 2 (omega arith)).each (place c m) (omega arith),
        (s.done 3 (omega arith)).each (place c m) (omega arith),
      )
      (sym (word-xor _ _ _ _ (lane-byte-lt _ _) (lane-byte-lt _ _) (lane-byte-lt _ _) (lane-byte-lt _ _) _ _ _ _ (lane-byte-lt _ _) (lane-byte-lt _ _) (lane-byte-lt _ _))
      ∙ ap (bit_xor (column q m c)) (p.each m c hm hc))

  pub key-added : state u m ≡ add_round_key w r (state q m)
  unfolding state add_round_key
  key-added = rw (added-column 0 (omega arith), added-column 1 (omega arith), added-column 2 (omega arith), added-column 3 (omega arith))

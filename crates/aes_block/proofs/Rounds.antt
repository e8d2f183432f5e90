-- SPDX-License-Identifier: MIT
-- Laws of the table of the rounds: how it is filled, and what a round makes of a state by it.
-- Assumes nothing.
use mathlib.Core.Path.{◌≡◌, ap, sym, ◌∙◌}
use mathlib.Core.List.{List, [], ◌∷◌}
use Prim.Native.Nat.{ℕ, zero, suc, ◌+◌, ◌*◌, ◌/◌, ◌%◌, ◌^◌, ◌<◌}
use native.Mathlib.Nat.{add-zero, div-one}
use native.Mathlib.Omega.{arith}
use lib.Bits.{bit_xor, xor_lt, xor_comm}
use lib.ListN.{get_or}
use Rattle.octets.proofs.Bits.{xor_assoc}
use Rattle.aes_tables.specs.Field.{mul, s_box}
use Rattle.aes_round_table.specs.Inner.RoundTable.{mixed_first, twice, RoundTable}
use Rattle.aes.specs.Aes.{word, byte, sub_bytes, shift_rows, mix_column, mix_columns, add_round_key}
use Rattle.aes.proofs.Words.{twice-lt, thrice-lt, s_box-lt, word_lt, byte-2, right-1, right-2, right-3, word-xor}
use Rattle.aes.proofs.Columns.{mixed_column, mix-columns}
use Rattle.aes_block.specs.Inner.Context.{share0, share1, share2, share3, share_of, Table}

-- ---- the table

-- What a context starts from has no words yet, and the table.
pub start-table : (l : List ℕ) → RoundTable l → Table 256 l
start-table l t =
    record {
      sized = t.sized;
      words = λ i h. let z : get_or l i 0 ≡ 0 = t.room i h in omega arith;
      entry = t.entry;
    }

-- ---- look-ups

low_part : (q y : ℕ) → y < 2 ^ 32 → (q * 2 ^ 32 + y) % 2 ^ 32 ≡ y
low_part q y h = omega arith

module _ (w : ℕ) (h : w < 2 ^ 32) where
  low-0 : twice w % 2 ^ 32 ≡ w
  unfolding twice
  low-0 = low_part w w h

  low-1 : twice w / 0x100 % 2 ^ 32 ≡ w / 0x100 + w % 0x100 * 0x1000000
  unfolding twice
  low-1 =
      let e : (w * 2 ^ 32 + w) / 0x100 ≡ w / 0x100 * 2 ^ 32 + (w / 0x100 + w % 0x100 * 0x1000000) = omega arith in
      rw e (low_part (w / 0x100) (w / 0x100 + w % 0x100 * 0x1000000) (omega arith))

  low-2 : twice w / 0x10000 % 2 ^ 32 ≡ w / 0x10000 + w % 0x10000 * 0x10000
  unfolding twice
  low-2 =
      let e : (w * 2 ^ 32 + w) / 0x10000 ≡ w / 0x10000 * 2 ^ 32 + (w / 0x10000 + w % 0x10000 * 0x10000) = omega arith in
      rw e (low_part (w / 0x10000) (w / 0x10000 + w % 0x10000 * 0x10000) (omega arith))

  low-3 : twice w / 0x1000000 % 2 ^ 32 ≡ w / 0x1000000 + w % 0x1000000 * 0x100
  unfolding twice
  low-3 =
      let e : (w * 2 ^ 32 + w) / 0x1000000 ≡ w / 0x1000000 * 2 ^ 32 + (w / 0x1000000 + w % 0x1000000 * 0x100) = omega arith in
      rw e (low_part (w / 0x1000000) (w / 0x1000000 + w % 0x1000000 * 0x100) (omega arith))

  low_byte : twice w / 256 % 256 ≡ w / 256 % 256
  unfolding twice
  low_byte =
      let e : (w * 2 ^ 32 + w) / 256 ≡ w * 0x10000 * 256 + w / 256 = omega arith in
      rw e (omega arith)

module _ (s : ℕ) (h : s < 256) where
  share-lt : mixed_first s < 2 ^ 32
  unfolding mixed_first word
  share-lt = word_lt (mul 2 s) s s (mul 3 s) (twice-lt s h) h h (thrice-lt s h)

  look-0 : twice (mixed_first s) % 2 ^ 32 ≡ share0 s
  unfolding mixed_first share0 word
  look-0 = low-0 (mixed_first s) share-lt

  look-1 : twice (mixed_first s) / 0x100 % 2 ^ 32 ≡ share1 s
  unfolding mixed_first word share1
  look-1 = low-1 (mixed_first s) share-lt ∙ right-1 (mul 2 s) s s (mul 3 s) (twice-lt s h) h h (thrice-lt s h)

  look-2 : twice (mixed_first s) / 0x10000 % 2 ^ 32 ≡ share2 s
  unfolding mixed_first word share2
  look-2 = low-2 (mixed_first s) share-lt ∙ right-2 (mul 2 s) s s (mul 3 s) (twice-lt s h) h h (thrice-lt s h)

  look-3 : twice (mixed_first s) / 0x1000000 % 2 ^ 32 ≡ share3 s
  unfolding mixed_first word share3
  look-3 = low-3 (mixed_first s) share-lt ∙ right-3 (mul 2 s) s s (mul 3 s) (twice-lt s h) h h (thrice-lt s h)

  -- An entry turned to the place of byte i.
  pub look : (i : ℕ) → i < 4 → twice (mixed_first s) / 2 ^ (8 * i) % 2 ^ 32 ≡ share_of i s
  look zero l = rw div-one look-0
  look (suc zero) l = look-1
  look (suc (suc zero)) l = look-2
  look (suc (suc (suc zero))) l = look-3
  look (suc (suc (suc (suc i)))) l = absurd (omega arith)

  -- The second byte of an entry is the byte that it was made of.
  pub second-byte : twice (mixed_first s) / 256 % 256 ≡ s
  unfolding mixed_first word
  second-byte = low_byte (mixed_first s) share-lt ∙ byte-2 (mul 2 s) s s (mul 3 s) (twice-lt s h) h h (thrice-lt s h)

-- ---- a round

-- The shares of the bytes of a column add up to MixColumns of it.
module _ (p q r s : ℕ) (hp : p < 256) (hq : q < 256) (hr : r < 256) (hs : s < 256) where
  shares : bit_xor (bit_xor (bit_xor (share0 p) (share1 q)) (share2 r)) (share3 s) ≡ mix_column p q r s
  unfolding mix_column share0 share1 share2 share3
  shares =
      rw (word-xor (mul 2 p) p p (mul 3 p) (twice-lt p hp) hp hp (thrice-lt p hp) (mul 3 q) (mul 2 q) q q (twice-lt q hq) hq hq)
      (rw (word-xor _ _ _ _ (xor_lt 8 _ _ (twice-lt p hp) (thrice-lt q hq)) (xor_lt 8 _ _ hp (twice-lt q hq)) (xor_lt 8 _ _ hp hq) (xor_lt 8 _ _ (thrice-lt p hp) hq) r (mul 3 r) (mul 2 r) r (thrice-lt r hr) (twice-lt r hr) hr)
      (word-xor _ _ _ _
      (xor_lt 8 _ _ (xor_lt 8 _ _ (twice-lt p hp) (thrice-lt q hq)) hr)
      (xor_lt 8 _ _ (xor_lt 8 _ _ hp (twice-lt q hq)) (thrice-lt r hr))
      (xor_lt 8 _ _ (xor_lt 8 _ _ hp hq) (twice-lt r hr))
      (xor_lt 8 _ _ (xor_lt 8 _ _ (thrice-lt p hp) hq) hr) s s (mul 3 s) (mul 2 s) hs (thrice-lt s hs) (twice-lt s hs)))

-- A sum that starts from k, in the four orders in which a round comes by the shares of a column.
xor-swap : (k a b : ℕ) → bit_xor (bit_xor k a) b ≡ bit_xor (bit_xor k b) a
xor-swap k a b = xor_assoc k a b ∙ ap (bit_xor k) (xor_comm a b) ∙ sym (xor_assoc k b a)

module _ (k a b c d : ℕ) where
  pub from-0 : bit_xor (bit_xor (bit_xor (bit_xor k a) b) c) d ≡ bit_xor (bit_xor (bit_xor (bit_xor a b) c) d) k
  from-0 =
      let e : bit_xor (bit_xor (bit_xor (bit_xor k a) b) c) d ≡ bit_xor k (bit_xor (bit_xor (bit_xor a b) c) d) = simp xor_assoc in
      e ∙ xor_comm k (bit_xor (bit_xor (bit_xor a b) c) d)

  pub from-3 : bit_xor (bit_xor (bit_xor (bit_xor k d) a) b) c ≡ bit_xor (bit_xor (bit_xor (bit_xor a b) c) d) k
  from-3 =
      ap (λ (x : ℕ). bit_xor (bit_xor x b) c) (xor-swap k d a)
      ∙ ap (λ (x : ℕ). bit_xor x c) (xor-swap (bit_xor k a) d b)
      ∙ xor-swap (bit_xor (bit_xor k a) b) d c
      ∙ from-0

module _ (k a b c d : ℕ) where
  pub from-2 : bit_xor (bit_xor (bit_xor (bit_xor k c) d) a) b ≡ bit_xor (bit_xor (bit_xor (bit_xor a b) c) d) k
  from-2 =
      ap (λ (x : ℕ). bit_xor x b) (xor-swap (bit_xor k c) d a)
      ∙ xor-swap (bit_xor (bit_xor k c) a) d b
      ∙ ap (λ (x : ℕ). bit_xor x d) (ap (λ (x : ℕ). bit_xor x b) (xor-swap k c a) ∙ xor-swap (bit_xor k a) c b)
      ∙ from-0 k a b c d

  pub from-1 : bit_xor (bit_xor (bit_xor (bit_xor k b) c) d) a ≡ bit_xor (bit_xor (bit_xor (bit_xor a b) c) d) k
  from-1 =
      xor-swap (bit_xor (bit_xor k b) c) d a
      ∙ ap (λ (x : ℕ). bit_xor x d) (xor-swap (bit_xor k b) c a ∙ ap (λ (x : ℕ). bit_xor x c) (xor-swap k b a))
      ∙ from-0 k a b c d

-- A round, from the round key on, column by column.
pub round-columns : (w : List ℕ) (n a b c d : ℕ)
    → add_round_key w n (mix_columns (shift_rows (sub_bytes (a ∷ b ∷ c ∷ d ∷ []))))
    ≡ bit_xor (mixed_column a b c d) (get_or w (4 * n) 0) ∷ bit_xor (mixed_column b c d a) (get_or w (4 * n + 1) 0)
    ∷ bit_xor (mixed_column c d a b) (get_or w (4 * n + 2) 0) ∷ bit_xor (mixed_column d a b c) (get_or w (4 * n + 3) 0) ∷ []
unfolding add_round_key
round-columns w n a b c d = rw mix-columns (simp add-zero)

-- The shares of a column, in each order, from the key on.
module _ (k a b c d : ℕ) where
  pub column-0 : bit_xor (bit_xor (bit_xor (bit_xor k (share0 (s_box (byte 0 a)))) (share1 (s_box (byte 1 b)))) (share2 (s_box (byte 2 c)))) (share3 (s_box (byte 3 d)))
      ≡ bit_xor (mixed_column a b c d) k
  column-0 = from-0 k _ _ _ _ ∙ ap (λ (x : ℕ). bit_xor x k) (shares _ _ _ _ (s_box-lt _) (s_box-lt _) (s_box-lt _) (s_box-lt _))

  pub column-1 : bit_xor (bit_xor (bit_xor (bit_xor k (share3 (s_box (byte 3 d)))) (share0 (s_box (byte 0 a)))) (share1 (s_box (byte 1 b)))) (share2 (s_box (byte 2 c)))
      ≡ bit_xor (mixed_column a b c d) k
  column-1 = from-3 k _ _ _ _ ∙ ap (λ (x : ℕ). bit_xor x k) (shares _ _ _ _ (s_box-lt _) (s_box-lt _) (s_box-lt _) (s_box-lt _))

  pub column-2 : bit_xor (bit_xor (bit_xor (bit_xor k (share2 (s_box (byte 2 c)))) (share3 (s_box (byte 3 d)))) (share0 (s_box (byte 0 a)))) (share1 (s_box (byte 1 b)))
      ≡ bit_xor (mixed_column a b c d) k
  column-2 = from-2 k _ _ _ _ ∙ ap (λ (x : ℕ). bit_xor x k) (shares _ _ _ _ (s_box-lt _) (s_box-lt _) (s_box-lt _) (s_box-lt _))

  pub column-3 : bit_xor (bit_xor (bit_xor (bit_xor k (share1 (s_box (byte 1 b)))) (share2 (s_box (byte 2 c)))) (share3 (s_box (byte 3 d)))) (share0 (s_box (byte 0 a)))
      ≡ bit_xor (mixed_column a b c d) k
  column-3 = from-1 k _ _ _ _ ∙ ap (λ (x : ℕ). bit_xor x k) (shares _ _ _ _ (s_box-lt _) (s_box-lt _) (s_box-lt _) (s_box-lt _))

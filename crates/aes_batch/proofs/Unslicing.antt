-- SPDX-License-Identifier: MIT
-- Laws of planes that become bytes.
-- Assumes nothing.
use mathlib.Core.Path.{◌≡◌, refl, sym, ◌∙◌, ap, ap₂}
use mathlib.Core.List.{List, ◌++◌, append_assoc, append-nil}
use Prim.Native.Nat.{ℕ, zero, suc, ◌+◌, ◌*◌, ◌-◌, ◌/◌, ◌%◌, ◌^◌, ◌≤◌, ◌<◌}
use mathlib.Core.Logic.{◌⊎◌, inl, inr, ⊎_elim}
use native.Mathlib.Nat.{eq-or-lt_of_le, le_of_suc-le-suc, mod-lt}
use native.Mathlib.Numerals.{add-one}
use native.Mathlib.Omega.{arith}
use borrow.Rule.Slice.PartMut.{put_mid}
use lib.ListN.{length, get_or, take, drop, length-append, length-drop, drop_of_length-le}
use lib.Seq.{drop_at, take-append-le, drop-append-le, take_all}
use Rattle.octets.specs.Octets.{bytes, pasted}
use Rattle.octets.proofs.Laws.{bytes-length, bytes-add, bytes-mod, lent-bytes, pasted-append, pasted-front, pasted_length}
use Rattle.aes.specs.Aes.{block_size, word, block_of}
use Rattle.bitslice.specs.Lanes.{lane_byte}
use Rattle.bit_transpose.specs.Transposition as transposition
use Rattle.bit_transpose.specs.Transposition.{octet, words_of, Transposed}
use Rattle.aes_rows.specs.Rows.{state_planes, row_at, Each}
use Rattle.aes_rows.specs.Blocks.{place, column, state}
use Rattle.aes_batch.specs.Inner.Batch.{batch_blocks, batch_size, lane_of, Transposing, half, Gathered, word_bytes, block_at, Unsliced}

either : (x : ℕ) → x < 2 → (x ≡ 0) ⊎ (x ≡ 1)
either zero h = inl refl
either (suc zero) h = inr refl
either (suc (suc x)) h = absurd (omega arith)

-- ---- words as bytes

word-bytes-length : (n : ℕ) (q : List ℕ) → length (word_bytes n q) ≡ 8 * n
unfolding word_bytes
word-bytes-length zero q = refl
word-bytes-length (suc n) q = simp (length-append, word-bytes-length n q, bytes-length) (omega arith)

pub write-start : (q z : List ℕ) → z ≡ pasted z 0 (word_bytes 0 q)
unfolding word_bytes pasted
write-start q z = refl

pub written-length : (q z : List ℕ) (i : ℕ) → length z ≡ batch_size → i ≤ state_planes → length (pasted z 0 (word_bytes i q)) ≡ batch_size
written-length q z i l h =
    let w : length (word_bytes i q) ≡ 8 * i = word-bytes-length i q in
    pasted_length z 0 (word_bytes i q) (omega arith) ∙ l

pub write-next : (q z o p : List ℕ) (i : ℕ) → i < state_planes → length z ≡ batch_size → o ≡ pasted z 0 (word_bytes i q)
    → p ≡ bytes 8 (get_or q i 0) ++ drop 8 (take (length o - 8 * i) (drop (8 * i) o))
    → put_mid (8 * i) (length o - 8 * i) o p ≡ pasted z 0 (word_bytes (i + 1) q)
unfolding word_bytes
write-next q z o p i h l e f =
    let w : length (word_bytes i q) ≡ 8 * i = word-bytes-length i q in
    let b : length (bytes 8 (get_or q i 0)) ≡ 8 = bytes-length 8 (get_or q i 0) in
    let n : length o ≡ batch_size = ap length e ∙ written-length q z i l (omega arith) in
    let g : 0 + length (word_bytes i q) ≡ 8 * i = omega arith in
    lent-bytes o p (8 * i) 8 (get_or q i 0) (omega arith) f
    ∙ ap (λ (x : List ℕ). pasted x (8 * i) (bytes 8 (get_or q i 0))) e
    ∙ rw (← g, add-one i) (pasted-append z 0 (word_bytes i q) (bytes 8 (get_or q i 0)) (omega arith))

pub written : (q z o : List ℕ) → length z ≡ batch_size → o ≡ pasted z 0 (word_bytes state_planes q) → o ≡ word_bytes state_planes q
written q z o l e =
    let b = word_bytes state_planes q in
    let w : length b ≡ batch_size = word-bytes-length state_planes q in
    e ∙ pasted-front z b ∙ ap (λ (x : List ℕ). b ++ x) (drop_of_length-le z {i = length b} (omega arith)) ∙ append-nil _

-- Two words are a block.
word-block : (q : List ℕ) (n m : ℕ) → 2 * m + 2 ≤ n → block_at (word_bytes n q) m ≡ bytes 8 (get_or q (2 * m) 0) ++ bytes 8 (get_or q (suc (2 * m)) 0)
unfolding word_bytes
word-block q zero m h = absurd (omega arith)
word-block q (suc n) m h = ⊎_elim here (λ l. later l (word-block q n m (le_of_suc-le-suc l))) (eq-or-lt_of_le h)
  where
    here : 2 * m + 2 ≡ suc n → block_at (word_bytes n q ++ bytes 8 (get_or q n 0)) m ≡ bytes 8 (get_or q (2 * m) 0) ++ bytes 8 (get_or q (suc (2 * m)) 0)
    here e =
        let f : n ≡ suc (2 * m) = omega arith in
        let x : List ℕ = bytes 8 (get_or q (2 * m) 0) in
        let y : List ℕ = bytes 8 (get_or q (suc (2 * m)) 0) in
        let k : length (word_bytes (2 * m) q) ≡ block_size * m = word-bytes-length (2 * m) q ∙ omega arith in
        let z : length (x ++ y) ≡ block_size = simp (length-append, bytes-length) in
        rw (f, append_assoc (word_bytes (2 * m) q) x y, drop_at (word_bytes (2 * m) q) (x ++ y) (block_size * m) k) (take_all block_size (x ++ y) (omega arith))

    later : 2 * m + 2 < suc n → block_at (word_bytes n q) m ≡ bytes 8 (get_or q (2 * m) 0) ++ bytes 8 (get_or q (suc (2 * m)) 0)
        → block_at (word_bytes n q ++ bytes 8 (get_or q n 0)) m ≡ bytes 8 (get_or q (2 * m) 0) ++ bytes 8 (get_or q (suc (2 * m)) 0)
    later l e =
        let k : length (word_bytes n q) ≡ 8 * n = word-bytes-length n q in
        ap (take block_size) (drop-append-le (block_size * m) (word_bytes n q) (bytes 8 (get_or q n 0)) (omega arith))
        ∙ take-append-le block_size (drop (block_size * m) (word_bytes n q)) (bytes 8 (get_or q n 0)) (simp length-drop (omega arith)) ∙ e

-- A word of two columns.
two-columns : (a b : ℕ) → b < 2 ^ 32 → bytes 8 (a * 2 ^ 32 + b) ≡ bytes 4 a ++ bytes 4 b
two-columns a b h =
    let e : (a * 2 ^ 32 + b) / 2 ^ 32 ≡ a = omega arith in
    let f : (a * 2 ^ 32 + b) % 2 ^ 32 ≡ b = omega arith in
    bytes-add 4 4 (a * 2 ^ 32 + b)
    ∙ ap₂ (λ (x y : List ℕ). x ++ y) (ap (bytes 4) e) (sym (bytes-mod 4 (a * 2 ^ 32 + b)) ∙ ap (bytes 4) f)

-- ---- rows of bytes are the columns of blocks

row_word : (t : List ℕ) (r i : ℕ) → i < 8 → get_or (words_of (row_at t r)) i 0 ≡ get_or t (8 * r + i) 0
unfolding row_at
row_word t r zero h = refl
row_word t r (suc zero) h = refl
row_word t r (suc (suc zero)) h = refl
row_word t r (suc (suc (suc zero))) h = refl
row_word t r (suc (suc (suc (suc zero)))) h = refl
row_word t r (suc (suc (suc (suc (suc zero))))) h = refl
row_word t r (suc (suc (suc (suc (suc (suc zero)))))) h = refl
row_word t r (suc (suc (suc (suc (suc (suc (suc zero))))))) h = refl
row_word t r (suc (suc (suc (suc (suc (suc (suc (suc i)))))))) h = absurd (omega arith)

module _ (q t : List ℕ) (e : Each Transposing 4 q t) (i : ℕ) (hi : i < 8) where
  -- Byte b of word i of row r.
  byte-there : (r b c l : ℕ) → r < 4 → b < 8 → 8 * b + i ≡ place c l → octet b (get_or t (8 * r + i) 0) ≡ lane_byte (place c l) (row_at q r)
  byte-there r b c l hr hb f =
      ap (octet b) (sym (row_word t r i hi)) ∙ (e.done r hr).each i b hi hb ∙ ap (λ (j : ℕ). lane_byte j (row_at q r)) f

  abbrev gathered : ℕ → ℕ
  gathered k = transposition.column k (get_or t i 0) (get_or t (8 + i) 0) (get_or t (16 + i) 0) (get_or t (24 + i) 0)

  column-there : (b c l : ℕ) → b < 8 → 8 * b + i ≡ place c l → gathered b ≡ column q l c
  unfolding transposition.column column word
  column-there b c l hb f =
      let z : 8 * 0 + i ≡ i = omega arith in
      let first : octet b (get_or t i 0) ≡ lane_byte (place c l) (row_at q 0) = rw z at (byte-there 0 b c l (omega arith) hb f) in
      rw (first, byte-there 1 b c l (omega arith) hb f, byte-there 2 b c l (omega arith) hb f, byte-there 3 b c l (omega arith) hb f)

  gathered-lt : (k : ℕ) → gathered k < 2 ^ 32
  unfolding transposition.column octet
  gathered-lt k = omega arith

  -- Two words that are the four columns of a block.
  block-there : (u : List ℕ) (m b l : ℕ) → b < 2 → l ≡ 8 * b + i → 2 * m + 2 ≤ state_planes
      → get_or u (2 * m) 0 ≡ half t i (4 + b) → get_or u (suc (2 * m)) 0 ≡ half t i b → block_at (word_bytes state_planes u) m ≡ block_of (state q l)
  unfolding block_of state
  block-there u m b l hb f h e0 e1 =
      word-block u state_planes m h
      ∙ rw (e0, e1, two-columns (gathered (4 + b + 2)) (gathered (4 + b)) (gathered-lt (4 + b)), two-columns (gathered (b + 2)) (gathered b) (gathered-lt b))
      (rw (
        column-there (4 + b + 2) 0 l (omega arith) (omega arith),
        column-there (4 + b) 1 l (omega arith) (omega arith),
        column-there (b + 2) 2 l (omega arith) (omega arith),
        column-there b 3 l (omega arith) (omega arith),
      ) (append_assoc (bytes 4 (column q l 0)) (bytes 4 (column q l 1)) (bytes 4 (column q l 2) ++ bytes 4 (column q l 3))))

-- The sixteen blocks, from the planes to the bytes.
pub unsliced : (q t u l : List ℕ) → Each Transposing 4 q t → Gathered 8 t u → l ≡ word_bytes state_planes u → Unsliced q l
unsliced q t u l e g f =
    record { sized = ap length f ∙ word-bytes-length state_planes u; each = λ m h. ap (λ (x : List ℕ). block_at x m) f ∙ at m h (either (m % 2) (mod-lt m (omega arith))) }
  where
    at : (m : ℕ) → m < batch_blocks → (m % 2 ≡ 0) ⊎ (m % 2 ≡ 1) → block_at (word_bytes state_planes u) m ≡ block_of (state q (lane_of m))
    at m h (inl d) =
        let a : 2 * m ≡ 4 * (m / 2) = omega arith in
        let b : suc (2 * m) ≡ 4 * (m / 2) + 1 = omega arith in
        block-there q t e (m / 2) (omega arith) u m 0 (lane_of m) (omega arith) (omega arith) (omega arith)
        (ap (λ (k : ℕ). get_or u k 0) a ∙ g.even-first (m / 2) (omega arith)) (ap (λ (k : ℕ). get_or u k 0) b ∙ g.even-second (m / 2) (omega arith))
    at m h (inr d) =
        let a : 2 * m ≡ 4 * (m / 2) + 2 = omega arith in
        let b : suc (2 * m) ≡ 4 * (m / 2) + 3 = omega arith in
        block-there q t e (m / 2) (omega arith) u m 1 (lane_of m) (omega arith) (omega arith) (omega arith)
        (ap (λ (k : ℕ). get_or u k 0) a ∙ g.odd-first (m / 2) (omega arith)) (ap (λ (k : ℕ). get_or u k 0) b ∙ g.odd-second (m / 2) (omega arith))

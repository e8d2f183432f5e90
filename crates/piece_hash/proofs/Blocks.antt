-- SPDX-License-Identifier: MIT
-- Laws of GHASH over whole blocks. Assumes nothing.
use mathlib.Core.Path.{◌≡◌, refl, sym, ◌∙◌, ap, ap₂}
use mathlib.Core.List.{List, ◌++◌}
use Prim.Native.Nat.{ℕ, zero, suc, ◌+◌, ◌*◌, ◌/◌, ◌%◌, ◌<◌, ◌≤◌}
use native.Mathlib.Nat.{add-zero, add-suc}
use native.Mathlib.Omega.{arith}
use lib.Bits.{bit_xor}
use lib.ListN.{length, take, drop, length-append, length-drop, take-append-drop}
use lib.Seq.{drop-append-le, drop-append-add, length-take-le}
use Rattle.octets.specs.Octets.{number}
use Rattle.octets.proofs.Laws.{number_append}
use Rattle.ghash.specs.Ghash.{product, absorb_blocks, absorb}
use Rattle.piece_hash.specs.Held.{absorb_whole, left_over}

module _ (h : ℕ) where
  -- Blocks are a matter of their own bytes.
  blocks-front : (y : ℕ) (a b : List ℕ) (n : ℕ) → 16 * n ≤ length a → absorb_blocks h y (a ++ b) n ≡ absorb_blocks h y a n
  unfolding absorb_blocks
  blocks-front y a b zero k = refl
  blocks-front y a b (suc n) k =
      ap₂ (λ (v w : ℕ). product (bit_xor v w) h) (blocks-front y a b n (omega arith))
      (ap (number 16) (drop-append-le (16 * n) a b (omega arith)) ∙ number_append 16 (drop (16 * n) a) b (rw (length-drop (16 * n) a) (omega arith)))

  -- Whole blocks in front are absorbed first.
  pub blocks-append : (y : ℕ) (a b : List ℕ) (m n : ℕ) → length a ≡ 16 * m
      → absorb_blocks h y (a ++ b) (m + n) ≡ absorb_blocks h (absorb_blocks h y a m) b n
  unfolding absorb_blocks
  blocks-append y a b m zero e = ap (absorb_blocks h y (a ++ b)) (add-zero m) ∙ blocks-front y a b m (omega arith)
  blocks-append y a b m (suc n) e =
      let d : 16 * (m + n) ≡ length a + 16 * n = omega arith in
      ap (absorb_blocks h y (a ++ b)) (add-suc m n)
      ∙ ap₂ (λ (v w : ℕ). product (bit_xor v w) h) (blocks-append y a b m n e)
      (ap (number 16) (ap (λ (i : ℕ). drop i (a ++ b)) d ∙ drop-append-add a b (16 * n)))

  pub absorb-blocks : (y : ℕ) (a : List ℕ) (m : ℕ) → length a ≡ 16 * m → absorb h y a ≡ absorb_blocks h y a m
  unfolding absorb
  absorb-blocks y a m e = ap (absorb_blocks h y a) (omega arith)

  pub whole_append : (y : ℕ) (a b : List ℕ) (m : ℕ) → length a ≡ 16 * m → absorb_whole h y (a ++ b) ≡ absorb_whole h (absorb_blocks h y a m) b
  unfolding absorb_whole
  whole_append y a b m e =
      let q : length (a ++ b) / 16 ≡ m + length b / 16 = rw (length-append a b) (omega arith) in
      ap (absorb_blocks h y (a ++ b)) q ∙ blocks-append y a b m (length b / 16) e

  -- Less than a block is not absorbed.
  pub whole-short : (y : ℕ) (w : List ℕ) → length w < 16 → absorb_whole h y w ≡ y
  unfolding absorb_whole absorb_blocks
  whole-short y w k = let q : length w / 16 ≡ 0 = omega arith in rw q

  -- The whole blocks alone.
  pub whole-front : (y : ℕ) (w : List ℕ) (m : ℕ) → m ≡ length w / 16 → absorb_blocks h y (take (16 * m) w) m ≡ absorb_whole h y w
  unfolding absorb_whole
  whole-front y w m e =
      sym (blocks-front y (take (16 * m) w) (drop (16 * m) w) m (rw (length-take-le (16 * m) w (omega arith)) (omega arith)))
      ∙ ap (λ (l : List ℕ). absorb_blocks h y l m) (take-append-drop (16 * m) w)
      ∙ ap (absorb_blocks h y w) e

pub left-length : (w : List ℕ) → length (left_over w) ≡ length w % 16
unfolding left_over
left-length w = length-drop (16 * (length w / 16)) w ∙ omega arith

pub left-short : (w : List ℕ) → length w < 16 → left_over w ≡ w
unfolding left_over
left-short w k = let q : 16 * (length w / 16) ≡ 0 = omega arith in rw q

pub left-append : (a b : List ℕ) (m : ℕ) → length a ≡ 16 * m → left_over (a ++ b) ≡ left_over b
unfolding left_over
left-append a b m e =
    let q : 16 * (length (a ++ b) / 16) ≡ length a + 16 * (length b / 16) = rw (length-append a b) (omega arith) in
    ap (λ (i : ℕ). drop i (a ++ b)) q ∙ drop-append-add a b (16 * (length b / 16))

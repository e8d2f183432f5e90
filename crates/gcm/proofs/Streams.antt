-- SPDX-License-Identifier: MIT
-- Laws of the key stream.
-- Assumes nothing.
use mathlib.Core.Path.{◌≡◌, refl, ap, ap₂, sym, ◌∙◌}
use mathlib.Core.List.{List, [], ◌∷◌, ◌++◌, append-nil, append_assoc}
use Prim.Native.Nat.{ℕ, zero, suc, ◌+◌, ◌*◌, ◌-◌, ◌≤◌}
use native.Mathlib.Nat.{zero-add, add-zero, add-suc}
use native.Mathlib.Omega.{arith}
use lib.Bits.{bit_xor}
use lib.ListN.{length, get_or, drop, length-append, length-drop}
use lib.Seq.{drop_at, drop-drop, drop-append-le}
use Rattle.octets.specs.Octets.{xors}
use Rattle.octets.proofs.Laws.{xors-length}
use Rattle.aes.specs.Aes.{blocks}
use Rattle.aes.proofs.Laws.{encrypt-length}
use Rattle.gcm.specs.Counter.{key_stream, ctr, ctr_from}

-- XOR of strings that are joined in the same place.
pub xors-append : (a b k l : List ℕ) → length a ≡ length k → xors (a ++ b) (k ++ l) ≡ xors a k ++ xors b l
unfolding xors
xors-append [] b [] l e = refl
xors-append [] b (y ∷ k) l e = absurd (omega (arith, e))
xors-append (x ∷ a) b [] l e = absurd (omega (arith, e))
xors-append (x ∷ a) b (y ∷ k) l e = ap (λ (t : List ℕ). bit_xor x y ∷ t) (xors-append a b k l (omega (arith, e)))

-- XOR takes no more of a key stream than it needs.
pub xors-enough : (l k r : List ℕ) → length l ≤ length k → xors l (k ++ r) ≡ xors l k
unfolding xors
xors-enough [] k r h = refl
xors-enough (x ∷ l) [] r h = absurd (omega arith)
xors-enough (x ∷ l) (y ∷ k) r h = ap (λ (t : List ℕ). bit_xor x y ∷ t) (xors-enough l k r (omega arith))

pub stream-length : (key nonce : List ℕ) (count n : ℕ) → length (key_stream key nonce count n) ≡ 16 * n
unfolding key_stream
stream-length key nonce count zero = refl
stream-length key nonce count (suc n) =
    simp (length-append, stream-length key nonce count n, encrypt-length) (omega arith)

-- A key stream goes on behind another.
pub stream-add : (key nonce : List ℕ) (count j n : ℕ) → key_stream key nonce count (j + n) ≡ key_stream key nonce count j ++ key_stream key nonce (count + j) n
unfolding key_stream
stream-add key nonce count j zero = rw (add-zero j, append-nil (key_stream key nonce count j))
stream-add key nonce count j (suc n) =
    let e : count + (j + n) ≡ count + j + n = omega arith in
    rw (add-suc j n, stream-add key nonce count j n, e) (append_assoc (key_stream key nonce count j) (key_stream key nonce (count + j) n) _)

pub ctr-stream : (key nonce : List ℕ) (count : ℕ) (l : List ℕ) → ctr key nonce count l ≡ xors l (key_stream key nonce count (blocks (length l)))
unfolding ctr
ctr-stream key nonce count l = refl

pub ctr-nil : (key nonce : List ℕ) (count : ℕ) → ctr key nonce count [] ≡ []
unfolding ctr xors
ctr-nil key nonce count = refl

-- As much key stream as there are blocks, or more.
pub ctr-enough : (key nonce l : List ℕ) (count j : ℕ) → blocks (length l) ≤ j → xors l (key_stream key nonce count j) ≡ ctr key nonce count l
unfolding ctr
ctr-enough key nonce l count j h =
    let b : ℕ = blocks (length l) in
    let e : b + (j - b) ≡ j = omega arith in
    rw (← e, stream-add key nonce count b (j - b)) (xors-enough l _ _ (rw (stream-length key nonce count b) (omega arith)))

-- ---- from any byte on

xors-split : (x y k : List ℕ) → xors (x ++ y) k ≡ xors x k ++ xors y (drop (length x) k)
unfolding xors
xors-split [] y k = refl
xors-split (a ∷ x) y k =
    ap (λ (t : List ℕ). bit_xor a (get_or k 0 0) ∷ t)
    (xors-split x y (drop 1 k) ∙ ap (λ (t : List ℕ). xors x (drop 1 k) ++ xors y t) (drop-drop (length x) 1 k ∙ rw (one (length x))))
  where
    one : (n : ℕ) → 1 + n ≡ suc n
    one n = omega arith

module _ (key nonce : List ℕ) where
  -- The key stream behind its first j blocks.
  pub stream-behind : (count j n at : ℕ) → drop (16 * j + at) (key_stream key nonce count (j + n)) ≡ drop at (key_stream key nonce (count + j) n)
  stream-behind count j n at =
      sym (drop-drop at (16 * j) (key_stream key nonce count (j + n)))
      ∙ ap (λ (t : List ℕ). drop at (drop (16 * j) t)) (stream-add key nonce count j n)
      ∙ ap (drop at) (drop_at (key_stream key nonce count j) (key_stream key nonce (count + j) n) (16 * j) (stream-length key nonce count j))

  -- As much key stream as is needed, or more.
  pub enough : (count at n : ℕ) (l : List ℕ) → at + length l ≤ 16 * n
      → xors l (drop at (key_stream key nonce count n)) ≡ ctr_from key nonce count at l
  unfolding ctr_from
  enough count at n l h =
      let b : ℕ = blocks (at + length l) in
      let e : b + (n - b) ≡ n = omega arith in
      let s = key_stream key nonce count b in
      let w : length s ≡ 16 * b = stream-length key nonce count b in
      ap (λ (i : ℕ). xors l (drop at (key_stream key nonce count i))) (sym e)
      ∙ ap (λ (t : List ℕ). xors l (drop at t)) (stream-add key nonce count b (n - b))
      ∙ ap (xors l) (drop-append-le at s (key_stream key nonce (count + b) (n - b)) (omega arith))
      ∙ xors-enough l (drop at s) (key_stream key nonce (count + b) (n - b)) (rw (length-drop at s) (omega arith))

  -- The same counted from block count 0 on.
  pub enough-zero : (count at n : ℕ) (l : List ℕ) → 16 * count + (at + length l) ≤ 16 * n
      → xors l (drop (16 * count + at) (key_stream key nonce 0 n)) ≡ ctr_from key nonce count at l
  enough-zero count at n l h =
      let e : count + (n - count) ≡ n = omega arith in
      ap (λ (i : ℕ). xors l (drop (16 * count + at) (key_stream key nonce 0 i))) (sym e)
      ∙ ap (xors l) (stream-behind 0 count (n - count) at)
      ∙ ap (λ (i : ℕ). xors l (drop at (key_stream key nonce i (n - count)))) (zero-add count)
      ∙ enough count at (n - count) l (omega arith)

  -- Counted from block count 0 on, it is the same key stream.
  pub from_zero : (count at : ℕ) (l : List ℕ) → ctr_from key nonce 0 (16 * count + at) l ≡ ctr_from key nonce count at l
  unfolding ctr_from
  from_zero count at l = enough-zero count at (blocks (16 * count + at + length l)) l (omega arith)

  -- However cut.
  pub cut : (count at : ℕ) (x y : List ℕ) → ctr_from key nonce count at (x ++ y) ≡ ctr_from key nonce count at x ++ ctr_from key nonce count (at + length x) y
  cut count at x y =
      let n : ℕ = blocks (at + (length x + length y)) in
      let s = key_stream key nonce count n in
      sym (enough count at n (x ++ y) (rw (length-append x y) (omega arith)))
      ∙ xors-split x y (drop at s)
      ∙ ap₂ (λ (a b : List ℕ). a ++ xors y b) (enough count at n x (omega arith)) (drop-drop (length x) at s)
      ∙ ap (λ (b : List ℕ). ctr_from key nonce count at x ++ b) (enough count (at + length x) n y (omega arith))

  pub from_start : (count : ℕ) (l : List ℕ) → ctr_from key nonce count 0 l ≡ ctr key nonce count l
  unfolding ctr_from ctr
  from_start count l = rw (zero-add (length l))

  pub from-length : (count at : ℕ) (l : List ℕ) → length (ctr_from key nonce count at l) ≡ length l
  unfolding ctr_from
  from-length count at l = xors-length l _

  pub from-none : (count at : ℕ) → ctr_from key nonce count at [] ≡ []
  unfolding ctr_from xors
  from-none count at = refl

-- SPDX-License-Identifier: MIT
-- Laws of the blocks that GHASH takes in.
-- Assumes nothing.
use mathlib.Core.Path.{◌≡◌, ap, sym, ◌∙◌}
use mathlib.Core.List.{List, ◌++◌}
use Prim.Native.Nat.{ℕ, ◌+◌, ◌*◌, ◌-◌, ◌/◌, ◌^◌, ◌≤◌, ◌<◌}
use native.Mathlib.Nat.{zero-add}
use native.Mathlib.Numerals.{add-one}
use native.Mathlib.Omega.{arith}
use borrow.Author.Count.{below_more}
use borrow.Rule.Slice.PartMut.{put_mid}
use lib.Bits.{bit_xor}
use lib.Pow.{high, low}
use lib.ListN.{length, get_or, set, take, drop, length-append, length-drop}
use lib.Seq.{get_or-set_same, get_or-set_other, get_or-append-add, get_or-drop, drop-append-le}
use Rattle.octets.specs.Octets.{number, bytes, pasted}
use Rattle.octets.proofs.Laws.{number_append, part-rest, bytes-length, bytes-add, bytes-mod, lent-bytes, pasted-append, pasted-front}
use Rattle.ghash.specs.Ghash.{product, absorb_blocks, absorb, pair}

pub append-after : (a b : List ℕ) (i : ℕ) → length a ≤ i → get_or b (i - length a) 0 ≡ get_or (a ++ b) i 0
append-after a b i h =
    let e : length a + (i - length a) ≡ i = omega arith in
    sym (get_or-append-add a b (i - length a) 0) ∙ rw e

pub gather-step : (l out : List ℕ) (i k v : ℕ) → k < length out → v ≡ get_or l (i + k) 0
    → ((j : ℕ) → j < k → get_or out j 0 ≡ get_or (drop i l) j 0) → (j : ℕ) → j < k + 1 → get_or (set out k v) j 0 ≡ get_or (drop i l) j 0
gather-step l out i k v h e f =
    below_more _ _ (λ j q. get_or-set_other out k j v 0 (omega arith) ∙ f j q)
    (get_or-set_same out k v 0 h ∙ e ∙ sym (get_or-drop i l k 0))

-- A block that lies in the first part is read there.
pub direct : (a b : List ℕ) (i : ℕ) → i + 16 ≤ length a
    → number 16 (take (length a - i) (drop i a)) ≡ number 16 (drop i (a ++ b))
direct a b i h =
    rw part-rest
    (sym (ap (number 16) (drop-append-le i a b (omega arith)) ∙ number_append 16 (drop i a) b (simp length-drop (omega arith))))

pub absorb-step : (h y : ℕ) (l : List ℕ) (i z b s r : ℕ) → z ≡ absorb_blocks h y l i → b ≡ number 16 (drop (16 * i) l)
    → s ≡ bit_xor z b → r ≡ product s h → r ≡ absorb_blocks h y l (i + 1)
unfolding absorb_blocks
absorb-step h y l i z b s r p q e f = f ∙ rw (e, p, q, add-one)

pub absorb-done : (h y : ℕ) (a b : List ℕ) (i z : ℕ) → i ≡ (length a + length b + 15) / 16
    → z ≡ absorb_blocks h y (a ++ b) i → z ≡ absorb h y (a ++ b)
unfolding absorb
absorb-done h y a b i z e p = p ∙ rw (length-append, e)

-- A block written in two halves.
pub stored-block : (l o p : List ℕ) (hi lo : ℕ) → 16 ≤ length l → lo < 2 ^ 64 → o ≡ bytes 8 hi ++ drop 8 l
    → p ≡ bytes 8 lo ++ drop 8 (take (length o - 8) (drop 8 o)) → put_mid 8 (length o - 8) o p ≡ bytes 16 (pair hi lo) ++ drop 16 l
stored-block l o p hi lo h k e f =
    let a = bytes 8 hi in
    let b = bytes 8 lo in
    let la : length a ≡ 8 = bytes-length 8 hi in
    let lb : length b ≡ 8 = bytes-length 8 lo in
    let n : length o ≡ length l = ap length e ∙ simp (length-append, length-drop) (omega arith) in
    let q : o ≡ pasted l 0 a = e ∙ sym (pasted-front l a ∙ ap (λ (x : ℕ). a ++ drop x l) la) in
    let m : length (a ++ b) ≡ 16 = length-append a b ∙ rw (la, lb) in
    let w : bytes 16 (pair hi lo) ≡ a ++ b =
    bytes-add 8 8 (pair hi lo) ∙ rw (high hi 64 k, ← bytes-mod 8 (pair hi lo), low hi 64 k) in
    lent-bytes o p 8 8 lo (omega arith) f
    ∙ ap (λ (x : List ℕ). pasted x 8 b) q
    ∙ ap (λ (x : ℕ). pasted (pasted l 0 a) x b) (sym (zero-add (length a) ∙ la))
    ∙ pasted-append l 0 a b (omega arith)
    ∙ pasted-front l (a ++ b) ∙ rw (m, w)

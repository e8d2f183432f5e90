-- SPDX-License-Identifier: MIT
-- The steps of the calls on a running state, over plain variables. Assumes nothing.
use Rattle.std.specs.Prelude.{Option, Some, None}
use mathlib.Core.Path.{◌≡◌, refl, sym, ◌∙◌, ap, ap₂}
use mathlib.Core.Bool.{Bool, true, false, not}
use mathlib.Core.List.{List, []}
use Prim.Native.Nat.{ℕ, ◌+◌, ◌-◌, ◌<◌, ◌≤◌}
use native.Mathlib.Nat.{zero-add}
use native.Mathlib.Omega.{arith}
use borrow.Author.Tests.{lt-ltb, le-ltb, eq-eqb, ne_eqb, ltb-true, ltb-false, not-true, not-false}
use borrow.Rule.Slice.PartMut.{put_mid}
use lib.Dec.{ltb}
use lib.ListN.{length, take}
use lib.Seq.{take_all}
use Rattle.octets.specs.Octets.{pasted, same}
use Rattle.answers.specs.Answers.{first}
use Rattle.answers.specs.Limits.{max_plaintext}
use Rattle.suites.specs.declared.sizes.Suite.{Suite}
use Rattle.suites.specs.Suites.{Nt}
use Rattle.suites.proofs.Laws.{Nt-most}
use Rattle.piece_line.specs.State.{sealing, checking, announced_in, taken_in, line_of}
use Rattle.piece_line.specs.Line.{after, cipher_piece, tag_in}
use Rattle.pieces.specs.Calls.{Result, refusal, concluded, past, early, wanting, seal_piece_in, seal_piece, seal_end_in, seal_end, check_piece_in, check_piece, check_end_in, check_end}
use Rattle.piece_line.proofs.Steps.{Possible}

-- ---- tests

pub past_is : (s : List ℕ) (n a t : ℕ) (r : Bool) → taken_in s ≤ announced_in s → a ≡ announced_in s → t ≡ taken_in s → r ≡ ltb (a - t) n → r ≡ past s n
past_is s n a t r h e f g = g ∙ ap₂ (λ (i j : ℕ). ltb (i - j) n) e f ∙ by (ltb (announced_in s - taken_in s) n) refl
  where
    by : (b : Bool) → ltb (announced_in s - taken_in s) n ≡ b → ltb (announced_in s - taken_in s) n ≡ ltb (announced_in s) (taken_in s + n)
    by true p = p ∙ sym (lt-ltb (announced_in s) (taken_in s + n) (omega (arith, h, ltb-true (announced_in s - taken_in s) n p)))
    by false p = p ∙ sym (le-ltb (announced_in s) (taken_in s + n) (omega (arith, h, ltb-false (announced_in s - taken_in s) n p)))

-- What is written to the front of a room, by way of its first n bytes.
pub lent-front : (room p x : List ℕ) (n : ℕ) → length x ≡ n → n ≤ length room → p ≡ x → put_mid 0 (n - 0) room p ≡ pasted room 0 x
unfolding pasted
lent-front room p x n l h e =
    let d : n - 0 ≡ n = omega arith in
    rw (e, d, zero-add, l)

pub first_part : (t g : List ℕ) (n m : ℕ) → n ≡ m → take m t ≡ g → take (n - 0) t ≡ g
first_part t g n m e f = let d : n - 0 ≡ m = omega arith in rw d f

-- a tag and as many bytes of t, compared
pub whole-tag : (tag t g : List ℕ) (n m : ℕ) (r : Bool) → n ≡ length tag → n ≡ m → take m t ≡ g → r ≡ same (take (n - 0) tag) (take (n - 0) t) → r ≡ same tag g
whole-tag tag t g n m r l e f q = q ∙ ap₂ same (take_all (n - 0) tag (omega arith)) (first_part t g n m e f)

pub tag_fits : (f : Option Suite) (suite : Suite) (n : ℕ) → f ≡ Some suite → n ≡ Nt suite → n ≤ 16
tag_fits f suite n k e = omega (arith, Nt-most suite)

-- ---- the calls

-- what a call answers, and what it leaves in state and room
abbrev pub Leaves : Result → ℕ → ℕ → List ℕ → List ℕ → Type 0
Leaves o number written state room = ((number ≡ o.number) × (written ≡ o.written)) × ((state ≡ o.state) × (room ≡ o.room))

leaves : (o p : Result) → o ≡ p → Leaves o p.number p.written p.state p.room
leaves o p e = ((sym (ap (λ (x : Result). x.number) e), sym (ap (λ (x : Result). x.written) e)), (sym (ap (λ (x : Result). x.state) e), sym (ap (λ (x : Result). x.room) e)))

-- a piece within what was announced
pub within : (s : List ℕ) (n : ℕ) (r : Bool) → Possible s → r ≡ past s n → r ≡ false → taken_in s + n ≤ max_plaintext
within s n r p e f = omega (arith, p.most, ltb-false (announced_in s) (taken_in s + n) (sym e ∙ f))

module _ (s p room : List ℕ) (f : Option Suite) (e : f ≡ line_of sealing s) where
  piece-in : (g : Option Suite) → f ≡ g → seal_piece s p room ≡ seal_piece_in g s p room
  unfolding seal_piece
  piece-in g k = ap (λ (x : Option Suite). seal_piece_in x s p room) (sym e ∙ k)

  pub piece-unknown : f ≡ None → Leaves (seal_piece s p room) 16 0 s room
  piece-unknown k = leaves _ (refusal 16 s room) (piece-in None k)

  module _ (suite : Suite) (k : f ≡ Some suite) (r : Bool) (q : r ≡ past s (length p)) where
    pub piece-past : r ≡ true → Leaves (seal_piece s p room) 16 0 s room
    unfolding first wanting concluded
    piece-past t = let u : past s (length p) ≡ true = sym q ∙ t in leaves _ (refusal 16 s room) (piece-in (Some suite) k ∙ rw u)

    pub piece-short : r ≡ false → length room < length p → Leaves (seal_piece s p room) 12 0 s room
    unfolding first wanting concluded
    piece-short t h =
        let u : past s (length p) ≡ false = sym q ∙ t in
        leaves _ (refusal 12 s room) (piece-in (Some suite) k ∙ rw (u, lt-ltb (length room) (length p) h))

    pub piece-taken : r ≡ false → length p ≤ length room
        → Leaves (seal_piece s p room) 0 (length p) (after suite s (cipher_piece suite s p)) (pasted room 0 (cipher_piece suite s p))
    unfolding first wanting concluded
    piece-taken t h =
        let u : past s (length p) ≡ false = sym q ∙ t in
        leaves _ (record { number = 0; written = length p; state = after suite s (cipher_piece suite s p); room = pasted room 0 (cipher_piece suite s p) })
        (piece-in (Some suite) k ∙ rw (u, le-ltb (length room) (length p) h))

module _ (s room : List ℕ) (f : Option Suite) (e : f ≡ line_of sealing s) where
  end-in : (g : Option Suite) → f ≡ g → seal_end s room ≡ seal_end_in g s room
  unfolding seal_end
  end-in g k = ap (λ (x : Option Suite). seal_end_in x s room) (sym e ∙ k)

  pub end-unknown : f ≡ None → Leaves (seal_end s room) 16 0 s room
  end-unknown k = leaves _ (refusal 16 s room) (end-in None k)

  module _ (suite : Suite) (k : f ≡ Some suite) (r : Bool) (q : r ≡ early s) where
    pub end-early : r ≡ true → Leaves (seal_end s room) 16 0 s room
    unfolding first wanting concluded
    end-early t = let u : early s ≡ true = sym q ∙ t in leaves _ (refusal 16 s room) (end-in (Some suite) k ∙ rw u)

    module _ (n : ℕ) (m : n ≡ Nt suite) (t : r ≡ false) where
      pub end_short : length room < n → Leaves (seal_end s room) 12 0 s room
      unfolding first wanting concluded
      end_short h =
          let u : early s ≡ false = sym q ∙ t in
          let w : length room < Nt suite = omega arith in
          leaves _ (refusal 12 s room) (end-in (Some suite) k ∙ rw (u, lt-ltb (length room) (Nt suite) w))

      pub end-written : (o x : List ℕ) → n ≤ length room → x ≡ tag_in suite s → o ≡ pasted room 0 x → Leaves (seal_end s room) 0 n s o
      unfolding first wanting concluded
      end-written o x h g z =
          let u : early s ≡ false = sym q ∙ t in
          let w : Nt suite ≤ length room = omega arith in
          let l = leaves _ (record { number = 0; written = Nt suite; state = s; room = pasted room 0 (tag_in suite s) }) (end-in (Some suite) k ∙ rw (u, le-ltb (length room) (Nt suite) w)) in
          ((l.0.0, m ∙ l.0.1), (l.1.0, z ∙ ap (pasted room 0) g ∙ l.1.1))

module _ (s p : List ℕ) (f : Option Suite) (e : f ≡ line_of checking s) where
  check-in : (g : Option Suite) → f ≡ g → check_piece s p ≡ check_piece_in g s p
  unfolding check_piece
  check-in g k = ap (λ (x : Option Suite). check_piece_in x s p) (sym e ∙ k)

  pub check-unknown : f ≡ None → Leaves (check_piece s p) 16 0 s []
  check-unknown k = leaves _ (refusal 16 s []) (check-in None k)

  module _ (suite : Suite) (k : f ≡ Some suite) (r : Bool) (q : r ≡ past s (length p)) where
    pub check-past : r ≡ true → Leaves (check_piece s p) 16 0 s []
    unfolding first concluded
    check-past t = let u : past s (length p) ≡ true = sym q ∙ t in leaves _ (refusal 16 s []) (check-in (Some suite) k ∙ rw u)

    pub check_done : r ≡ false → Leaves (check_piece s p) 0 0 (after suite s p) []
    unfolding first concluded
    check_done t =
        let u : past s (length p) ≡ false = sym q ∙ t in
        leaves _ (record { number = 0; written = 0; state = after suite s p; room = [] }) (check-in (Some suite) k ∙ rw u)

module _ (s t : List ℕ) (f : Option Suite) (e : f ≡ line_of checking s) where
  tag_in_lem : (g : Option Suite) → f ≡ g → check_end s t ≡ check_end_in g s t
  unfolding check_end
  tag_in_lem g k = ap (λ (x : Option Suite). check_end_in x s t) (sym e ∙ k)

  pub tag-unknown : f ≡ None → 16 ≡ check_end s t
  tag-unknown k = sym (tag_in_lem None k)

  module _ (suite : Suite) (k : f ≡ Some suite) (r : Bool) (q : r ≡ early s) where
    pub tag-early : r ≡ true → 16 ≡ check_end s t
    unfolding first
    tag-early b = let u : early s ≡ true = sym q ∙ b in sym (tag_in_lem (Some suite) k ∙ rw u)

    module _ (n : ℕ) (m : n ≡ Nt suite) (b : r ≡ false) where
      pub tag-length : (length t ≡ n → ⊥) → 11 ≡ check_end s t
      unfolding first
      tag-length d =
          let u : early s ≡ false = sym q ∙ b in
          sym (tag_in_lem (Some suite) k ∙ rw (u, ne_eqb (length t) (Nt suite) (λ z. d (z ∙ sym m))))

      module _ (l : length t ≡ n) (x : List ℕ) (y : Bool) (g : x ≡ tag_in suite s) (h : y ≡ same t x) where
        pub tag-differs : not y ≡ true → 13 ≡ check_end s t
        unfolding first
        tag-differs z =
            let u : early s ≡ false = sym q ∙ b in
            let w : same t (tag_in suite s) ≡ false = ap (same t) (sym g) ∙ sym h ∙ not-true y z in
            sym (tag_in_lem (Some suite) k ∙ rw (u, eq-eqb (length t) (Nt suite) (l ∙ m), w))

        pub tag_same : not y ≡ false → 0 ≡ check_end s t
        unfolding first
        tag_same z =
            let u : early s ≡ false = sym q ∙ b in
            let w : same t (tag_in suite s) ≡ true = ap (same t) (sym g) ∙ sym h ∙ not-false y z in
            sym (tag_in_lem (Some suite) k ∙ rw (u, eq-eqb (length t) (Nt suite) (l ∙ m), w))

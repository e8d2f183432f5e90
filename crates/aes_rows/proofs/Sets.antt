-- SPDX-License-Identifier: MIT
-- Laws of rows that are written, one after the other.
-- Assumes nothing.
use mathlib.Core.Path.{◌≡◌, refl, ◌∙◌}
use mathlib.Core.List.{List, [], ◌∷◌}
use mathlib.Core.Logic.{⊎_elim}
use Prim.Native.Nat.{ℕ, zero, suc, ◌+◌, ◌*◌, ◌≤◌, ◌<◌}
use native.Mathlib.Nat.{eq-or-lt_of_le, le_of_suc-le-suc}
use native.Mathlib.Omega.{arith}
use lib.ListN.{length, get_or, set, length-set}
use lib.Seq.{get_or-set_same, get_or-set_other}
use borrow.Author.Count.{below_more}
use Rattle.bitslice.specs.declared.Planes.{Planes}
use Rattle.aes_rows.specs.Rows.{state_planes, row_at, RowSet, Each}

-- The first n words of a row, written in their order.
abbrev stored : ℕ → List ℕ → ℕ → List ℕ → List ℕ
stored zero v r q = q
stored (suc n) v r q = set (stored n v r q) (8 * r + n) (get_or v n 0)

module _ (v : List ℕ) (r : ℕ) (q : List ℕ) where
  stored-length : (n : ℕ) → length (stored n v r q) ≡ length q
  stored-length zero = refl
  stored-length (suc n) = length-set (stored n v r q) (8 * r + n) (get_or v n 0) ∙ stored-length n

  stored_same : (n i : ℕ) → i < n → r < 4 → state_planes ≤ length q → n ≤ 8 → get_or (stored n v r q) (8 * r + i) 0 ≡ get_or v i 0
  stored_same zero i h k l m = absurd (omega arith)
  stored_same (suc n) i h k l g =
      ⊎_elim
      (λ e. rw e (get_or-set_same (stored n v r q) (8 * r + n) (get_or v n 0) 0 (rw (stored-length n) (omega arith))))
      (λ m. get_or-set_other (stored n v r q) (8 * r + n) (8 * r + i) (get_or v n 0) 0 (omega arith) ∙ stored_same n i m k l (omega arith))
      (eq-or-lt_of_le (le_of_suc-le-suc h))

  stored_other : (n i s : ℕ) → n ≤ 8 → i < 8 → (s ≡ r → ⊥) → get_or (stored n v r q) (8 * s + i) 0 ≡ get_or q (8 * s + i) 0
  stored_other zero i s h k d = refl
  stored_other (suc n) i s h k d =
      get_or-set_other (stored n v r q) (8 * r + n) (8 * s + i) (get_or v n 0) 0 (omega arith) ∙ stored_other n i s (omega arith) k d

-- The eight words of a row, as the code writes them.
module _ (q : List ℕ) (r : ℕ) (p : Planes) (l : length q ≡ state_planes) (h : r < 4) where
  abbrev v : List ℕ
  v = p.p0 ∷ p.p1 ∷ p.p2 ∷ p.p3 ∷ p.p4 ∷ p.p5 ∷ p.p6 ∷ p.p7 ∷ []

  pub stored_row : RowSet q r p (stored 8 v r q)
  unfolding row_at
  stored_row =
      record {
        sized = stored-length v r q 8 ∙ l;
        same =
            rw (
              stored_same v r q 8 0 (omega arith) h (omega arith) (omega arith),
              stored_same v r q 8 1 (omega arith) h (omega arith) (omega arith),
              stored_same v r q 8 2 (omega arith) h (omega arith) (omega arith),
              stored_same v r q 8 3 (omega arith) h (omega arith) (omega arith),
              stored_same v r q 8 4 (omega arith) h (omega arith) (omega arith),
              stored_same v r q 8 5 (omega arith) h (omega arith) (omega arith),
              stored_same v r q 8 6 (omega arith) h (omega arith) (omega arith),
              stored_same v r q 8 7 (omega arith) h (omega arith) (omega arith),
            );
        others = λ s k d.
            rw (
              stored_other v r q 8 0 s (omega arith) (omega arith) d,
              stored_other v r q 8 1 s (omega arith) (omega arith) d,
              stored_other v r q 8 2 s (omega arith) (omega arith) d,
              stored_other v r q 8 3 s (omega arith) (omega arith) d,
              stored_other v r q 8 4 s (omega arith) (omega arith) d,
              stored_other v r q 8 5 s (omega arith) (omega arith) d,
              stored_other v r q 8 6 s (omega arith) (omega arith) d,
              stored_other v r q 8 7 s (omega arith) (omega arith) d,
            );
      }

-- ---- row by row

module _ (R : ℕ → Planes → Planes → Type 0) where
  pub each_start : (q : List ℕ) → length q ≡ state_planes → Each R 0 q q
  each_start q l = record { sized = l; done = λ s k. absurd (omega arith); left = λ s k m. refl }

  pub each_step : (n : ℕ) (q t u : List ℕ) (p : Planes) → n < 4 → Each R n q t → R n (row_at t n) p → RowSet t n p u → Each R (n + 1) q u
  each_step n q t u p h a b c =
      record {
        sized = c.sized;
        done =
            below_more _ _
            (λ s k. rw (c.others s (omega arith) (omega arith)) (a.done s k))
            (rw (c.same, ← a.left n h (omega arith)) b);
        left = λ s k m. c.others s k (omega arith) ∙ a.left s k (omega arith);
      }

-- What is so of each row changed under one relation is so under every one that follows from it.
pub each_as : (R S : ℕ → Planes → Planes → Type 0) (n : ℕ) (q t : List ℕ) → ((s : ℕ) (a b : Planes) → s < n → R s a b → S s a b) → Each R n q t → Each S n q t
each_as R S n q t f e = record { sized = e.sized; done = λ s h. f s _ _ h (e.done s h); left = e.left }

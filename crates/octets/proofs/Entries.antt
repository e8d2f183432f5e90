-- SPDX-License-Identifier: MIT
-- A rule that holds at each entry of a table, from one test that is computed over the whole table.
-- Assumes nothing.
use mathlib.Core.Bool.{Bool, true, false}
use mathlib.Core.List.{List, [], ◌∷◌}
use Prim.Native.Nat.{ℕ, zero, suc, ◌+◌, ◌<◌}
use native.Mathlib.Nat.{add-zero, zero-add, add-suc, suc-add, le_of_suc-le-suc, not-suc-le-zero}
use lib.Dec.{T}
use lib.ListN.{length, get_or}
use Rattle.octets.specs.Octets.{both}

pub both_first : (a b : Bool) → T (both a b) → T a
both_first true b t = tt
both_first false b t = t

pub both-second : (a b : Bool) → T (both a b) → T b
both-second true b t = t
both-second false b t = absurd t

-- Whether test k x holds of each entry x and its index k, where the first has index i.
abbrev pub all : (ℕ → ℕ → Bool) → ℕ → List ℕ → Bool
all test i [] = true
all test i (x ∷ l) = both (test i x) (all test (suc i) l)

all-at : (test : ℕ → ℕ → Bool) (l : List ℕ) (i : ℕ) → T (all test i l) → (k : ℕ) → k < length l → T (test (i + k) (get_or l k 0))
all-at test [] i t k h = absurd (not-suc-le-zero h)
all-at test (x ∷ l) i t zero h = rw add-zero (both_first (test i x) (all test (suc i) l) t)
all-at test (x ∷ l) i t (suc k) h =
    rw (add-suc i k, ← suc-add i k) (all-at test l (suc i) (both-second (test i x) (all test (suc i) l) t) k (le_of_suc-le-suc h))

pub entry-rule : (test : ℕ → ℕ → Bool) (l : List ℕ) → T (all test 0 l) → (k : ℕ) → k < length l → T (test k (get_or l k 0))
entry-rule test l t k h = rw zero-add at (all-at test l 0 t k h)

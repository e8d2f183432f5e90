-- SPDX-License-Identifier: MIT
-- The rows of a state that is a list of planes.
-- Assumes nothing.
use Rattle.std.specs.Prelude.{◌≡◌, List, ℕ, ◌+◌, ◌*◌, ◌≤◌, ◌<◌, length, get_or}
use Rattle.bitslice.specs.declared.Planes.{Planes}
use Rattle.bitslice.specs.Lanes.{Substituted, Sum}

-- The planes of a state: those of the eight bits of four rows.
abbrev pub state_planes : ℕ
state_planes = 32

-- Row r.
unfoldable pub row_at : List ℕ → ℕ → Planes
row_at q r =
    record {
      p0 = get_or q (8 * r + 0) 0;
      p1 = get_or q (8 * r + 1) 0;
      p2 = get_or q (8 * r + 2) 0;
      p3 = get_or q (8 * r + 3) 0;
      p4 = get_or q (8 * r + 4) 0;
      p5 = get_or q (8 * r + 5) 0;
      p6 = get_or q (8 * r + 6) 0;
      p7 = get_or q (8 * r + 7) 0;
    }

-- t is q with p as row r.
pub record RowSet (q : List ℕ) (r : ℕ) (p : Planes) (t : List ℕ) : Type 0 where
  pub sized : length t ≡ 32
  pub same : row_at t r ≡ p
  pub others : (s : ℕ) → s < 4 → (s ≡ r → ⊥) → row_at t s ≡ row_at q s

-- The first n rows of t are related to those of q, the others are the same.
pub record Each (R : ℕ → Planes → Planes → Type 0) (n : ℕ) (q t : List ℕ) : Type 0 where
  pub sized : length t ≡ 32
  pub done : (s : ℕ) → s < n → R s (row_at q s) (row_at t s)
  pub left : (s : ℕ) → s < 4 → n ≤ s → row_at t s ≡ row_at q s

-- SubBytes of a row.
abbrev pub Substituting : ℕ → Planes → Planes → Type 0
Substituting s a b = Substituted a b

-- AddRoundKey of a row.
abbrev pub Adding : List ℕ → ℕ → Planes → Planes → Type 0
Adding k s a b = Sum a (row_at k s) b

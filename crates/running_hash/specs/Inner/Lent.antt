-- SPDX-License-Identifier: MIT
-- Cited by inner contracts only: what feeding and finishing make of a lent state, over the hash. Assumes nothing.
use Rattle.std.specs.Prelude.{◌≡◌, List, [], ◌++◌, ℕ, ◌+◌, length}
use Rattle.sha2_common.specs.Sha2.{Params, hash}
use Rattle.sha2_common.specs.Running.{State, fresh, fed, finished}
use Rattle.sha2_common.specs.Fed.{Fed}

-- A lent state as a running hash of the parameters p.
module _ (S : Type 0) (state : S → State) (p : Params) where
  -- h becomes r: the bytes l have been fed after whatever h had been fed. Every byte of r is settled, also where no
  -- message leads to h.
  abbrev pub FedWith : (h : S) (l : List ℕ) (r : S) → Type 0
  FedWith h l r =
      ((m : List ℕ) → Fed p (state h) m → Fed p (state r) (m ++ l)) × ((state r).len ≡ (state h).len + length l) × (state r ≡ fed p (state h) l)

  -- h gives d, the digest of what it had been fed, of n bytes, and becomes r, a new state. d is settled also where no
  -- message leads to h.
  abbrev pub Finished : (n : ℕ) (h : S) (d : List ℕ) (r : S) → Type 0
  Finished n h d r =
      ((m : List ℕ) → Fed p (state h) m → d ≡ hash p m) × (length d ≡ n) × (d ≡ finished p (state h)) × Fed p (state r) [] × ((state r).len ≡ 0) × (state r ≡ fresh p)

-- The digest of a message in two pieces.
abbrev pub digest_of : (p : Params) (first second : List ℕ) → List ℕ
digest_of p first second = hash p (first ++ second)

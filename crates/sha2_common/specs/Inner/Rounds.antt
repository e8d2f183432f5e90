-- SPDX-License-Identifier: MIT
-- Inner: a block halfway, as the contracts of the rounds cite it: the message schedule grows beside the rounds.
-- Assumes nothing.
use Rattle.std.specs.Prelude.{◌≡◌, List, ℕ, ◌+◌, take}
use Rattle.sha2_common.specs.Sha2.{Params, schedule, rounds}

-- Of the block b: w has the first t + 16 words of the schedule, and v are the working variables after t rounds from h.
pub record Halfway (p : Params) (b h : List ℕ) (t : ℕ) (w v : List ℕ) : Type 0 where
  pub words : take (t + 16) w ≡ schedule p t b
  pub value : v ≡ rounds p w t h

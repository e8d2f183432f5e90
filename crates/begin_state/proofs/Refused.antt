-- SPDX-License-Identifier: MIT
-- A call with a running state that is refused changes nothing. Assumes nothing.
use mathlib.Core.Path.{◌≡◌, refl}
use mathlib.Core.List.{List}
use Prim.Native.Nat.{ℕ, zero, suc}
use Rattle.answers.specs.Answers.{Outcome, settled_on}
use Rattle.answers.proofs.Basics.{RefusalOn}

pub refused-on : (n : ℕ) (s room state : List ℕ) (o : Outcome) → o.number ≡ 0 → ((settled_on n s room state o).number ≡ 0 → ⊥)
    → RefusalOn (settled_on n s room state o).number s room state (settled_on n s room state o)
refused-on zero s room state o z d = absurd (d z)
refused-on (suc n) s room state o z d = record { number_is = refl; nothing_written = refl; store-stays = refl; room-stays = refl; state-stays = refl }

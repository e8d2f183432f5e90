-- SPDX-License-Identifier: MIT
use Prim.Native.Nat.{ℕ}
use mathlib.Core.Bool.{not}
use lib.Dec.{eqb}
use mathlib.Core.Path.{ap₂}
use Rattle.pieces.proofs.is_early.Goals as goal

pub returns : goal.returns
returns c =
    ap₂ (λ (x y : ℕ). not (eqb x y)) c.taken_of.ensures.0 c.announced_of.ensures.0

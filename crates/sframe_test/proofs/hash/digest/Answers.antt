-- SPDX-License-Identifier: MIT
use mathlib.Core.Path.{refl}
use mathlib.Core.Logic.{inl, inr}
use native.Mathlib.Omega.{arith}
use Rattle.sframe_test.proofs.hash.digest.Goals as goal

pub returns-then-message-gt-MAXIMUM : goal.returns-then-message-gt-MAXIMUM
returns-then-message-gt-MAXIMUM g c = inr (refl, (λ t. omega arith), refl)

pub returns-then-message-second : goal.returns-then-message-second
returns-then-message-second g c = inr (refl, (λ t. omega arith), refl)

pub returns-then-second-first : goal.returns-then-second-first
returns-then-second-first g c = inr (refl, (λ t. omega arith), refl)

pub returns-then-digest : goal.returns-then-digest
returns-then-digest g c = inr (refl, (λ t. omega arith), refl)

pub returns : goal.returns
returns g c =
    inl (refl, record { short = omega arith; inside = omega arith; ordered = omega arith; room = omega arith }, rw (c.digest_of-result.ensures.1, c.digest_of-result.ensures.0) at c.copy.ensures)

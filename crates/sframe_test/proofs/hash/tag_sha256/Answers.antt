-- SPDX-License-Identifier: MIT
use mathlib.Core.Path.{refl}
use mathlib.Core.Logic.{inl, inr}
use native.Mathlib.Omega.{arith}
use Rattle.sframe_test.proofs.hash.tag_sha256.Goals as goal

pub returns-then-key-gt-LARGEST : goal.returns-then-key-gt-LARGEST
returns-then-key-gt-LARGEST c = inr (refl, (λ t. omega arith), refl)

pub returns-then-message-gt-LARGEST : goal.returns-then-message-gt-LARGEST
returns-then-message-gt-LARGEST c = inr (refl, (λ t. omega arith), refl)

pub returns-then-message-second : goal.returns-then-message-second
returns-then-message-second c = inr (refl, (λ t. omega arith), refl)

pub returns-then-second-first : goal.returns-then-second-first
returns-then-second-first c = inr (refl, (λ t. omega arith), refl)

pub returns-then-tag-lt32 : goal.returns-then-tag-lt32
returns-then-tag-lt32 c = inr (refl, (λ t. omega arith), refl)

pub returns : goal.returns
returns c =
    inl (refl, record { keyed = omega arith; cut = record { short = omega arith; inside = omega arith; ordered = omega arith; room = omega arith } }, rw (c.hmac_sha256_pieces-result.ensures.1, c.hmac_sha256_pieces-result.ensures.0) at c.copy.ensures)

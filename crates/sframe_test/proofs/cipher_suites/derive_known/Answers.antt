-- SPDX-License-Identifier: MIT
-- `sframe_test::cipher_suites::derive_known` meets its contract: the tests leave what the derivation requires, and a refusal changes nothing.
-- Assumes nothing.
use mathlib.Core.Path.{refl}
use mathlib.Core.Logic.{inl, inr}
use native.Mathlib.Omega.{arith}
use Rattle.sframe_test.proofs.cipher_suites.derive_known.Goals as goal

pub returns-then-base-gt-MAX_BASE : goal.returns-then-base-gt-MAX_BASE
returns-then-base-gt-MAX_BASE c = inr (refl, (λ t. omega arith), (refl, refl))

pub returns-then-key-key_size : goal.returns-then-key-key_size
returns-then-key-key_size c = inr (refl, (λ t. omega arith), (refl, refl))

pub returns-then-salt-ne-NN : goal.returns-then-salt-ne-NN
returns-then-salt-ne-NN c = inr (refl, (λ t. omega arith), (refl, refl))

pub returns : goal.returns
returns c =
    inl (refl, record { based = omega arith; keyed = omega arith; salted = omega arith }, (c.derive_key.ensures, c.derive_salt.ensures))

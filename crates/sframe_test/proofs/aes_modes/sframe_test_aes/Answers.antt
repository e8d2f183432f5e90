-- SPDX-License-Identifier: MIT
-- `sframe_test::aes_modes::sframe_test_aes` meets its contract: the tests leave what the functions below require, and a refusal changes nothing.
-- Assumes nothing.
use mathlib.Core.Path.{refl}
use mathlib.Core.Logic.{inl, inr}
use native.Mathlib.Omega.{arith}
use borrow.Author.Tests.{not-true, not-false}
use Rattle.aes_block.proofs.Contexts.{context-key, context-ready}
use Rattle.sframe_test.proofs.Steps.{key-size}
use borrow.Author.Rules.{rules}
use mathlib.Core.Bool.{not}
use mathlib.Core.Path.{ap}
use Rattle.sframe_test.proofs.aes_modes.sframe_test_aes.Goals as goal

pub returns-then-not-key_taken : goal.returns-then-not-key_taken
returns-then-not-key_taken c = inr (refl, (λ t. c.key_taken.ensures.fails (not-true _ (ap not c.if-not-key_taken.true)) t.keyed), refl)

pub returns-then-block-ne16 : goal.returns-then-block-ne16
returns-then-block-ne16 c = inr (refl, (λ t. omega arith), refl)

pub returns-then-out-lt16 : goal.returns-then-out-lt16
returns-then-out-lt16 c = inr (refl, (λ t. omega arith), refl)

pub expand-ctx-requires : goal.expand-ctx-requires
expand-ctx-requires c = key-size (c.key_taken.ensures.holds (not-false _ (ap not c.if-not-key_taken.false)))

pub encrypt_block-requires : goal.encrypt_block-requires
encrypt_block-requires c = record { ready = context-ready c.expand-ctx.ensures; block_len = (search rules, search rules) }

pub returns : goal.returns
returns c =
    inl (refl, record { keyed = c.key_taken.ensures.holds (not-false _ (ap not c.if-not-key_taken.false)); blocked = omega arith; room = omega arith }, rw (c.encrypt_block.ensures, context-key c.expand-ctx.ensures))

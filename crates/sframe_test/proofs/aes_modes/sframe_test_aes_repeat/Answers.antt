-- SPDX-License-Identifier: MIT
-- `sframe_test::aes_modes::sframe_test_aes_repeat` meets its contract: the tests leave what the functions below require, and a refusal changes nothing.
-- Assumes nothing.
use mathlib.Core.Path.{◌≡◌, refl, ap, ◌∙◌}
use mathlib.Core.Logic.{inl, inr}
use native.Mathlib.Omega.{arith}
use lib.ListN.{length}
use borrow.Author.Tests.{not-true, not-false}
use Rattle.aes_block.proofs.Contexts.{context-key, context-ready}
use Rattle.sframe_test.proofs.Steps.{key-size, copied, repeat-of}
use mathlib.Core.Bool.{not}
use Rattle.sframe_test.proofs.aes_modes.sframe_test_aes_repeat.Goals as goal

pub returns-then-not-key_taken : goal.returns-then-not-key_taken
returns-then-not-key_taken c = inr (refl, (λ t. c.key_taken.ensures.fails (not-true _ (ap not c.if-not-key_taken.true)) t.keyed), refl)

pub returns-then-block-ne16 : goal.returns-then-block-ne16
returns-then-block-ne16 c = inr (refl, (λ t. omega arith), refl)

pub returns-then-out-ne16 : goal.returns-then-out-ne16
returns-then-out-ne16 c = inr (refl, (λ t. omega arith), refl)

pub expand-ctx-requires : goal.expand-ctx-requires
expand-ctx-requires c = key-size (c.key_taken.ensures.holds (not-false _ (ap not c.if-not-key_taken.false)))

pub repeat-requires : goal.repeat-requires
repeat-requires c =
    let a = c.args in
    let l : length a.block.now ≡ 16 = omega arith in
    let m : length a.out.now ≡ 16 = omega arith in
    record { ready = context-ready c.expand-ctx.ensures; out_len = ap length (copied a.block.now a.out.now _ l m c.copy.ensures) ∙ l }

pub returns : goal.returns
returns c =
    let a = c.args in
    let l : length a.block.now ≡ 16 = omega arith in
    let m : length a.out.now ≡ 16 = omega arith in
    inl (
      refl,
      record { keyed = c.key_taken.ensures.holds (not-false _ (ap not c.if-not-key_taken.false)); blocked = l; room = m },
      c.repeat.ensures
          ∙ repeat-of _ _ _ _ a.n (context-key c.expand-ctx.ensures) (copied a.block.now a.out.now _ l m c.copy.ensures),
    )

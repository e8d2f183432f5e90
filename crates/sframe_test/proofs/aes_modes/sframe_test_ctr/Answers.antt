-- SPDX-License-Identifier: MIT
-- `sframe_test::aes_modes::sframe_test_ctr` meets its contract: the tests leave what the functions below require, and a refusal changes nothing.
-- Assumes nothing.
use mathlib.Core.Path.{refl, sym}
use mathlib.Core.Logic.{inl, inr}
use native.Mathlib.Omega.{arith}
use lib.Seq.{length-take-le}
use borrow.Author.Tests.{not-true, not-false}
use Rattle.aes_keys.proofs.Keys16.{context-key, context-ready}
use Rattle.sframe_test.proofs.Steps.{key-size}
use borrow.Author.Rules.{rules}
use mathlib.Core.Bool.{not}
use mathlib.Core.Path.{ap}
use Rattle.sframe_test.proofs.aes_modes.sframe_test_ctr.Goals as goal

pub returns-then-not-key_taken : goal.returns-then-not-key_taken
returns-then-not-key_taken c = inr (refl, (λ t. c.key_taken.ensures.fails (not-true _ (ap not c.if-not-key_taken.true)) t.keyed), refl)

pub returns-then-nonce-ne-NN : goal.returns-then-nonce-ne-NN
returns-then-nonce-ne-NN c = inr (refl, (λ t. omega arith), refl)

pub returns-then-input-gt-MAX_BYTES : goal.returns-then-input-gt-MAX_BYTES
returns-then-input-gt-MAX_BYTES c = inr (refl, (λ t. omega arith), refl)

pub returns-then-count-gt-LAST_COUNT : goal.returns-then-count-gt-LAST_COUNT
returns-then-count-gt-LAST_COUNT c = inr (refl, (λ t. omega arith), refl)

pub returns-then-out-n : goal.returns-then-out-n
returns-then-out-n c = inr (refl, (λ t. omega arith), refl)

pub context-ctx-requires : goal.context-ctx-requires
context-ctx-requires c = key-size (c.key_taken.ensures.holds (not-false _ (ap not c.if-not-key_taken.false)))

pub slice_bounds-apply-end-2 : goal.slice_bounds-apply-end-2
slice_bounds-apply-end-2 c =
    sym (length-take-le _ c.args.out.now (omega arith))

pub apply-requires : goal.apply-requires
apply-requires c =
    record { ready = context-ready c.context-ctx.ensures; nonce_len = search rules; out_len = length-take-le _ c.args.out.now (omega arith); input_bound = omega arith }

pub returns : goal.returns
returns c =
    inl (refl, record { keyed = c.key_taken.ensures.holds (not-false _ (ap not c.if-not-key_taken.false)); nonced = omega arith; short = omega arith; counted = omega arith; room = omega arith }, rw (c.apply.ensures, context-key c.context-ctx.ensures))

-- SPDX-License-Identifier: MIT
-- `sframe_test::aes_modes::sframe_test_gcm_tag` meets its contract: the tests leave what the functions below require, and a refusal changes nothing.
-- Assumes nothing.
use mathlib.Core.Path.{refl, sym}
use mathlib.Core.Logic.{inl, inr}
use native.Mathlib.Omega.{arith}
use lib.Seq.{length-take-le}
use borrow.Author.Tests.{not-true, not-false}
use Rattle.aes_keys.proofs.Keys16.{context-key, context-ready}
use Rattle.sframe_test.proofs.Steps.{key-size}
use mathlib.Core.Bool.{not}
use mathlib.Core.Path.{ap}
use Rattle.sframe_test.proofs.aes_modes.sframe_test_gcm_tag.Goals as goal

pub returns-then-not-key_taken : goal.returns-then-not-key_taken
returns-then-not-key_taken c = inr (refl, (λ t. c.key_taken.ensures.fails (not-true _ (ap not c.if-not-key_taken.true)) t.keyed), refl)

pub returns-then-not-parts_taken : goal.returns-then-not-parts_taken
returns-then-not-parts_taken c = inr (refl, (λ t. c.parts_taken.ensures.fails (not-true _ (ap not c.if-not-parts_taken.true)) t.parts), refl)

pub returns-then-out-lt16 : goal.returns-then-out-lt16
returns-then-out-lt16 c = inr (refl, (λ t. omega arith), refl)

pub context-ctx-requires : goal.context-ctx-requires
context-ctx-requires c = key-size (c.key_taken.ensures.holds (not-false _ (ap not c.if-not-key_taken.false)))

pub slice_bounds-gcm_tag-end-2 : goal.slice_bounds-gcm_tag-end-2
slice_bounds-gcm_tag-end-2 c =
    sym (length-take-le _ c.args.out.now (omega arith))

pub gcm_tag-requires : goal.gcm_tag-requires
gcm_tag-requires c =
    let p = c.parts_taken.ensures.holds (not-false _ (ap not c.if-not-parts_taken.false)) in
    record { ready = (context-ready c.context-ctx.ensures, p.nonced); header_len_bound = (p.headed, p.told, p.short); out_len = length-take-le _ c.args.out.now (omega arith) }

pub returns : goal.returns
returns c =
    inl (refl, record { keyed = c.key_taken.ensures.holds (not-false _ (ap not c.if-not-key_taken.false)); parts = c.parts_taken.ensures.holds (not-false _ (ap not c.if-not-parts_taken.false)); room = omega arith }, rw (c.gcm_tag.ensures, context-key c.context-ctx.ensures))

-- SPDX-License-Identifier: MIT
-- `sframe_test::cipher_suites::encrypt_known` meets its contract: the tests leave what encryption requires, and a refusal changes nothing.
-- Assumes nothing.
use mathlib.Core.Path.{refl}
use mathlib.Core.Logic.{inl, inr}
use native.Mathlib.Omega.{arith}
use borrow.Author.Tests.{not-true, not-false}
use mathlib.Core.Bool.{not}
use mathlib.Core.Path.{ap}
use Rattle.sframe_test.proofs.cipher_suites.encrypt_known.Goals as goal

pub returns-then-key-key_size : goal.returns-then-key-key_size
returns-then-key-key_size c = inr (refl, (λ t. omega arith), refl)

pub returns-then-not-parts_taken : goal.returns-then-not-parts_taken
returns-then-not-parts_taken c = inr (refl, (λ t. c.parts_taken.ensures.fails (not-true _ (ap not c.if-not-parts_taken.true)) t.parts), refl)

pub returns-then-out-nt : goal.returns-then-out-nt
returns-then-out-nt c = inr (refl, (λ t. omega arith), refl)

pub returns-then-out-nt-2 : goal.returns-then-out-nt-2
returns-then-out-nt-2 c = inr (refl, (λ t. omega arith), refl)

pub encrypt-requires : goal.encrypt-requires
encrypt-requires c =
    let p = c.parts_taken.ensures.holds (not-false _ (ap not c.if-not-parts_taken.false)) in
    record { key_len = (omega arith, p.nonced); header_len_bound = (p.headed, p.told, p.short); out_len = omega arith }

pub returns : goal.returns
returns c =
    inl (refl, record { keyed = omega arith; parts = c.parts_taken.ensures.holds (not-false _ (ap not c.if-not-parts_taken.false)); room = omega arith }, c.encrypt.ensures)

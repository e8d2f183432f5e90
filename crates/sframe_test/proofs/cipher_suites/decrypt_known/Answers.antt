-- SPDX-License-Identifier: MIT
-- `sframe_test::cipher_suites::decrypt_known` meets its contract: the tests leave what decryption requires, and a refusal changes nothing.
-- Assumes nothing.
use mathlib.Core.Path.{refl, sym, ◌∙◌, ap}
use mathlib.Core.Bool.{Bool}
use Prim.Native.Nat.{ℕ}
use Rattle.octets.specs.Octets.{pick}
use mathlib.Core.Logic.{inl, inr}
use native.Mathlib.Omega.{arith}
use borrow.Author.Tests.{not-true, not-false}
use mathlib.Core.Bool.{not}
use Rattle.sframe_test.proofs.cipher_suites.decrypt_known.Goals as goal

pub returns-then-key-key_size : goal.returns-then-key-key_size
returns-then-key-key_size c = inr (refl, (λ t. omega arith), refl)

pub returns-then-not-parts_taken : goal.returns-then-not-parts_taken
returns-then-not-parts_taken c = inr (refl, (λ t. c.parts_taken.ensures.fails (not-true _ (ap not c.if-not-parts_taken.true)) t.parts), refl)

pub returns-then-sealed-nt : goal.returns-then-sealed-nt
returns-then-sealed-nt c = inr (refl, (λ t. omega arith), refl)

pub returns-then-out-sealed : goal.returns-then-out-sealed
returns-then-out-sealed c = inr (refl, (λ t. omega arith), refl)

pub decrypt-requires : goal.decrypt-requires
decrypt-requires c =
    let p = c.parts_taken.ensures.holds (not-false _ (ap not c.if-not-parts_taken.false)) in
    record { key_len = (omega arith, p.nonced); header_len_bound = (p.headed, p.told, p.short); suite_in_bounds = (omega arith, omega arith) }

pub returns-then-decrypt : goal.returns-then-decrypt
returns-then-decrypt c =
    let d = c.decrypt.ensures in
    inl (ap (λ (b : Bool). pick {A = ℕ} b 0 13) (sym c.if-decrypt.true ∙ d.value), record { keyed = omega arith; parts = c.parts_taken.ensures.holds (not-false _ (ap not c.if-not-parts_taken.false)); tagged = omega arith; room = omega arith }, d.out_after)

pub returns-else-decrypt : goal.returns-else-decrypt
returns-else-decrypt c =
    let d = c.decrypt.ensures in
    inl (ap (λ (b : Bool). pick {A = ℕ} b 0 13) (sym c.if-decrypt.false ∙ d.value), record { keyed = omega arith; parts = c.parts_taken.ensures.holds (not-false _ (ap not c.if-not-parts_taken.false)); tagged = omega arith; room = omega arith }, d.out_after)

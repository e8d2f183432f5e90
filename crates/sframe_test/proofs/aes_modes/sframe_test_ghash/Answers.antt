-- SPDX-License-Identifier: MIT
-- `sframe_test::aes_modes::sframe_test_ghash` meets its contract: the tests leave what the functions below require, and a refusal changes nothing.
-- Assumes nothing.
use mathlib.Core.Path.{refl}
use mathlib.Core.Logic.{inl, inr}
use native.Mathlib.Omega.{arith}
use mathlib.Core.List.{append-nil}
use Rattle.ghash.proofs.Laws.{hash-key-of, hash-key-ready}
use Rattle.sframe_test.proofs.aes_modes.sframe_test_ghash.Goals as goal

pub returns-then-key-ne16 : goal.returns-then-key-ne16
returns-then-key-ne16 c = inr (refl, (λ t. omega arith), refl)

pub returns-then-input-gt-MAX_BYTES : goal.returns-then-input-gt-MAX_BYTES
returns-then-input-gt-MAX_BYTES c = inr (refl, (λ t. omega arith), refl)

pub returns-then-out-lt16 : goal.returns-then-out-lt16
returns-then-out-lt16 c = inr (refl, (λ t. omega arith), refl)

pub absorb-y-requires : goal.absorb-y-requires
absorb-y-requires c = record { hash_key = hash-key-ready c.expand-t.ensures; b_len_bound = omega arith }

pub returns : goal.returns
returns c =
    inl (
      refl,
      record { keyed = omega arith; short = omega arith; room = omega arith },
      rw (
        c.store.ensures,
        c.absorb-y.ensures,
        hash-key-of c.expand-t.ensures,
        c.load.ensures,
        append-nil c.args.input.now,
      ),
    )

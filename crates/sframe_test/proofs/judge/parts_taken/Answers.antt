-- SPDX-License-Identifier: MIT
-- `sframe_test::judge::parts_taken` meets its contract: each test decides one of the bounds.
-- Assumes nothing.
use mathlib.Core.Path.{sym}
use mathlib.Core.Bool.{false≢true}
use native.Mathlib.Omega.{arith}
use Rattle.sframe_test.proofs.judge.parts_taken.Goals as goal

pub returns-then-nonce-ne-NN : goal.returns-then-nonce-ne-NN
returns-then-nonce-ne-NN c = record { holds = λ e. absurd (false≢true e); fails = λ e k. omega arith }

pub returns-then-header-gt-MAX_BYTES : goal.returns-then-header-gt-MAX_BYTES
returns-then-header-gt-MAX_BYTES c = record { holds = λ e. absurd (false≢true e); fails = λ e k. omega arith }

pub returns-then-metadata-gt-MAX_BYTES : goal.returns-then-metadata-gt-MAX_BYTES
returns-then-metadata-gt-MAX_BYTES c = record { holds = λ e. absurd (false≢true e); fails = λ e k. omega arith }

pub returns-then-text-gt-MAX_BYTES : goal.returns-then-text-gt-MAX_BYTES
returns-then-text-gt-MAX_BYTES c = record { holds = λ e. absurd (false≢true e); fails = λ e k. omega arith }

pub returns : goal.returns
returns c = record { holds = λ e. record { nonced = omega arith; headed = omega arith; told = omega arith; short = omega arith }; fails = λ e. absurd (false≢true (sym e)) }

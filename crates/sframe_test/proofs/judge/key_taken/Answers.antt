-- SPDX-License-Identifier: MIT
-- `sframe_test::judge::key_taken` meets its contract: each test decides one of the bounds.
-- Assumes nothing.
use mathlib.Core.Path.{sym}
use mathlib.Core.Bool.{false≢true}
use native.Mathlib.Omega.{arith}
use Rattle.sframe_test.proofs.judge.key_taken.Goals as goal

pub returns-then-key-ne0 : goal.returns-then-key-ne0
returns-then-key-ne0 c = record { holds = λ e. absurd (false≢true e); fails = λ e k. omega arith }

pub returns-then-key-lt16 : goal.returns-then-key-lt16
returns-then-key-lt16 c = record { holds = λ e. absurd (false≢true e); fails = λ e k. omega arith }

pub returns-then-key-gt32 : goal.returns-then-key-gt32
returns-then-key-gt32 c = record { holds = λ e. absurd (false≢true e); fails = λ e k. omega arith }

pub returns : goal.returns
returns c = record { holds = λ e. record { whole = omega arith; least = omega arith; most = omega arith }; fails = λ e. absurd (false≢true (sym e)) }

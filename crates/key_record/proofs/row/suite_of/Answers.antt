-- SPDX-License-Identifier: MIT
use native.Mathlib.Omega.{arith}
use Rattle.key_record.specs.Layout.{suite_at}
use Rattle.key_record.proofs.Fields.{suite-never, suite-told}
use Rattle.key_record.proofs.row.suite_of.Goals as goal

pub overflow_cast-row : goal.overflow_cast-row
overflow_cast-row c = omega (arith, c.shared_slice_known-1.given suite_at)

pub returns-in_default : goal.returns-in_default
returns-in_default c =
    absurd (suite-never c.args.row.now (λ j. omega (arith, c.shared_slice_known-1.given j)) c.requires.0 _ c.requires.1 c.find.ensures c.in_default.is)

pub returns : goal.returns
returns c =
    suite-told c.args.row.now (λ j. omega (arith, c.shared_slice_known-1.given j)) c.requires.0 _ _ c.requires.1 c.find.ensures c.in-Some.is

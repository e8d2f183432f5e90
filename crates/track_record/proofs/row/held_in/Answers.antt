-- SPDX-License-Identifier: MIT
use Rattle.track_record.proofs.Steps.{held_low, held_high, held-long, held-unsuited, held-track}
use Rattle.track_record.specs.Layout.{suite_at}
use mathlib.Core.Path.{◌∙◌}
use native.Mathlib.Omega.{arith}
use Rattle.track_record.proofs.row.held_in.Goals as goal

pub returns-then-mark-lt-SENDER : goal.returns-then-mark-lt-SENDER
returns-then-mark-lt-SENDER c = held_low c.args.row.now c.if-mark-lt-SENDER.true

pub returns-then-mark-gt-RETIRED : goal.returns-then-mark-gt-RETIRED
returns-then-mark-gt-RETIRED c =
    held_high c.args.row.now c.if-mark-lt-SENDER.false c.if-mark-gt-RETIRED.true

pub returns-then-read_be : goal.returns-then-read_be
returns-then-read_be c =
    held-long c.args.row.now _ c.read_be.ensures.0 c.if-read_be.true

pub overflow_cast-row : goal.overflow_cast-row
overflow_cast-row c =
    omega (arith, c.shared_slice_known-1.given suite_at)

pub returns-in_err-suite : goal.returns-in_err-suite
returns-in_err-suite c =
    c.from_residual.ensures ∙ held-unsuited c.args.row.now _ c.find.ensures c.in_err-suite.was

pub returns : goal.returns
returns c =
    held-track c.args.row.now _ _ _ _ c.if-mark-lt-SENDER.false c.if-mark-gt-RETIRED.false c.read_be.ensures.0 c.if-read_be.false c.find.ensures c.in_ok-suite.was c.kind_of.ensures

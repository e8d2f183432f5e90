-- SPDX-License-Identifier: MIT
use Rattle.answers.proofs.Basics.{told-false, told-true}
use Rattle.key_record.proofs.Judge.{fields-suite, fields-version, fields-counter, fields-window}
use mathlib.Core.Bool.{not}
use mathlib.Core.Path.{ap}
use Rattle.key_record.proofs.judging.fields_fit.Goals as goal

pub returns-then-not-is_suite : goal.returns-then-not-is_suite
returns-then-not-is_suite c =
    fields-suite c.args.row.now (told-false _ _ c.is_suite.ensures (ap not c.if-not-is_suite.true))

pub returns-then-row-ne-LAYOUT_VERSION : goal.returns-then-row-ne-LAYOUT_VERSION
returns-then-row-ne-LAYOUT_VERSION c =
    fields-version c.args.row.now (told-true _ _ c.is_suite.ensures (ap not c.if-not-is_suite.false)) c.if-row-ne-LAYOUT_VERSION.true

pub returns-then-not-counter_fits : goal.returns-then-not-counter_fits
returns-then-not-counter_fits c =
    fields-counter c.args.row.now (told-true _ _ c.is_suite.ensures (ap not c.if-not-is_suite.false)) c.if-row-ne-LAYOUT_VERSION.false _ _ c.read_be64.ensures c.counter_fits.ensures (ap not c.if-not-counter_fits.true)

pub returns : goal.returns
returns c =
    fields-window c.args.row.now (told-true _ _ c.is_suite.ensures (ap not c.if-not-is_suite.false)) c.if-row-ne-LAYOUT_VERSION.false _ _ c.read_be64.ensures c.counter_fits.ensures (ap not c.if-not-counter_fits.false) _ c.window_fits.ensures

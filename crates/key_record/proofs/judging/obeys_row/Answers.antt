-- SPDX-License-Identifier: MIT
use mathlib.Core.Path.{◌≡◌}
use mathlib.Core.Bool.{true}
use native.Mathlib.Omega.{arith}
use lib.ListN.{get_or}
use Rattle.answers.proofs.Basics.{told-false, told-true}
use Rattle.key_record.specs.Inner.Judging.{holding_mark, fields_fit}
use Rattle.key_record.specs.Layout.{mark_at}
use Rattle.key_record.proofs.Judge.{suite-fits}
use Rattle.key_record.proofs.Rows.{judged-empty, judged-unknown, judged-fields, judged-wiped, judged-key}
use mathlib.Core.Bool.{not}
use mathlib.Core.Path.{ap}
use Rattle.key_record.proofs.judging.obeys_row.Goals as goal

pub returns-then-row-eq-EMPTY : goal.returns-then-row-eq-EMPTY
returns-then-row-eq-EMPTY c =
    judged-empty c.args.row.now (λ i. omega (arith, c.shared_slice_known-1.given i)) c.requires _ c.if-row-eq-EMPTY.true c.is_zero.ensures

pub returns-then-not-is_held : goal.returns-then-not-is_held
returns-then-not-is_held c =
    judged-unknown c.args.row.now (λ i. omega (arith, c.shared_slice_known-1.given i)) c.requires c.if-row-eq-EMPTY.false (told-false _ _ c.is_held.ensures (ap not c.if-not-is_held.true))

pub returns-then-not-fields_fit : goal.returns-then-not-fields_fit
returns-then-not-fields_fit c =
    judged-fields c.args.row.now (λ i. omega (arith, c.shared_slice_known-1.given i)) c.requires (told-true _ _ c.is_held.ensures (ap not c.if-not-is_held.false)) (told-false _ _ c.fields_fit.ensures (ap not c.if-not-fields_fit.true))

pub returns-then-row-eq-RETIRED : goal.returns-then-row-eq-RETIRED
returns-then-row-eq-RETIRED c =
    let held : holding_mark (get_or c.args.row.now mark_at 0) ≡ true = told-true _ _ c.is_held.ensures (ap not c.if-not-is_held.false) in
    let fitting : fields_fit c.args.row.now ≡ true = told-true _ _ c.fields_fit.ensures (ap not c.if-not-fields_fit.false) in
    judged-wiped c.args.row.now (λ i. omega (arith, c.shared_slice_known-1.given i)) c.requires _ (held) (fitting) c.if-row-eq-RETIRED.true c.is_wiped.ensures

pub key_ends-requires : goal.key_ends-requires
key_ends-requires c =
    let fitting : fields_fit c.args.row.now ≡ true = told-true _ _ c.fields_fit.ensures (ap not c.if-not-fields_fit.false) in
    (c.requires, suite-fits c.args.row.now (fitting))

pub returns : goal.returns
returns c =
    let held : holding_mark (get_or c.args.row.now mark_at 0) ≡ true = told-true _ _ c.is_held.ensures (ap not c.if-not-is_held.false) in
    let fitting : fields_fit c.args.row.now ≡ true = told-true _ _ c.fields_fit.ensures (ap not c.if-not-fields_fit.false) in
    judged-key c.args.row.now (λ i. omega (arith, c.shared_slice_known-1.given i)) c.requires _ (held) (fitting) c.if-row-eq-RETIRED.false c.key_ends.ensures

-- SPDX-License-Identifier: MIT
use mathlib.Core.Path.{◌≡◌, ◌∙◌}
use mathlib.Core.Bool.{true}
use native.Mathlib.Omega.{arith}
use Rattle.answers.proofs.Basics.{told-true}
use Rattle.answers.proofs.Refusals.{given, missing, missing-number, nothing-written}
use Rattle.store.specs.Store.{sound}
use Rattle.store.proofs.Places.{tested-sound, found_within}
use Rattle.report_window.proofs.Steps.{report-unsound, report-missing, report-refused, report-counted}
use mathlib.Core.Bool.{not}
use mathlib.Core.Path.{ap}
use Rattle.report_window.proofs.report.Goals as goal

pub returns-then-not-is_sound : goal.returns-then-not-is_sound
returns-then-not-is_sound c =
    let q = report-unsound c.args.store.now _ _ c.is_sound.ensures (ap not c.if-not-is_sound.true) in q

pub find-requires : goal.find-requires
find-requires c = tested-sound c.args.store.now (λ j. omega (arith, c.shared_slice_known-1.given j)) _ c.is_sound.ensures (ap not c.if-not-is_sound.false)

pub returns-in_err-i : goal.returns-in_err-i
returns-in_err-i c =
    let store-sound : sound c.args.store.now ≡ true = tested-sound c.args.store.now (λ j. omega (arith, c.shared_slice_known-1.given j)) _ c.is_sound.ensures (ap not c.if-not-is_sound.false) in
    let q = report-missing c.args.store.now _ (store-sound) _ c.find.ensures (missing _ _ _ c.ok_or.ensures.value _ c.in_err-i.was) in (missing-number _ _ _ c.ok_or.ensures.value c.from_residual.result _ c.in_err-i.was c.from_residual.ensures.1 ∙ q.0, nothing-written c.from_residual.result _ c.from_residual.ensures.1 ∙ q.1)

pub row_at-row-requires : goal.row_at-row-requires
row_at-row-requires c =
    let store-sound : sound c.args.store.now ≡ true = tested-sound c.args.store.now (λ j. omega (arith, c.shared_slice_known-1.given j)) _ c.is_sound.ensures (ap not c.if-not-is_sound.false) in
    found_within c.args.store.now _ _ _ (store-sound) c.find.ensures (given _ _ _ c.ok_or.ensures.value _ c.in_ok-i.was)

pub is_receiving-requires : goal.is_receiving-requires
is_receiving-requires c = c.row_at-row.ensures.0.0

pub returns-then-not-is_receiving : goal.returns-then-not-is_receiving
returns-then-not-is_receiving c =
    let store-sound : sound c.args.store.now ≡ true = tested-sound c.args.store.now (λ j. omega (arith, c.shared_slice_known-1.given j)) _ c.is_sound.ensures (ap not c.if-not-is_sound.false) in
    let q = report-refused c.args.store.now _ (store-sound) _ c.find.ensures _ (given _ _ _ c.ok_or.ensures.value _ c.in_ok-i.was) _ c.row_at-row.ensures _ c.is_receiving.ensures (ap not c.if-not-is_receiving.true) in q

pub window_of-requires : goal.window_of-requires
window_of-requires c = (c.row_at-row.ensures.0.0, told-true _ _ c.is_receiving.ensures (ap not c.if-not-is_receiving.false))

pub returns : goal.returns
returns c =
    let store-sound : sound c.args.store.now ≡ true = tested-sound c.args.store.now (λ j. omega (arith, c.shared_slice_known-1.given j)) _ c.is_sound.ensures (ap not c.if-not-is_sound.false) in
    report-counted c.args.store.now _ (store-sound) _ c.find.ensures _ (given _ _ _ c.ok_or.ensures.value _ c.in_ok-i.was) _ c.row_at-row.ensures _ c.is_receiving.ensures (ap not c.if-not-is_receiving.false) _ _ c.window_of.ensures c.count-count.ensures

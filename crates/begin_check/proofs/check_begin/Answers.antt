-- SPDX-License-Identifier: MIT
use Rattle.answers.proofs.Refusals.{missing-number}
use mathlib.Core.Path.{◌≡◌, sym, ◌∙◌}
use mathlib.Core.Bool.{true}
use native.Mathlib.Omega.{arith}
use Rattle.header.proofs.Laws.{header_read}
use Rattle.store.specs.Store.{sound}
use Rattle.store.proofs.Places.{tested-sound, found_within}
use Rattle.begin_check.proofs.CheckSteps.{check-unsound, check-invalid, check-missing, held-there, check-told}
use mathlib.Core.Bool.{not}
use mathlib.Core.Path.{ap}
use Rattle.begin_check.proofs.check_begin.Goals as goal

pub returns-then-not-is_sound : goal.returns-then-not-is_sound
returns-then-not-is_sound c =
    let a = c.args in
    let answered = check-unsound a.store.now a.metadata.now a.bytes.now a.announced a.state.now _ c.is_sound.ensures (ap not c.if-not-is_sound.true) in record { value = answered.0; state_after = answered.1 }

pub returns-in_err-head : goal.returns-in_err-head
returns-in_err-head c =
    let a = c.args in
    let answered = check-invalid a.store.now a.metadata.now a.bytes.now a.announced a.state.now _ c.is_sound.ensures (ap not c.if-not-is_sound.false) (sym c.read_header.ensures ∙ c.in_err-head.ensures.ok_part) in record { value = missing-number c.ok_or.result c.read_header.result _ c.ok_or.ensures.value _ _ c.in_err-head.was c.from_residual.ensures.1 ∙ answered.0; state_after = answered.1 }

pub find_near-requires : goal.find_near-requires
find_near-requires c =
    let store-sound : sound c.args.store.now ≡ true = tested-sound c.args.store.now (λ j. omega (arith, c.shared_slice_known-1.given j)) _ c.is_sound.ensures (ap not c.if-not-is_sound.false) in
    store-sound

pub returns-in_err-i : goal.returns-in_err-i
returns-in_err-i c =
    let store-sound : sound c.args.store.now ≡ true = tested-sound c.args.store.now (λ j. omega (arith, c.shared_slice_known-1.given j)) _ c.is_sound.ensures (ap not c.if-not-is_sound.false) in
    let a = c.args in
    let answered = check-missing a.store.now a.metadata.now a.bytes.now a.announced a.state.now _ _ _ (store-sound) (sym c.read_header.ensures ∙ c.in_ok-head.ensures.ok_part) _ c.find_near.ensures c.in_err-i.ensures.ok_part in record { value = missing-number c.ok_or-2.result c.find_near.result _ c.ok_or-2.ensures.value _ _ c.in_err-i.was c.from_residual-in_err-i.ensures.1 ∙ answered.0; state_after = answered.1 }

pub row_at-requires : goal.row_at-requires
row_at-requires c =
    let store-sound : sound c.args.store.now ≡ true = tested-sound c.args.store.now (λ j. omega (arith, c.shared_slice_known-1.given j)) _ c.is_sound.ensures (ap not c.if-not-is_sound.false) in
    found_within c.args.store.now _ _ _ (store-sound) c.find_near.ensures c.in_ok-i.ensures.ok_part

pub begin_with-requires : goal.begin_with-requires
begin_with-requires c =
    let store-sound : sound c.args.store.now ≡ true = tested-sound c.args.store.now (λ j. omega (arith, c.shared_slice_known-1.given j)) _ c.is_sound.ensures (ap not c.if-not-is_sound.false) in
    let a = c.args in
    let reads = sym c.read_header.ensures ∙ c.in_ok-head.ensures.ok_part in
    let h = header_read a.bytes.now _ _ _ (λ j. omega (arith, c.shared_slice_known-2-1.given j)) reads in
    (c.row_at.ensures.0, held-there a.store.now a.metadata.now a.bytes.now a.announced a.state.now _ _ _ (store-sound) reads _ c.find_near.ensures _ c.in_ok-i.ensures.ok_part _ c.row_at.ensures, h.most, h.inside)

pub returns : goal.returns
returns c =
    let store-sound : sound c.args.store.now ≡ true = tested-sound c.args.store.now (λ j. omega (arith, c.shared_slice_known-1.given j)) _ c.is_sound.ensures (ap not c.if-not-is_sound.false) in
    let a = c.args in
    let reads = sym c.read_header.ensures ∙ c.in_ok-head.ensures.ok_part in
    let answered = check-told a.store.now a.metadata.now a.bytes.now a.announced a.state.now _ _ _ (store-sound) reads _ c.find_near.ensures _ c.in_ok-i.ensures.ok_part _ c.row_at.ensures _ _ (c.begin_with.ensures.value, c.begin_with.ensures.state_after) in record { value = answered.0; state_after = answered.1 }

-- SPDX-License-Identifier: MIT
use mathlib.Core.Path.{◌∙◌, ap}
use native.Mathlib.Omega.{arith}
use Rattle.key_record.specs.Inner.Rows.{kind_of}
use Rattle.store.proofs.Places.{tested-sound, found_within}
use Rattle.store_calls.proofs.Removal.{remove-unsound, remove-missing, remove-empty, remove-retired, remove-receiving, sender-sends, remove-sending}
use mathlib.Core.Bool.{not}
use Rattle.store_calls.proofs.remove.Goals as goal

pub returns-then-not-is_sound : goal.returns-then-not-is_sound
returns-then-not-is_sound c =
    let answered = remove-unsound c.args.store.now _ _ c.is_sound.ensures (ap not c.if-not-is_sound.true) in record { value = answered.0; store_after = answered.1 }

pub find_near-requires : goal.find_near-requires
find_near-requires c =
    tested-sound c.args.store.now (λ j. omega (arith, c.slice_known-1.given j)) _ c.is_sound.ensures (ap not c.if-not-is_sound.false)

pub returns-in_default : goal.returns-in_default
returns-in_default c =
    let answered = remove-missing c.args.store.now _ (tested-sound c.args.store.now (λ j. omega (arith, c.slice_known-1.given j)) _ c.is_sound.ensures (ap not c.if-not-is_sound.false)) _ c.find_near.ensures c.in_default.is in record { value = answered.0; store_after = answered.1 }

pub row_at-requires : goal.row_at-requires
row_at-requires c =
    found_within c.args.store.now _ _ _ (tested-sound c.args.store.now (λ j. omega (arith, c.slice_known-1.given j)) _ c.is_sound.ensures (ap not c.if-not-is_sound.false)) c.find_near.ensures c.in-Some.is

pub kind_of-kind-requires : goal.kind_of-kind-requires
kind_of-kind-requires c = c.row_at.ensures.0.0

pub retire_at-requires : goal.retire_at-requires
retire_at-requires c = (
  found_within c.args.store.now _ _ _ (tested-sound c.args.store.now (λ j. omega (arith, c.slice_known-1.given j)) _ c.is_sound.ensures (ap not c.if-not-is_sound.false)) c.find_near.ensures c.in-Some.is,
  sender-sends c.args.store.now _ (tested-sound c.args.store.now (λ j. omega (arith, c.slice_known-1.given j)) _ c.is_sound.ensures (ap not c.if-not-is_sound.false)) (λ j. omega (arith, c.slice_known-1.given j)) _ c.find_near.ensures _ c.in-Some.is _ (c.kind_of-kind.ensures ∙ ap kind_of c.row_at.ensures.1) c.in-Sender.is,
)

pub close_at-requires : goal.close_at-requires
close_at-requires c =
    found_within c.args.store.now _ _ _ (tested-sound c.args.store.now (λ j. omega (arith, c.slice_known-1.given j)) _ c.is_sound.ensures (ap not c.if-not-is_sound.false)) c.find_near.ensures c.in-Some.is

pub returns-in-Sender : goal.returns-in-Sender
returns-in-Sender c =
    let answered = remove-sending c.args.store.now _ (tested-sound c.args.store.now (λ j. omega (arith, c.slice_known-1.given j)) _ c.is_sound.ensures (ap not c.if-not-is_sound.false)) (λ j. omega (arith, c.slice_known-1.given j)) _ c.find_near.ensures _ c.in-Some.is _ (c.kind_of-kind.ensures ∙ ap kind_of c.row_at.ensures.1) _ c.in-Sender.is c.retire_at.ensures in record { value = answered.0; store_after = answered.1 }

pub returns-in-Receiver : goal.returns-in-Receiver
returns-in-Receiver c =
    let answered = remove-receiving c.args.store.now _ (tested-sound c.args.store.now (λ j. omega (arith, c.slice_known-1.given j)) _ c.is_sound.ensures (ap not c.if-not-is_sound.false)) (λ j. omega (arith, c.slice_known-1.given j)) _ c.find_near.ensures _ c.in-Some.is _ (c.kind_of-kind.ensures ∙ ap kind_of c.row_at.ensures.1) _ c.in-Receiver.is c.close_at.ensures in record { value = answered.0; store_after = answered.1 }

pub returns-in-Retired : goal.returns-in-Retired
returns-in-Retired c =
    let answered = remove-retired c.args.store.now _ (tested-sound c.args.store.now (λ j. omega (arith, c.slice_known-1.given j)) _ c.is_sound.ensures (ap not c.if-not-is_sound.false)) (λ j. omega (arith, c.slice_known-1.given j)) _ c.find_near.ensures _ c.in-Some.is _ (c.kind_of-kind.ensures ∙ ap kind_of c.row_at.ensures.1) c.in-Retired.is in record { value = answered.0; store_after = answered.1 }

pub returns-in-Empty : goal.returns-in-Empty
returns-in-Empty c =
    absurd (remove-empty c.args.store.now _ (tested-sound c.args.store.now (λ j. omega (arith, c.slice_known-1.given j)) _ c.is_sound.ensures (ap not c.if-not-is_sound.false)) (λ j. omega (arith, c.slice_known-1.given j)) _ c.find_near.ensures _ c.in-Some.is _ (c.kind_of-kind.ensures ∙ ap kind_of c.row_at.ensures.1) c.in-Empty.is)

-- SPDX-License-Identifier: MIT
use mathlib.Core.Path.{◌≡◌, sym, ◌∙◌}
use mathlib.Core.Bool.{true}
use native.Mathlib.Omega.{arith}
use Rattle.octets.specs.Octets.{Octets}
use Rattle.header.proofs.Laws.{header_read}
use Rattle.answers.proofs.Refusals.{refused-some, done-number, all-written}
use Rattle.store.specs.Store.{sound}
use Rattle.store.proofs.Places.{tested-sound, found_within}
use Rattle.judge_open.proofs.Steps.{open-unsound, open-invalid, open-missing, held-there, open-refused, open-clear, open_done}
use mathlib.Core.Bool.{not}
use mathlib.Core.Path.{ap}
use Rattle.open_frame.proofs.open.Goals as goal

pub returns-then-not-is_sound : goal.returns-then-not-is_sound
returns-then-not-is_sound c =
    let q = open-unsound c.args.store.now c.args.metadata.now c.args.frame.now c.args.room.now _ c.is_sound.ensures (ap not c.if-not-is_sound.true) in record { number_value = q.0; store_after = q.1.0; room_after = q.1.1 }

pub returns-in_default : goal.returns-in_default
returns-in_default c =
    let q = open-invalid c.args.store.now c.args.metadata.now c.args.frame.now c.args.room.now _ c.is_sound.ensures (ap not c.if-not-is_sound.false) (sym c.read_header.ensures ∙ c.in_default.is) in record { number_value = q.0; store_after = q.1.0; room_after = q.1.1 }

pub find_near-requires : goal.find_near-requires
find_near-requires c =
    let store-octets : Octets c.args.store.now = λ j. omega (arith, c.slice_known-1.given j) in
    tested-sound c.args.store.now (store-octets) _ c.is_sound.ensures (ap not c.if-not-is_sound.false)

pub returns-in_default-find_near : goal.returns-in_default-find_near
returns-in_default-find_near c =
    let store-octets : Octets c.args.store.now = λ j. omega (arith, c.slice_known-1.given j) in
    let store-sound : sound c.args.store.now ≡ true = tested-sound c.args.store.now (store-octets) _ c.is_sound.ensures (ap not c.if-not-is_sound.false) in
    let q = open-missing c.args.store.now c.args.metadata.now c.args.frame.now c.args.room.now _ _ _ (store-sound) (sym c.read_header.ensures ∙ c.in-Some.is) _ c.find_near.ensures c.in_default-find_near.is in record { number_value = q.0; store_after = q.1.0; room_after = q.1.1 }

pub row_at-requires : goal.row_at-requires
row_at-requires c =
    let store-octets : Octets c.args.store.now = λ j. omega (arith, c.slice_known-1.given j) in
    let store-sound : sound c.args.store.now ≡ true = tested-sound c.args.store.now (store-octets) _ c.is_sound.ensures (ap not c.if-not-is_sound.false) in
    found_within c.args.store.now _ _ _ (store-sound) c.find_near.ensures c.in-Some-find_near.is

pub open_with-opened-requires : goal.open_with-opened-requires
open_with-opened-requires c =
    let store-octets : Octets c.args.store.now = λ j. omega (arith, c.slice_known-1.given j) in
    let store-sound : sound c.args.store.now ≡ true = tested-sound c.args.store.now (store-octets) _ c.is_sound.ensures (ap not c.if-not-is_sound.false) in
    let reads = sym c.read_header.ensures ∙ c.in-Some.is in
    let h = header_read c.args.frame.now _ _ _ (λ j. omega (arith, c.shared_slice_known-1.given j)) reads in
    (c.row_at.ensures.0, held-there c.args.store.now c.args.metadata.now c.args.frame.now c.args.room.now _ _ _ (store-sound) reads _ c.find_near.ensures _ c.in-Some-find_near.is _ c.row_at.ensures, h.most, h.inside)

pub returns-in_default-opened : goal.returns-in_default-opened
returns-in_default-opened c =
    let store-octets : Octets c.args.store.now = λ j. omega (arith, c.slice_known-1.given j) in
    let store-sound : sound c.args.store.now ≡ true = tested-sound c.args.store.now (store-octets) _ c.is_sound.ensures (ap not c.if-not-is_sound.false) in
    let reads = sym c.read_header.ensures ∙ c.in-Some.is in
    let answered = open-refused c.args.store.now c.args.metadata.now c.args.frame.now c.args.room.now _ _ _ (store-sound) reads _ c.find_near.ensures _ c.in-Some-find_near.is _ c.row_at.ensures _ _ _ c.open_with-opened.ensures.number_value c.open_with-opened.ensures.room_after (refused-some _ _ c.in_default-opened.is) in record { number_value = answered.0; store_after = answered.1.0; room_after = answered.1.1 }

pub note_at-requires : goal.note_at-requires
note_at-requires c =
    let store-octets : Octets c.args.store.now = λ j. omega (arith, c.slice_known-1.given j) in
    let store-sound : sound c.args.store.now ≡ true = tested-sound c.args.store.now (store-octets) _ c.is_sound.ensures (ap not c.if-not-is_sound.false) in
    let reads = sym c.read_header.ensures ∙ c.in-Some.is in
    let q = open-clear c.args.store.now c.args.metadata.now c.args.frame.now c.args.room.now _ _ _ (store-sound) reads _ c.find_near.ensures _ c.in-Some-find_near.is _ c.row_at.ensures _ _ _ c.open_with-opened.ensures.number_value c.open_with-opened.ensures.room_after (done-number _ _ c.in-Ok.is) in
    (found_within c.args.store.now _ _ _ (store-sound) c.find_near.ensures c.in-Some-find_near.is, q.0, q.1, q.2)

pub returns : goal.returns
returns c =
    let store-octets : Octets c.args.store.now = λ j. omega (arith, c.slice_known-1.given j) in
    let store-sound : sound c.args.store.now ≡ true = tested-sound c.args.store.now (store-octets) _ c.is_sound.ensures (ap not c.if-not-is_sound.false) in
    let reads = sym c.read_header.ensures ∙ c.in-Some.is in
    let answered = open_done c.args.store.now c.args.metadata.now c.args.frame.now c.args.room.now _ _ _ (store-sound) reads _ c.find_near.ensures _ c.in-Some-find_near.is _ c.row_at.ensures _ _ _ c.open_with-opened.ensures.number_value c.open_with-opened.ensures.room_after (done-number _ _ c.in-Ok.is) (store-octets) _ c.note_at.ensures in record { number_value = (sym (done-number _ _ c.in-Ok.is) ∙ answered.0.0, sym (all-written _ _ c.in-Ok.is) ∙ answered.0.1); store_after = answered.1.0; room_after = answered.1.1 }

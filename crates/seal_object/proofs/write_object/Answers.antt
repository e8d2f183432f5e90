-- SPDX-License-Identifier: MIT
use Rattle.seal_object.proofs.SealSteps.{clear, end-inside, end_fits, body-room, object-written}
use Rattle.track_record.proofs.Records.{told-nothing, told}
use Rattle.track_record.specs.Record.{track_id}
use Rattle.track_record.specs.Layout.{decode}
use native.Mathlib.Omega.{arith}
use mathlib.Core.Bool.{false≢true}
use mathlib.Core.Path.{refl, sym, ◌∙◌}
use Rattle.seal_object.proofs.write_object.Goals as goal

pub returns-in_default : goal.returns-in_default
returns-in_default c =
    absurd (false≢true (sym (clear (decode c.args.row.now) _ _ _ _ _ c.requires.room_value).there ∙ told-nothing (decode c.args.row.now) _ c.held_in.ensures c.in_default.is))

pub overflow_add-end : goal.overflow_add-end
overflow_add-end c =
    omega (arith, end_fits (decode c.args.row.now) (track_id c.args.track.name.now c.args.track.id.0) c.args.pair.group.0 c.args.pair.object.0 c.args.properties.now c.args.plaintext.now c.args.room.now (clear (decode c.args.row.now) c.args.pair.group.0 c.args.pair.object.0 _ _ _ c.requires.room_value) _ _ (told (decode c.args.row.now) _ _ _ c.held_in.ensures c.in-Some.is) _ c.tag_size.ensures)

pub key_of-requires : goal.key_of-requires
key_of-requires c =
    (c.requires.row_len.0, (told (decode c.args.row.now) _ _ _ c.held_in.ensures c.in-Some.is).suite-is)

pub salt_of-requires : goal.salt_of-requires
salt_of-requires c =
    (c.requires.row_len.0, (told (decode c.args.row.now) _ _ _ c.held_in.ensures c.in-Some.is).held)

pub slice_bounds-secure-end : goal.slice_bounds-secure-end
slice_bounds-secure-end c =
    omega (arith, end-inside (decode c.args.row.now) (track_id c.args.track.name.now c.args.track.id.0) c.args.pair.group.0 c.args.pair.object.0 c.args.properties.now c.args.plaintext.now c.args.room.now (clear (decode c.args.row.now) c.args.pair.group.0 c.args.pair.object.0 _ _ _ c.requires.room_value) _ _ (told (decode c.args.row.now) _ _ _ c.held_in.ensures c.in-Some.is) _ c.tag_size.ensures)

pub secure-requires : goal.secure-requires
secure-requires c =
    let k = (clear (decode c.args.row.now) c.args.pair.group.0 c.args.pair.object.0 _ _ _ c.requires.room_value) in
    record { key_len = (c.key_of.ensures.1, c.salt_of.ensures.1, c.requires.row_len.1, k.object-below); properties_len_bound = (k.properties-most, k.plaintext-most, body-room (decode c.args.row.now) (track_id c.args.track.name.now c.args.track.id.0) c.args.pair.group.0 c.args.pair.object.0 c.args.properties.now c.args.plaintext.now c.args.room.now (clear (decode c.args.row.now) c.args.pair.group.0 c.args.pair.object.0 _ _ _ c.requires.room_value) _ _ (told (decode c.args.row.now) _ _ _ c.held_in.ensures c.in-Some.is) _ c.tag_size.ensures) }

pub returns : goal.returns
returns c =
    let answered = object-written (decode c.args.row.now) (track_id c.args.track.name.now c.args.track.id.0) c.args.pair.group.0 c.args.pair.object.0 c.args.properties.now c.args.plaintext.now c.args.room.now (clear (decode c.args.row.now) c.args.pair.group.0 c.args.pair.object.0 _ _ _ c.requires.room_value) _ _ (told (decode c.args.row.now) _ _ _ c.held_in.ensures c.in-Some.is) _ c.tag_size.ensures _ _ _ _ c.key_of.ensures.0 c.salt_of.ensures.0 c.secure.ensures refl in record { value = answered.0; room_after = answered.1 }

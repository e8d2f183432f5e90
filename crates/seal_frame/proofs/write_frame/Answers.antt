-- SPDX-License-Identifier: MIT
use mathlib.Core.Path.{refl}
use native.Mathlib.Omega.{arith}
use Rattle.key_record.specs.Layout.{decode}
use Rattle.key_record.proofs.KindLaws.{sends-held}
use Rattle.judge_seal.proofs.NextFrame.{length-fits}
use Rattle.seal_frame.proofs.SealSteps.{clear, frame-inside, front_fits, front-most, body-room, frame-length, frame-written}
use Rattle.seal_frame.proofs.write_frame.Goals as goal

pub suite_of-suite-requires : goal.suite_of-suite-requires
suite_of-suite-requires c =
    (c.requires.row, sends-held (decode c.args.row.now) (clear _ _ _ _ _ c.requires.room_value).sends)

pub write_next-n-requires : goal.write_next-n-requires
write_next-n-requires c =
    (c.requires.row, (clear _ _ _ _ _ c.requires.room_value).sends, omega arith, (clear _ _ _ _ _ c.requires.room_value).counter-left)

pub overflow_add-end : goal.overflow_add-end
overflow_add-end c =
    omega (arith, length-fits _ _ _ c.suite_of-suite.result (clear _ _ _ _ _ c.requires.room_value).plaintext-most c.write_next-n.ensures.value.1 c.tag_size.ensures)

pub overflow_add-end-2 : goal.overflow_add-end-2
overflow_add-end-2 c =
    omega (arith, length-fits _ _ _ c.suite_of-suite.result (clear _ _ _ _ _ c.requires.room_value).plaintext-most c.write_next-n.ensures.value.1 c.tag_size.ensures)

pub copy-requires : goal.copy-requires
copy-requires c =
    front_fits (decode c.args.row.now) c.args.kid.0 c.args.metadata.now c.args.plaintext.now c.args.room.now (clear _ _ _ _ _ c.requires.room_value) _ c.suite_of-suite.ensures _ _ _ _ c.tag_size.ensures c.write_next-n.ensures.value.0 c.write_next-n.ensures.head_after

pub slice_bounds-encrypt_next-end-2 : goal.slice_bounds-encrypt_next-end-2
slice_bounds-encrypt_next-end-2 c =
    omega (arith, frame-inside (decode c.args.row.now) c.args.kid.0 c.args.metadata.now c.args.plaintext.now c.args.room.now (clear _ _ _ _ _ c.requires.room_value) _ c.suite_of-suite.ensures _ _ _ _ c.tag_size.ensures c.write_next-n.ensures.value.0 c.write_next-n.ensures.head_after, c.copy.auto.out)

pub encrypt_next-requires : goal.encrypt_next-requires
encrypt_next-requires c =
    record { row = (c.requires.row, (clear _ _ _ _ _ c.requires.room_value).sends, c.suite_of-suite.ensures, (clear _ _ _ _ _ c.requires.room_value).counter-left); head_len_bound = (front-most (decode c.args.row.now) c.args.kid.0 c.args.metadata.now c.args.plaintext.now c.args.room.now (clear _ _ _ _ _ c.requires.room_value) _ c.suite_of-suite.ensures _ _ _ _ c.tag_size.ensures c.write_next-n.ensures.value.0 c.write_next-n.ensures.head_after c.write_next-n.ensures.value.1, (clear _ _ _ _ _ c.requires.room_value).metadata-most, (clear _ _ _ _ _ c.requires.room_value).plaintext-most); out_len = body-room (decode c.args.row.now) c.args.kid.0 c.args.metadata.now c.args.plaintext.now c.args.room.now (clear _ _ _ _ _ c.requires.room_value) _ c.suite_of-suite.ensures _ _ _ _ c.tag_size.ensures c.write_next-n.ensures.value.0 c.write_next-n.ensures.head_after _ _ refl c.copy.auto.out }

pub returns : goal.returns
returns c =
    record { value = frame-length (decode c.args.row.now) c.args.kid.0 c.args.metadata.now c.args.plaintext.now c.args.room.now (clear _ _ _ _ _ c.requires.room_value) _ c.suite_of-suite.ensures _ _ _ _ c.tag_size.ensures c.write_next-n.ensures.value.0 c.write_next-n.ensures.head_after; room_after = frame-written (decode c.args.row.now) c.args.kid.0 c.args.metadata.now c.args.plaintext.now c.args.room.now (clear _ _ _ _ _ c.requires.room_value) _ c.suite_of-suite.ensures _ _ _ _ c.tag_size.ensures c.write_next-n.ensures.value.0 c.write_next-n.ensures.head_after _ _ _ _ refl c.copy.ensures c.encrypt_next.ensures refl }

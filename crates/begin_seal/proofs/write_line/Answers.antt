-- SPDX-License-Identifier: MIT
use native.Mathlib.Omega.{arith}
use Rattle.header.specs.Header.{header}
use Rattle.key_record.specs.Layout.{decode}
use Rattle.key_record.specs.Record.{counter_of}
use Rattle.key_record.proofs.KindLaws.{sends-keyed}
use Rattle.begin_seal.proofs.BeginSteps.{clear, front-most, front_fits, header-copied, state-written}
use Rattle.begin_seal.proofs.write_line.Goals as goal

pub write_next-n-requires : goal.write_next-n-requires
write_next-n-requires c =
    let q = clear _ _ _ _ _ _ c.requires.state_value in
    (c.requires.row, q.sends, omega arith, q.counter-left)

pub next_of-ctr-requires : goal.next_of-ctr-requires
next_of-ctr-requires c =
    let q = clear _ _ _ _ _ _ c.requires.state_value in
    (c.requires.row, q.sends, q.counter-left)

pub write_first-requires : goal.write_first-requires
write_first-requires c =
    let q = clear _ _ _ _ _ _ c.requires.state_value in
    let w = c.write_next-n.ensures in
    record { row = (c.requires.row, sends-keyed (decode c.args.row.now) q.sends, q.state-enough); header_len_bound = (front-most (header c.args.kid.0 (counter_of (decode c.args.row.now))) _ _ _ w.value.0 w.head_after w.value.1, q.metadata-most, q.announced-most) }

pub copy-requires : goal.copy-requires
copy-requires c =
    let q = clear _ _ _ _ _ _ c.requires.state_value in
    let w = c.write_next-n.ensures in
    front_fits (header c.args.kid.0 (counter_of (decode c.args.row.now))) _ _ _ w.value.0 w.head_after _ q.room-enough

pub returns : goal.returns
returns c =
    let a = c.args in
    let w = c.write_next-n.ensures in
    record { value = w.value.0; room_after = header-copied (header a.kid.0 (counter_of (decode a.row.now))) _ _ _ w.value.0 w.head_after a.room.now _ c.copy.ensures; state_after = state-written (header a.kid.0 (counter_of (decode a.row.now))) _ _ _ w.value.0 w.head_after (decode a.row.now) _ a.announced a.metadata.now a.state.now _ c.next_of-ctr.ensures c.write_first.ensures }

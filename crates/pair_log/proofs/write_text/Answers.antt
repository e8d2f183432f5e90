-- SPDX-License-Identifier: MIT
use mathlib.Core.Path.{refl}
use Rattle.pair_log.proofs.Writing.{written-refused, written-done}
use Rattle.pair_log.proofs.write_text.Goals as goal

pub returns-then-room-text : goal.returns-then-room-text
returns-then-room-text c =
    let a = c.args in
    let q = written-refused a.text.now a.room.now _ refl c.if-room-text.true in
    record { number_value = q.0; room_after = q.1 }

pub returns : goal.returns
returns c =
    let a = c.args in
    let answered = written-done a.text.now a.room.now _ _ refl c.if-room-text.false c.copy.ensures in record { number_value = answered.0; room_after = answered.1 }

-- SPDX-License-Identifier: MIT
use Rattle.pair_log.proofs.Writing.{answers-same, report-long, report-bad, report-whole}
use Rattle.pair_log.proofs.report.Goals as goal

pub returns-then-log-gt-MAX_LOG : goal.returns-then-log-gt-MAX_LOG
returns-then-log-gt-MAX_LOG c =
    let a = c.args in
    let answered = answers-same _ _ a.room.now _ _ _ (report-long a.log.now c.if-log-gt-MAX_LOG.true) (c.write_text.ensures.number_value, c.write_text.ensures.room_after) in record { number_value = answered.0; room_after = answered.1 }

pub returns-then-log-ne0 : goal.returns-then-log-ne0
returns-then-log-ne0 c =
    let a = c.args in
    let answered = answers-same _ _ a.room.now _ _ _ (report-bad a.log.now c.if-log-gt-MAX_LOG.false c.if-log-ne0.true) (c.write_text-then-log-ne0.ensures.number_value, c.write_text-then-log-ne0.ensures.room_after) in record { number_value = answered.0; room_after = answered.1 }

pub returns : goal.returns
returns c =
    let a = c.args in
    let answered = answers-same _ _ a.room.now _ _ _ (report-whole a.log.now c.if-log-gt-MAX_LOG.false c.if-log-ne0.false) (c.list.ensures.number_value, c.list.ensures.room_after) in record { number_value = answered.0; room_after = answered.1 }

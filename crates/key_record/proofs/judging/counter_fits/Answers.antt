-- SPDX-License-Identifier: MIT
use Rattle.key_record.proofs.Spent.{receiving-spent, receiving-zero, other-left, other-unknown, other_last}
use Rattle.key_record.proofs.judging.counter_fits.Goals as goal

pub returns-then-spent-ne0 : goal.returns-then-spent-ne0
returns-then-spent-ne0 c = receiving-spent _ _ _ c.if-mark-eq-RECEIVING.true c.if-spent-ne0.true

pub returns-then-mark-eq-RECEIVING : goal.returns-then-mark-eq-RECEIVING
returns-then-mark-eq-RECEIVING c = receiving-zero _ _ _ c.if-mark-eq-RECEIVING.true c.if-spent-ne0.false

pub returns-then-spent-eq0 : goal.returns-then-spent-eq0
returns-then-spent-eq0 c = other-left _ _ _ c.if-mark-eq-RECEIVING.false c.if-spent-eq0.true

pub returns-then-spent-ne1 : goal.returns-then-spent-ne1
returns-then-spent-ne1 c = other-unknown _ _ _ c.if-mark-eq-RECEIVING.false c.if-spent-eq0.false c.if-spent-ne1.true

pub returns : goal.returns
returns c = other_last _ _ _ c.if-mark-eq-RECEIVING.false c.if-spent-ne1.false

-- SPDX-License-Identifier: MIT
use Rattle.key_record.proofs.Judge.{opened-other, opened-last}
use Rattle.key_record.proofs.judging.has_opened.Goals as goal

pub returns-then-row-ne-RECEIVING : goal.returns-then-row-ne-RECEIVING
returns-then-row-ne-RECEIVING c = opened-other c.args.row.now c.if-row-ne-RECEIVING.true

pub returns : goal.returns
returns c = opened-last c.args.row.now c.if-row-ne-RECEIVING.false

-- SPDX-License-Identifier: MIT
use Rattle.key_record.proofs.Judge.{mark-low, mark-high}
use Rattle.key_record.proofs.judging.is_held.Goals as goal

pub returns-then-mark-lt-SENDING : goal.returns-then-mark-lt-SENDING
returns-then-mark-lt-SENDING c = mark-low _ c.if-mark-lt-SENDING.true

pub returns : goal.returns
returns c = mark-high _ c.if-mark-lt-SENDING.false

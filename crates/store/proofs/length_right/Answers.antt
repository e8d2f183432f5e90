-- SPDX-License-Identifier: MIT
use Rattle.store.proofs.Walk.{length-short, length-long, length_whole}
use Rattle.store.proofs.length_right.Goals as goal

pub returns-then-n-lt-RECORD_SIZE : goal.returns-then-n-lt-RECORD_SIZE
returns-then-n-lt-RECORD_SIZE c = length-short _ c.if-n-lt-RECORD_SIZE.true

pub returns-then-n : goal.returns-then-n
returns-then-n c = length-long _ c.if-n-lt-RECORD_SIZE.false c.if-n.true

pub returns : goal.returns
returns c = length_whole _ c.if-n-lt-RECORD_SIZE.false c.if-n.false

-- SPDX-License-Identifier: MIT
use Rattle.judge_open.proofs.Steps.{room-short, room-enough}
use Rattle.judge_open.proofs.room_for.Goals as goal

pub returns-then-room-n : goal.returns-then-room-n
returns-then-room-n c = room-short _ _ c.if-room-n.true

pub returns : goal.returns
returns c = room-enough _ _ c.if-room-n.false

-- SPDX-License-Identifier: MIT
use Rattle.answers.proofs.Basics.{told-false, told-true}
use Rattle.key_record.specs.Layout.{decode}
use Rattle.begin_seal.proofs.BeginSteps.{judged-role, judged-counter, judged-long, judged-room, judged-state, judged-done}
use mathlib.Core.Bool.{not}
use mathlib.Core.Path.{ap}
use Rattle.begin_seal.proofs.judge.Goals as goal

pub returns-then-not-is_sending : goal.returns-then-not-is_sending
returns-then-not-is_sending c = judged-role (decode c.args.row.now) c.args.kid.0 c.args.metadata c.args.announced c.args.room c.args.state c.requires.1 (told-false _ _ c.is_sending.ensures (ap not c.if-not-is_sending.true))

pub counter_left-requires : goal.counter_left-requires
counter_left-requires c = (c.requires.0, told-true _ _ c.is_sending.ensures (ap not c.if-not-is_sending.false))

pub returns-then-not-counter_left : goal.returns-then-not-counter_left
returns-then-not-counter_left c =
    judged-counter (decode c.args.row.now) c.args.kid.0 c.args.metadata c.args.announced c.args.room c.args.state (told-true _ _ c.is_sending.ensures (ap not c.if-not-is_sending.false)) _ c.counter_left.ensures (ap not c.if-not-counter_left.true)

pub returns-then-too_long : goal.returns-then-too_long
returns-then-too_long c =
    judged-long (decode c.args.row.now) c.args.kid.0 c.args.metadata c.args.announced c.args.room c.args.state (told-true _ _ c.is_sending.ensures (ap not c.if-not-is_sending.false)) _ c.counter_left.ensures (ap not c.if-not-counter_left.false) _ c.too_long.ensures c.if-too_long.true

pub header_length-requires : goal.header_length-requires
header_length-requires c =
    (c.requires.0, told-true _ _ c.is_sending.ensures (ap not c.if-not-is_sending.false), told-true _ _ c.counter_left.ensures (ap not c.if-not-counter_left.false))

pub returns-then-room-header_length : goal.returns-then-room-header_length
returns-then-room-header_length c =
    judged-room (decode c.args.row.now) c.args.kid.0 c.args.metadata c.args.announced c.args.room c.args.state (told-true _ _ c.is_sending.ensures (ap not c.if-not-is_sending.false)) _ c.counter_left.ensures (ap not c.if-not-counter_left.false) _ c.too_long.ensures c.if-too_long.false _ c.header_length.ensures c.if-room-header_length.true

pub returns-then-state-lt-STATE_SIZE : goal.returns-then-state-lt-STATE_SIZE
returns-then-state-lt-STATE_SIZE c =
    judged-state (decode c.args.row.now) c.args.kid.0 c.args.metadata c.args.announced c.args.room c.args.state (told-true _ _ c.is_sending.ensures (ap not c.if-not-is_sending.false)) _ c.counter_left.ensures (ap not c.if-not-counter_left.false) _ c.too_long.ensures c.if-too_long.false _ c.header_length.ensures c.if-room-header_length.false c.if-state-lt-STATE_SIZE.true

pub returns : goal.returns
returns c =
    judged-done (decode c.args.row.now) c.args.kid.0 c.args.metadata c.args.announced c.args.room c.args.state (told-true _ _ c.is_sending.ensures (ap not c.if-not-is_sending.false)) _ c.counter_left.ensures (ap not c.if-not-counter_left.false) _ c.too_long.ensures c.if-too_long.false _ c.header_length.ensures c.if-room-header_length.false c.if-state-lt-STATE_SIZE.false

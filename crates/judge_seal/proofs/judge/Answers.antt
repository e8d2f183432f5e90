-- SPDX-License-Identifier: MIT
use Rattle.answers.proofs.Basics.{told-false, told-true}
use Rattle.answers.proofs.Limits.{not-long}
use mathlib.Core.Path.{sym, ◌∙◌}
use Rattle.key_record.specs.Layout.{decode}
use Rattle.judge_seal.proofs.Verdict.{judged-role, judged-counter, judged-long, judged-room, judged-done}
use mathlib.Core.Bool.{not}
use mathlib.Core.Path.{ap}
use Rattle.judge_seal.proofs.judge.Goals as goal

pub returns-then-not-is_sending : goal.returns-then-not-is_sending
returns-then-not-is_sending c = judged-role (decode c.args.row.now) c.args.kid.0 c.args.metadata c.args.plaintext c.args.room c.requires.1 (told-false _ _ c.is_sending.ensures (ap not c.if-not-is_sending.true))

pub counter_left-requires : goal.counter_left-requires
counter_left-requires c = (c.requires.0, told-true _ _ c.is_sending.ensures (ap not c.if-not-is_sending.false))

pub returns-then-not-counter_left : goal.returns-then-not-counter_left
returns-then-not-counter_left c =
    judged-counter (decode c.args.row.now) c.args.kid.0 c.args.metadata c.args.plaintext c.args.room (told-true _ _ c.is_sending.ensures (ap not c.if-not-is_sending.false)) _ c.counter_left.ensures (ap not c.if-not-counter_left.true)

pub returns-then-too_long : goal.returns-then-too_long
returns-then-too_long c =
    judged-long (decode c.args.row.now) c.args.kid.0 c.args.metadata c.args.plaintext c.args.room (told-true _ _ c.is_sending.ensures (ap not c.if-not-is_sending.false)) _ c.counter_left.ensures (ap not c.if-not-counter_left.false) _ c.too_long.ensures c.if-too_long.true

pub next_length-requires : goal.next_length-requires
next_length-requires c =
    (c.requires.0, told-true _ _ c.is_sending.ensures (ap not c.if-not-is_sending.false), (not-long _ _ (sym c.too_long.ensures ∙ c.if-too_long.false)).0, told-true _ _ c.counter_left.ensures (ap not c.if-not-counter_left.false))

pub returns-then-room-next_length : goal.returns-then-room-next_length
returns-then-room-next_length c =
    judged-room (decode c.args.row.now) c.args.kid.0 c.args.metadata c.args.plaintext c.args.room (told-true _ _ c.is_sending.ensures (ap not c.if-not-is_sending.false)) _ c.counter_left.ensures (ap not c.if-not-counter_left.false) _ c.too_long.ensures c.if-too_long.false _ c.next_length.ensures c.if-room-next_length.true

pub returns : goal.returns
returns c =
    judged-done (decode c.args.row.now) c.args.kid.0 c.args.metadata c.args.plaintext c.args.room (told-true _ _ c.is_sending.ensures (ap not c.if-not-is_sending.false)) _ c.counter_left.ensures (ap not c.if-not-counter_left.false) _ c.too_long.ensures c.if-too_long.false _ c.next_length.ensures c.if-room-next_length.false

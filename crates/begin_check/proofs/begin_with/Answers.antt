-- SPDX-License-Identifier: MIT
use mathlib.Core.Path.{sym, ◌∙◌}
use Rattle.answers.proofs.Basics.{told-false, told-true}
use Rattle.answers.proofs.Limits.{not-long}
use Rattle.key_record.specs.Layout.{decode}
use Rattle.key_record.proofs.KindLaws.{receives-keyed}
use Rattle.begin_check.proofs.CheckSteps.{role-refused, long-refused, state-refused, check-begun, part-most}
use mathlib.Core.Bool.{not}
use mathlib.Core.Path.{ap}
use Rattle.begin_check.proofs.begin_with.Goals as goal

pub returns-then-not-is_receiving : goal.returns-then-not-is_receiving
returns-then-not-is_receiving c =
    let a = c.args in
    let answered = role-refused (decode a.row.now) a.metadata.now a.bytes.now a.state.now a.head.kid a.head.ctr a.head.length a.announced c.requires.1 (told-false _ _ c.is_receiving.ensures (ap not c.if-not-is_receiving.true)) in record { value = answered.0; state_after = answered.1 }

pub returns-then-too_long : goal.returns-then-too_long
returns-then-too_long c =
    let a = c.args in
    let answered = long-refused (decode a.row.now) a.metadata.now a.bytes.now a.state.now a.head.kid a.head.ctr a.head.length a.announced (told-true _ _ c.is_receiving.ensures (ap not c.if-not-is_receiving.false)) (sym c.if-too_long.true ∙ c.too_long.ensures) in record { value = answered.0; state_after = answered.1 }

pub returns-then-state-lt-STATE_SIZE : goal.returns-then-state-lt-STATE_SIZE
returns-then-state-lt-STATE_SIZE c =
    let a = c.args in
    let answered = state-refused (decode a.row.now) a.metadata.now a.bytes.now a.state.now a.head.kid a.head.ctr a.head.length a.announced (told-true _ _ c.is_receiving.ensures (ap not c.if-not-is_receiving.false)) (sym c.if-too_long.false ∙ c.too_long.ensures) c.if-state-lt-STATE_SIZE.true in record { value = answered.0; state_after = answered.1 }

pub write_first-requires : goal.write_first-requires
write_first-requires c =
    let sizes = not-long _ _ (sym c.too_long.ensures ∙ c.if-too_long.false) in
    record { row = (c.requires.0, receives-keyed (decode c.args.row.now) (told-true _ _ c.is_receiving.ensures (ap not c.if-not-is_receiving.false)), c.if-state-lt-STATE_SIZE.false); header_len_bound = (part-most _ c.args.bytes.now c.requires.2, sizes.1, sizes.0) }

pub returns : goal.returns
returns c =
    let a = c.args in
    let answered = check-begun (decode a.row.now) a.metadata.now a.bytes.now a.state.now a.head.kid a.head.ctr a.head.length a.announced (told-true _ _ c.is_receiving.ensures (ap not c.if-not-is_receiving.false)) (sym c.if-too_long.false ∙ c.too_long.ensures) c.if-state-lt-STATE_SIZE.false _ c.write_first.ensures in record { value = answered.0; state_after = answered.1 }

-- SPDX-License-Identifier: MIT
use Rattle.ratchet.proofs.Steps.{judge-short, judge-long, judge-steps, judge-room, judge-done}
use Rattle.ratchet.proofs.judge.Goals as goal

pub returns-then-base-lt-MIN_BASE_KEY : goal.returns-then-base-lt-MIN_BASE_KEY
returns-then-base-lt-MIN_BASE_KEY c =
    let a = c.args in
    judge-short a.base a.steps a.key a.room c.if-base-lt-MIN_BASE_KEY.true

pub returns-then-base-gt-MAX_BASE_KEY : goal.returns-then-base-gt-MAX_BASE_KEY
returns-then-base-gt-MAX_BASE_KEY c =
    let a = c.args in
    judge-long a.base a.steps a.key a.room c.if-base-lt-MIN_BASE_KEY.false c.if-base-gt-MAX_BASE_KEY.true

pub returns-then-steps-gt-MAX_STEPS : goal.returns-then-steps-gt-MAX_STEPS
returns-then-steps-gt-MAX_STEPS c =
    let a = c.args in
    judge-steps a.base a.steps a.key a.room c.if-base-lt-MIN_BASE_KEY.false c.if-base-gt-MAX_BASE_KEY.false c.if-steps-gt-MAX_STEPS.true

pub returns-then-room-key : goal.returns-then-room-key
returns-then-room-key c =
    let a = c.args in
    judge-room a.base a.steps a.key a.room c.if-base-lt-MIN_BASE_KEY.false c.if-base-gt-MAX_BASE_KEY.false c.if-steps-gt-MAX_STEPS.false c.if-room-key.true

pub returns : goal.returns
returns c =
    let a = c.args in
    judge-done a.base a.steps a.key a.room c.if-base-lt-MIN_BASE_KEY.false c.if-base-gt-MAX_BASE_KEY.false c.if-steps-gt-MAX_STEPS.false c.if-room-key.false

-- SPDX-License-Identifier: MIT
use Rattle.std.proofs.Common.{sym, ◌∙◌, length, arith}
use Rattle.answers.specs.Refusals.{number_of}
use Rattle.answers.proofs.Refusals.{refused-some, done-number, handed-on, missing-number, nothing-written}
use Rattle.ratchet.proofs.Steps.{judged, steps-fit, front-walked, walk-unknown, walk_refused, walk-done}
use Rattle.ratchet.proofs.walk.Goals as goal

pub returns-in_err-known : goal.returns-in_err-known
returns-in_err-known c =
    let a = c.args in
    let h = c.from_residual.ensures.1 in
    let q = walk-unknown a.suite a.base.now a.steps a.room.now (sym c.find.ensures ∙ c.in_err-known.ensures.ok_part) in
    record { number_value = (missing-number c.ok_or.result c.find.result _ c.ok_or.ensures.value _ _ c.in_err-known.was h ∙ q.0.0, nothing-written _ _ h ∙ q.0.1); room_after = q.1 }

pub returns-in_err-judge : goal.returns-in_err-judge
returns-in_err-judge c =
    let a = c.args in
    let j = c.judge.result in
    let h = c.from_residual-in_err-judge.ensures.1 in
    let q = walk_refused a.suite a.base.now a.steps a.room.now c.in_ok-known.known (sym c.find.ensures ∙ c.in_ok-known.ensures.ok_part) c.walked_size-n.result (number_of j) c.walked_size-n.ensures c.judge.ensures (refused-some j _ c.in_err-judge.was) in
    record { number_value = (handed-on j _ _ c.in_err-judge.was h ∙ q.0.0, nothing-written _ _ h ∙ q.0.1); room_after = q.1 }

pub slice_bounds-take_steps-end : goal.slice_bounds-take_steps-end
slice_bounds-take_steps-end c =
    let a = c.args in
    let j = c.judge.result in
    omega (arith, (judged (length a.base.now) a.steps c.walked_size-n.result (length a.room.now) (number_of j) c.judge.ensures (done-number j _ c.in_ok-judge.was)).2)

pub take_steps-requires : goal.take_steps-requires
take_steps-requires c =
    let a = c.args in
    let j = c.judge.result in
    steps-fit c.in_ok-known.known a.base.now a.room.now a.steps c.walked_size-n.result (number_of j) c.walked_size-n.ensures c.judge.ensures (done-number j _ c.in_ok-judge.was)

pub returns : goal.returns
returns c =
    let a = c.args in
    let j = c.judge.result in
    let q = walk-done a.suite a.base.now a.steps a.room.now c.in_ok-known.known (sym c.find.ensures ∙ c.in_ok-known.ensures.ok_part) c.walked_size-n.result (number_of j) c.walked_size-n.ensures c.judge.ensures _ (done-number j _ c.in_ok-judge.was)
    (front-walked a.room.now _ _ c.walked_size-n.result c.take_steps.ensures) in
    record { number_value = q.0; room_after = q.1 }

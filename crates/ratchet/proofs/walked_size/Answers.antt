-- SPDX-License-Identifier: MIT
use mathlib.Core.Path.{sym, ◌∙◌}
use Rattle.ratchet.proofs.Steps.{size_none, size-some}
use Rattle.ratchet.proofs.walked_size.Goals as goal

pub returns-then-steps-eq0 : goal.returns-then-steps-eq0
returns-then-steps-eq0 c =
    let a = c.args in
    sym (size_none a.suite a.base a.steps c.if-steps-eq0.true)

pub returns : goal.returns
returns c =
    let a = c.args in
    c.hash_size.ensures ∙ sym (size-some a.suite a.base a.steps c.if-steps-eq0.false)

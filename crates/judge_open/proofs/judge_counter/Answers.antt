-- SPDX-License-Identifier: MIT
use mathlib.Core.Path.{sym, ◌∙◌, ap}
use Rattle.window.specs.Window.{seen, too_old}
use Rattle.window.specs.declared.Window.{Window}
use Rattle.judge_open.proofs.Steps.{counter-seen, counter-old, counter-new}
use Rattle.judge_open.proofs.judge_counter.Goals as goal

pub returns-then-is_seen : goal.returns-then-is_seen
returns-then-is_seen c =
    counter-seen _ c.args.ctr.0 (ap (λ (w : Window). seen w c.args.ctr.0) (sym c.window_of-w.ensures) ∙ sym c.is_seen.ensures ∙ c.if-is_seen.true)

pub returns-then-is_too_old : goal.returns-then-is_too_old
returns-then-is_too_old c =
    let w = c.window_of-w.ensures in
    counter-old _ c.args.ctr.0 (ap (λ (w : Window). seen w c.args.ctr.0) (sym w) ∙ sym c.is_seen.ensures ∙ c.if-is_seen.false) (ap (λ (w : Window). too_old w c.args.ctr.0) (sym w) ∙ sym c.is_too_old.ensures ∙ c.if-is_too_old.true)

pub returns : goal.returns
returns c =
    let w = c.window_of-w.ensures in
    counter-new _ c.args.ctr.0 (ap (λ (w : Window). seen w c.args.ctr.0) (sym w) ∙ sym c.is_seen.ensures ∙ c.if-is_seen.false) (ap (λ (w : Window). too_old w c.args.ctr.0) (sym w) ∙ sym c.is_too_old.ensures ∙ c.if-is_too_old.false)

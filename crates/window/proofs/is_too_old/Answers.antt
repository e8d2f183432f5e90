-- SPDX-License-Identifier: MIT
use Rattle.window.proofs.Steps.{old-newer, old-told}
use Rattle.window.proofs.is_too_old.Goals as goal

pub returns-then-w-ctr : goal.returns-then-w-ctr
returns-then-w-ctr c = old-newer _ _ c.if-w-ctr.true

pub returns : goal.returns
returns c = old-told _ _ c.if-w-ctr.false

-- SPDX-License-Identifier: MIT
use Rattle.window.proofs.Steps.{seen-newer, seen-far, seen-bit}
use Rattle.window.proofs.is_seen.Goals as goal

pub returns-then-w-ctr : goal.returns-then-w-ctr
returns-then-w-ctr c = seen-newer _ _ c.if-w-ctr.true

pub returns-then-below-ge-SPAN : goal.returns-then-below-ge-SPAN
returns-then-below-ge-SPAN c = seen-far _ _ c.if-w-ctr.false c.if-below-ge-SPAN.true

pub returns : goal.returns
returns c = seen-bit _ _ c.if-w-ctr.false _ c.if-below-ge-SPAN.false c.bit_of.ensures

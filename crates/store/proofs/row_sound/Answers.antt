-- SPDX-License-Identifier: MIT
use native.Mathlib.Omega.{arith}
use Rattle.store.proofs.Walk.{row-fails, row_first, row-behind}
use mathlib.Core.Bool.{not}
use mathlib.Core.Path.{ap}
use Rattle.store.proofs.row_sound.Goals as goal

pub returns-then-not-obeys_row : goal.returns-then-not-obeys_row
returns-then-not-obeys_row c = row-fails _ _ _ c.obeys_row.ensures (ap not c.if-not-obeys_row.true)

pub returns-then-before-eq0 : goal.returns-then-before-eq0
returns-then-before-eq0 c = row_first _ _ _ c.obeys_row.ensures (ap not c.if-not-obeys_row.false) c.if-before-eq0.true

pub in_order-requires : goal.in_order-requires
in_order-requires c = (c.requires.1 (omega arith), c.requires.0)

pub returns : goal.returns
returns c = row-behind _ _ _ c.obeys_row.ensures (ap not c.if-not-obeys_row.false) _ c.if-before-eq0.false c.in_order.ensures

-- SPDX-License-Identifier: MIT
use mathlib.Core.Path.{sym, ◌∙◌}
use borrow.Author.Rules.{rules}
use Rattle.key_record.proofs.KindLaws.{order-vacant, order-none, order-kids}
use Rattle.key_record.proofs.row.in_order.Goals as goal

pub returns-then-is_empty : goal.returns-then-is_empty
returns-then-is_empty c = order-vacant _ _ _ c.is_empty.ensures c.if-is_empty.true

pub returns-then-is_empty-2 : goal.returns-then-is_empty-2
returns-then-is_empty-2 c = order-none _ _ _ c.is_empty.ensures _ c.is_empty-2.ensures c.if-is_empty.false c.if-is_empty-2.true

pub kid_of-requires : goal.kid_of-requires
kid_of-requires c = (search rules, sym c.is_empty-2.ensures ∙ c.if-is_empty-2.false)

pub kid_of-requires-2 : goal.kid_of-requires-2
kid_of-requires-2 c = (search rules, sym c.is_empty.ensures ∙ c.if-is_empty.false)

pub returns : goal.returns
returns c =
    order-kids _ _ _ c.is_empty.ensures _ c.is_empty-2.ensures c.if-is_empty.false _ _ c.if-is_empty-2.false c.kid_of.ensures c.kid_of-2.ensures

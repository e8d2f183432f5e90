-- SPDX-License-Identifier: MIT
use mathlib.Core.Path.{sym, ◌∙◌}
use borrow.Author.Rules.{rules}
use Rattle.key_record.proofs.KindLaws.{precedes-none, precedes-kid}
use Rattle.key_record.proofs.row.precedes.Goals as goal

pub returns-then-is_empty : goal.returns-then-is_empty
returns-then-is_empty c = precedes-none _ _ _ c.is_empty.ensures c.if-is_empty.true

pub kid_of-requires : goal.kid_of-requires
kid_of-requires c = (search rules, sym c.is_empty.ensures ∙ c.if-is_empty.false)

pub returns : goal.returns
returns c =
    precedes-kid _ _ _ c.is_empty.ensures _ c.if-is_empty.false c.kid_of.ensures

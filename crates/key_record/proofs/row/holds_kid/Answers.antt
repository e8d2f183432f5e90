-- SPDX-License-Identifier: MIT
use Rattle.key_record.proofs.Fields.{holds-unheld, holds-held}
use mathlib.Core.Bool.{not}
use mathlib.Core.Path.{ap}
use Rattle.key_record.proofs.row.holds_kid.Goals as goal

pub returns-then-not-is_held : goal.returns-then-not-is_held
returns-then-not-is_held c =
    holds-unheld c.args.row.now _ _ c.is_held.ensures (ap not c.if-not-is_held.true)

pub returns : goal.returns
returns c =
    holds-held c.args.row.now _ _ _ c.is_held.ensures (ap not c.if-not-is_held.false) c.read_be64.ensures

-- SPDX-License-Identifier: MIT
use mathlib.Core.Path.{◌∙◌, ap}
use Rattle.key_record.specs.Record.{holds}
use Rattle.store.proofs.Places.{place-within, place-past}
use Rattle.store.proofs.stands_at.Goals as goal

pub row_at-requires : goal.row_at-requires
row_at-requires c = place-within _ 0 _ c.requires c.if-place-store.true

pub returns-then-place-store : goal.returns-then-place-store
returns-then-place-store c = c.holds_kid.ensures ∙ ap (holds _) c.row_at.ensures.1

pub returns : goal.returns
returns c = place-past _ _ _ c.if-place-store.false

-- SPDX-License-Identifier: MIT
use Rattle.track_record.proofs.Steps.{holds_not, holds-other, holds_named}
use Rattle.track_record.specs.Layout.{decode}
use mathlib.Core.Path.{sym, ◌∙◌}
use Rattle.track_record.proofs.row.holds.Goals as goal

pub returns-then-is_empty : goal.returns-then-is_empty
returns-then-is_empty c = holds_not _ _ _ c.is_empty.ensures c.if-is_empty.true

pub key_id_of-requires : goal.key_id_of-requires
key_id_of-requires c =
    (c.requires, sym c.is_empty.ensures ∙ c.if-is_empty.false)

pub returns-then-key_id_of-track : goal.returns-then-key_id_of-track
returns-then-key_id_of-track c =
    holds-other _ _ (decode c.args.row.now) _ c.is_empty.ensures c.if-is_empty.false _ c.key_id_of.ensures c.if-key_id_of-track.true

pub name_of-requires : goal.name_of-requires
name_of-requires c =
    (c.requires, sym c.is_empty.ensures ∙ c.if-is_empty.false)

pub returns : goal.returns
returns c =
    holds_named _ _ (decode c.args.row.now) _ c.is_empty.ensures c.if-is_empty.false _ c.key_id_of.ensures _ _ c.if-key_id_of-track.false c.name_of.ensures.0 c.equal.ensures

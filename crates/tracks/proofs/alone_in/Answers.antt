-- SPDX-License-Identifier: MIT
use Rattle.tracks.proofs.Walk.{alone-unheld, alone-told}
use Rattle.track_record.specs.Record.{track_id}
use Rattle.track_record.specs.Layout.{decode}
use mathlib.Core.Path.{sym, ◌∙◌}
use Rattle.tracks.proofs.alone_in.Goals as goal

pub returns-then-is_empty : goal.returns-then-is_empty
returns-then-is_empty c = alone-unheld _ _ _ c.is_empty.ensures c.if-is_empty.true

pub name_of-requires : goal.name_of-requires
name_of-requires c =
    (c.requires.0, sym c.is_empty.ensures ∙ c.if-is_empty.false)

pub key_id_of-requires : goal.key_id_of-requires
key_id_of-requires c =
    (c.requires.0, sym c.is_empty.ensures ∙ c.if-is_empty.false)

pub returns : goal.returns
returns c =
    alone-told (decode c.args.row.now) _ _ _ c.is_empty.ensures c.if-is_empty.false (λ i. track_id (c.name_of.ensures.0 i) (c.key_id_of.ensures i)) _ _ c.find.ensures c.is_none.ensures

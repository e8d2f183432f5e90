-- SPDX-License-Identifier: MIT
use Rattle.tracks.proofs.Removal.{retired-none, rests-else, retired-told}
use Rattle.track_record.specs.Record.{rests}
use Rattle.track_record.specs.Layout.{decode}
use mathlib.Core.Path.{sym, ◌∙◌, ap}
use Rattle.tracks.proofs.is_retired.Goals as goal

pub returns-in_default : goal.returns-in_default
returns-in_default c =
    retired-none (decode c.args.row.now) _ c.held_in.ensures c.in_default.is

pub returns-in-Retired : goal.returns-in-Retired
returns-in-Retired c =
    sym (ap rests c.in-Retired.is) ∙ retired-told (decode c.args.row.now) _ _ _ c.held_in.ensures c.in-Some.is

pub returns-in_default-matches : goal.returns-in_default-matches
returns-in_default-matches c =
    rests-else c.in-Some.kind c.in_default-matches.not-Retired ∙ retired-told (decode c.args.row.now) _ _ _ c.held_in.ensures c.in-Some.is

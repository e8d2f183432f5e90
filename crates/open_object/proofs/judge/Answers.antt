-- SPDX-License-Identifier: MIT
use Rattle.open_object.proofs.OpenSteps.{judged-role, judged-object, judged-short, judged-long, judged-room, judged-done}
use Rattle.track_record.proofs.Records.{told-nothing, told}
use Rattle.track_record.specs.Layout.{decode}
use mathlib.Core.Bool.{false≢true}
use mathlib.Core.Path.{sym, ◌∙◌}
use mathlib.Core.Bool.{not}
use mathlib.Core.Path.{ap}
use Rattle.open_object.proofs.judge.Goals as goal

pub returns-in_err-kind : goal.returns-in_err-kind
returns-in_err-kind c =
    absurd (false≢true (sym c.requires.1 ∙ told-nothing (decode c.args.row.now) _ c.held_in.ensures c.in_err-kind.ensures.ok_part))

pub returns-then-not-opens : goal.returns-then-not-opens
returns-then-not-opens c =
    judged-role (decode c.args.row.now) c.args.object.0 c.args.properties c.args.sealed c.args.room _ _ (told (decode c.args.row.now) _ _ _ c.held_in.ensures c.in_ok-kind.ensures.ok_part) _ c.opens.ensures (ap not c.if-not-opens.true)

pub returns-then-object-ge-OBJECT_CEILING : goal.returns-then-object-ge-OBJECT_CEILING
returns-then-object-ge-OBJECT_CEILING c =
    judged-object (decode c.args.row.now) c.args.object.0 c.args.properties c.args.sealed c.args.room _ _ (told (decode c.args.row.now) _ _ _ c.held_in.ensures c.in_ok-kind.ensures.ok_part) _ c.opens.ensures (ap not c.if-not-opens.false) c.if-object-ge-OBJECT_CEILING.true

pub returns-then-sealed-nt : goal.returns-then-sealed-nt
returns-then-sealed-nt c =
    judged-short (decode c.args.row.now) c.args.object.0 c.args.properties c.args.sealed c.args.room _ _ (told (decode c.args.row.now) _ _ _ c.held_in.ensures c.in_ok-kind.ensures.ok_part) _ c.opens.ensures (ap not c.if-not-opens.false) c.if-object-ge-OBJECT_CEILING.false _ c.tag_size-nt.ensures c.if-sealed-nt.true

pub returns-then-too_long : goal.returns-then-too_long
returns-then-too_long c =
    judged-long (decode c.args.row.now) c.args.object.0 c.args.properties c.args.sealed c.args.room _ _ (told (decode c.args.row.now) _ _ _ c.held_in.ensures c.in_ok-kind.ensures.ok_part) _ c.opens.ensures (ap not c.if-not-opens.false) c.if-object-ge-OBJECT_CEILING.false _ c.tag_size-nt.ensures c.if-sealed-nt.false _ c.too_long.ensures c.if-too_long.true

pub returns-then-room-n : goal.returns-then-room-n
returns-then-room-n c =
    judged-room (decode c.args.row.now) c.args.object.0 c.args.properties c.args.sealed c.args.room _ _ (told (decode c.args.row.now) _ _ _ c.held_in.ensures c.in_ok-kind.ensures.ok_part) _ c.opens.ensures (ap not c.if-not-opens.false) c.if-object-ge-OBJECT_CEILING.false _ c.tag_size-nt.ensures c.if-sealed-nt.false _ c.too_long.ensures c.if-too_long.false c.if-room-n.true

pub returns : goal.returns
returns c =
    judged-done (decode c.args.row.now) c.args.object.0 c.args.properties c.args.sealed c.args.room _ _ (told (decode c.args.row.now) _ _ _ c.held_in.ensures c.in_ok-kind.ensures.ok_part) _ c.opens.ensures (ap not c.if-not-opens.false) c.if-object-ge-OBJECT_CEILING.false _ c.tag_size-nt.ensures c.if-sealed-nt.false _ c.too_long.ensures c.if-too_long.false c.if-room-n.false

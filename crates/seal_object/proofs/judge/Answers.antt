-- SPDX-License-Identifier: MIT
use Rattle.seal_object.proofs.SealSteps.{sum_fits, judged-role, judged-object, judged-pair, judged-long, judged-room, judged-done}
use Rattle.track_record.proofs.Records.{told-nothing, told}
use Rattle.track_record.specs.Layout.{decode}
use native.Mathlib.Omega.{arith}
use mathlib.Core.Bool.{false≢true}
use mathlib.Core.Path.{sym, ◌∙◌}
use mathlib.Core.Bool.{not}
use mathlib.Core.Path.{ap}
use Rattle.seal_object.proofs.judge.Goals as goal

pub returns-in_err-kind : goal.returns-in_err-kind
returns-in_err-kind c =
    absurd (false≢true (sym c.requires.1 ∙ told-nothing (decode c.args.row.now) _ c.held_in.ensures c.in_err-kind.ensures.ok_part))

pub returns-then-not-seals : goal.returns-then-not-seals
returns-then-not-seals c =
    judged-role (decode c.args.row.now) c.args.pair.group.0 c.args.pair.object.0 c.args.properties c.args.plaintext c.args.room _ _ (told (decode c.args.row.now) _ _ _ c.held_in.ensures c.in_ok-kind.ensures.ok_part) _ c.seals.ensures (ap not c.if-not-seals.true)

pub returns-then-pair-ge-OBJECT_CEILING : goal.returns-then-pair-ge-OBJECT_CEILING
returns-then-pair-ge-OBJECT_CEILING c =
    judged-object (decode c.args.row.now) c.args.pair.group.0 c.args.pair.object.0 c.args.properties c.args.plaintext c.args.room _ _ (told (decode c.args.row.now) _ _ _ c.held_in.ensures c.in_ok-kind.ensures.ok_part) _ c.seals.ensures (ap not c.if-not-seals.false) c.if-pair-ge-OBJECT_CEILING.true

pub returns-then-is_below : goal.returns-then-is_below
returns-then-is_below c =
    judged-pair (decode c.args.row.now) c.args.pair.group.0 c.args.pair.object.0 c.args.properties c.args.plaintext c.args.room _ _ (told (decode c.args.row.now) _ _ _ c.held_in.ensures c.in_ok-kind.ensures.ok_part) _ c.seals.ensures (ap not c.if-not-seals.false) c.if-pair-ge-OBJECT_CEILING.false _ c.is_below.ensures c.if-is_below.true

pub returns-then-too_long : goal.returns-then-too_long
returns-then-too_long c =
    judged-long (decode c.args.row.now) c.args.pair.group.0 c.args.pair.object.0 c.args.properties c.args.plaintext c.args.room _ _ (told (decode c.args.row.now) _ _ _ c.held_in.ensures c.in_ok-kind.ensures.ok_part) _ c.seals.ensures (ap not c.if-not-seals.false) c.if-pair-ge-OBJECT_CEILING.false _ c.is_below.ensures c.if-is_below.false _ c.too_long.ensures c.if-too_long.true

pub overflow_add-plaintext : goal.overflow_add-plaintext
overflow_add-plaintext c =
    omega (arith, sum_fits c.args.plaintext c.args.properties _ _ _ _ _ (told (decode c.args.row.now) _ _ _ c.held_in.ensures c.in_ok-kind.ensures.ok_part) c.too_long.ensures c.if-too_long.false c.tag_size.ensures)

pub returns-then-room-plaintext : goal.returns-then-room-plaintext
returns-then-room-plaintext c =
    judged-room (decode c.args.row.now) c.args.pair.group.0 c.args.pair.object.0 c.args.properties c.args.plaintext c.args.room _ _ (told (decode c.args.row.now) _ _ _ c.held_in.ensures c.in_ok-kind.ensures.ok_part) _ c.seals.ensures (ap not c.if-not-seals.false) c.if-pair-ge-OBJECT_CEILING.false _ c.is_below.ensures c.if-is_below.false _ c.too_long.ensures c.if-too_long.false _ c.tag_size.ensures c.if-room-plaintext.true

pub returns : goal.returns
returns c =
    judged-done (decode c.args.row.now) c.args.pair.group.0 c.args.pair.object.0 c.args.properties c.args.plaintext c.args.room _ _ (told (decode c.args.row.now) _ _ _ c.held_in.ensures c.in_ok-kind.ensures.ok_part) _ c.seals.ensures (ap not c.if-not-seals.false) c.if-pair-ge-OBJECT_CEILING.false _ c.is_below.ensures c.if-is_below.false _ c.too_long.ensures c.if-too_long.false _ c.tag_size.ensures c.if-room-plaintext.false

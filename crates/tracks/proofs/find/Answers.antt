-- SPDX-License-Identifier: MIT
use Rattle.std.proofs.Common.{◌∙◌, ap, List, ℕ}
use Rattle.track_record.specs.Layout.{decode}
use Rattle.track_record.specs.Record.{track_id, holds}
use Rattle.tracks.specs.Table.{get}
use Rattle.tracks.proofs.Walk.{find-here, find-go, find-end, records-start}
use Rattle.tracks.proofs.find.Goals as goal

pub loop-i-init : goal.loop-i-init
loop-i-init c = ap (get _) (records-start c.args.store.now)

pub returns-then-holds : goal.returns-then-holds
returns-then-holds c =
    find-here c.args.store.now c.loop-i.i c.loop-i-test.true _ _ (c.holds.ensures ∙ ap (λ (x : List ℕ). holds (track_id c.args.track.name.now c.args.track.id.0) (decode x)) c.part.ensures.0) c.loop-i.invariant c.if-holds.true

pub loop-i-preserved : goal.loop-i-preserved
loop-i-preserved c =
    find-go c.args.store.now c.loop-i.i c.loop-i-test.true _ _ (c.holds.ensures ∙ ap (λ (x : List ℕ). holds (track_id c.args.track.name.now c.args.track.id.0) (decode x)) c.part.ensures.0) c.loop-i.invariant c.if-holds.false

pub returns : goal.returns
returns c = find-end c.args.store.now c.loop-i.i c.loop-i-test.false _ c.loop-i.invariant

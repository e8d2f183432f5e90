-- SPDX-License-Identifier: MIT
use Rattle.std.proofs.Common.{◌∙◌, ap}
use Rattle.track_record.specs.Layout.{obeys}
use Rattle.tracks.proofs.Walk.{obey-stop, obey-go, obey-start, obey-end}
use Rattle.tracks.proofs.rows_obey.Goals as goal

pub loop-i-init : goal.loop-i-init
loop-i-init c = obey-start c.args.store.now

pub returns-then-not-obeys_layout : goal.returns-then-not-obeys_layout
returns-then-not-obeys_layout c =
    obey-stop c.args.store.now c.loop-i.i c.loop-i-test.true _ (c.obeys_layout.ensures ∙ ap obeys c.part.ensures.0) c.loop-i.invariant c.if-not-obeys_layout.true

pub loop-i-preserved : goal.loop-i-preserved
loop-i-preserved c =
    obey-go c.args.store.now c.loop-i.i c.loop-i-test.true _ (c.obeys_layout.ensures ∙ ap obeys c.part.ensures.0) c.loop-i.invariant c.if-not-obeys_layout.false

pub returns : goal.returns
returns c = obey-end c.args.store.now c.loop-i.i c.loop-i-test.false c.loop-i.invariant

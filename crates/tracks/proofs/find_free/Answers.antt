-- SPDX-License-Identifier: MIT
use Rattle.std.proofs.Common.{◌∙◌, ap, List, ℕ, arith}
use Rattle.track_record.specs.Layout.{decode}
use Rattle.track_record.specs.Record.{is_empty}
use Rattle.tracks.proofs.Walk.{free-here, free-go, free-end}
use Rattle.tracks.proofs.find_free.Goals as goal

pub loop-i-init : goal.loop-i-init
loop-i-init c = λ j h. absurd (omega arith)

pub returns-then-is_empty : goal.returns-then-is_empty
returns-then-is_empty c =
    free-here c.args.store.now c.loop-i.i c.loop-i-test.true _ (c.is_empty.ensures ∙ ap (λ (x : List ℕ). is_empty (decode x)) c.part.ensures.0) c.loop-i.invariant c.if-is_empty.true

pub loop-i-preserved : goal.loop-i-preserved
loop-i-preserved c =
    free-go c.args.store.now c.loop-i.i c.loop-i-test.true _ (c.is_empty.ensures ∙ ap (λ (x : List ℕ). is_empty (decode x)) c.part.ensures.0) c.loop-i.invariant c.if-is_empty.false

pub returns : goal.returns
returns c = free-end c.args.store.now c.loop-i.i c.loop-i-test.false c.loop-i.invariant

-- SPDX-License-Identifier: MIT
use Rattle.std.proofs.Common.{◌∙◌, ap, List, ℕ, ◌+◌, ◌*◌, ◌-◌, length, take, drop}
use Rattle.track_record.specs.Layout.{record_size, decode}
use Rattle.tracks.specs.Tracks.{records}
use Rattle.tracks.specs.Table.{alone, apart}
use Rattle.tracks.proofs.Walk.{apart-stop, apart-go, apart-end, records-start}
use Rattle.tracks.proofs.tracks_apart.Goals as goal

pub loop-i-init : goal.loop-i-init
loop-i-init c = ap apart (records-start c.args.store.now)

pub returns-then-not-alone_in : goal.returns-then-not-alone_in
returns-then-not-alone_in c =
    apart-stop c.args.store.now c.loop-i.i c.loop-i-test.true _ (c.alone_in.ensures ∙ ap (λ (x : List ℕ). alone (decode x) (records (take (length c.args.store.now - (c.loop-i.i + 1) * record_size) (drop ((c.loop-i.i + 1) * record_size) c.args.store.now)))) c.part.ensures.0) c.loop-i.invariant c.if-not-alone_in.true

pub loop-i-preserved : goal.loop-i-preserved
loop-i-preserved c =
    apart-go c.args.store.now c.loop-i.i c.loop-i-test.true _ (c.alone_in.ensures ∙ ap (λ (x : List ℕ). alone (decode x) (records (take (length c.args.store.now - (c.loop-i.i + 1) * record_size) (drop ((c.loop-i.i + 1) * record_size) c.args.store.now)))) c.part.ensures.0) c.loop-i.invariant c.if-not-alone_in.false

pub returns : goal.returns
returns c = apart-end c.args.store.now c.loop-i.i c.loop-i-test.false c.loop-i.invariant

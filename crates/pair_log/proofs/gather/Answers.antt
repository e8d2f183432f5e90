-- SPDX-License-Identifier: MIT
use Rattle.std.proofs.Common.{refl, ◌+◌, ◌≤◌, length, arith}
use Rattle.pair_log.proofs.Gathering.{gather-starts, gather-rises, gather-fits, gather-inserts, gather-passes, gather-ends}
use Rattle.pair_log.proofs.gather.Goals as goal

pub loop-i-init : goal.loop-i-init
loop-i-init c = let a = c.args in gather-starts a.log.now a.n a.found.now

pub insert-count-requires-clause-len : goal.insert-count-requires-clause-len
insert-count-requires-clause-len c =
    let a = c.args in
    let l = c.loop-i in
    let h : a.n ≤ length l.found + length l.found = omega arith in
    gather-fits a.log.now a.n l.count l.i l.found l.invariant c.loop-i-test.true h

pub insert-count-requires-clause-rising : goal.insert-count-requires-clause-rising
insert-count-requires-clause-rising c =
    let l = c.loop-i in gather-rises c.args.log.now c.args.n l.count l.i l.found l.invariant

pub loop-i-preserved-then-stands : goal.loop-i-preserved-then-stands
loop-i-preserved-then-stands c =
    let a = c.args in
    let l = c.loop-i in
    let h : a.n ≤ length l.found + length l.found = omega arith in
    let f = gather-fits a.log.now a.n l.count l.i l.found l.invariant c.loop-i-test.true h in
    gather-inserts a.log.now a.n l.count l.i l.found l.invariant c.loop-i-test.true _ refl c.first_pair-pair.result c.first_pair-pair.ensures _ c.stands.ensures c.if-stands.true _ _ c.insert-count.auto.found f c.insert-count.ensures

pub loop-i-preserved : goal.loop-i-preserved
loop-i-preserved c =
    let a = c.args in
    let l = c.loop-i in
    gather-passes a.log.now a.n l.count l.i l.found l.invariant c.loop-i-test.true _ refl c.first_pair-pair.result c.first_pair-pair.ensures _ c.stands.ensures c.if-stands.false

pub returns : goal.returns
returns c =
    let a = c.args in
    let l = c.loop-i in
    (gather-ends a.log.now a.n l.count l.i l.found l.invariant c.loop-i-test.false, omega arith)

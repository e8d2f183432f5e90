-- SPDX-License-Identifier: MIT
use Rattle.std.proofs.Common.{arith}
use Rattle.pair_log.proofs.Writing.{lines_start, lines-go-on, lines_end}
use Rattle.pair_log.proofs.write_pairs.Goals as goal

pub loop-i-init : goal.loop-i-init
loop-i-init c = let a = c.args in lines_start a.out.now a.at a.pairs.now (omega arith)

pub loop-i-preserved : goal.loop-i-preserved
loop-i-preserved c =
    let a = c.args in
    let l = c.loop-i in
    lines-go-on a.out.now a.at a.pairs.now l.out _ l.i c.index-pairs-i.result c.index-pairs-i.is c.requires c.loop-i-test.true l.invariant c.write_pair.ensures

pub returns : goal.returns
returns c =
    let a = c.args in
    let l = c.loop-i in lines_end a.out.now a.at a.pairs.now l.out l.i l.invariant c.loop-i-test.false

-- SPDX-License-Identifier: MIT
use Rattle.pair_log.proofs.Writing.{digit-fits, spell-starts, spell-goes-on, spell-ends}
use Rattle.pair_log.proofs.write_digits.Goals as goal

pub loop-i-init : goal.loop-i-init
loop-i-init c = let a = c.args in spell-starts a.base a.x a.out.now

pub digit-requires : goal.digit-requires
digit-requires c = digit-fits _ c.args.base c.requires.0 c.requires.1

pub loop-i-preserved : goal.loop-i-preserved
loop-i-preserved c =
    let a = c.args in
    let l = c.loop-i in
    spell-goes-on a.base a.x a.out.now l.out l.rest l.i _ l.invariant c.loop-i-test.true c.digit.ensures

pub returns : goal.returns
returns c =
    let a = c.args in
    let l = c.loop-i in spell-ends a.base a.x a.out.now l.out l.rest l.i l.invariant c.loop-i-test.false

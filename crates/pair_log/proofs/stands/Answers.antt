-- SPDX-License-Identifier: MIT
use Rattle.std.proofs.Common.{arith}
use Rattle.std.proofs.lemmas.Bool.Decides.{nat_tests}
use Rattle.pair_log.specs.Inner.Listed.{value}
use Rattle.pair_log.proofs.Gathering.{same_pair, search-starts, search-finds, search-goes-on, search-ends}
use Rattle.pair_log.proofs.stands.Goals as goal

pub loop-i-init : goal.loop-i-init
loop-i-init c = let a = c.args in search-starts (value a.pair) a.log.now a.n

-- Two pairs are equal whichever number is compared first, so grind takes either order, here and in the next answer.
pub returns-then-eq : goal.returns-then-eq
returns-then-eq c =
    let a = c.args in
    let l = c.loop-i in
    search-finds (value a.pair) a.log.now a.n l.i l.invariant c.loop-i-test.true _ (same_pair c.first_pair.result a.pair _ c.eq.result (grind (arith, nat_tests, c.eq.ensures)) c.first_pair.ensures) c.if-eq.true

pub loop-i-preserved : goal.loop-i-preserved
loop-i-preserved c =
    let a = c.args in
    let l = c.loop-i in
    search-goes-on (value a.pair) a.log.now a.n l.i l.invariant c.loop-i-test.true _ (same_pair c.first_pair.result a.pair _ c.eq.result (grind (arith, nat_tests, c.eq.ensures)) c.first_pair.ensures) c.if-eq.false

pub returns : goal.returns
returns c =
    let a = c.args in
    search-ends (value a.pair) a.log.now a.n c.loop-i.i c.loop-i.invariant c.loop-i-test.false

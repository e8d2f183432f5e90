-- SPDX-License-Identifier: MIT
use Rattle.std.proofs.Common.{◌≡◌, refl, arith, length-set}
use Rattle.sha2_common.specs.Sha2.{words}
use Rattle.sha2_common.proofs.Steps.{words_step}
use Rattle.sha2_common.proofs.rounds.load.Goals as goal

pub loop-i-init : goal.loop-i-init
unfolding words
loop-i-init g c = (c.requires, refl)

pub set-requires : goal.set-requires
set-requires g c =
    let s = g.met.W.Word.turns in
    omega (arith, c.loop-i.invariant.0)

pub loop-i-preserved : goal.loop-i-preserved
loop-i-preserved g c =
    let m = g.W.Word in
    let s = g.met.W.Word.turns in
    let l = c.loop-i in
    (rw c.set.ensures (simp length-set l.invariant.0), rw c.set.ensures (words_step m.params (m.listed l.w) c.args.block.now l.i _ (omega (arith, l.invariant.0)) l.invariant.1 c.read.ensures))

pub returns : goal.returns
returns g c =
    let e : c.loop-i.i ≡ 16 = omega arith in
    (c.loop-i.invariant.0, rw e at c.loop-i.invariant.1)

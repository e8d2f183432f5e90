-- SPDX-License-Identifier: MIT
use Rattle.sha2_common.specs.Inner.Words.{words_of}
use Rattle.sha2_common.proofs.Steps.{round-done}
use Rattle.sha2_common.proofs.rounds.round.Goals as goal

pub returns : goal.returns
returns g c =
    let a = c.args in
    let m = g.W.Word in
    round-done m.params (words_of m.value a.v) (m.value a.k) (m.value a.w) _ _ _ _ _ _ _ _ _ _ _ c.big_sigma1.ensures c.add.ensures c.ch.ensures c.add-sum.ensures c.add-2.ensures c.add-t1.ensures c.big_sigma0.ensures c.maj.ensures c.add-t2.ensures c.add-4.ensures c.add-3.ensures

-- SPDX-License-Identifier: MIT
use Rattle.sha2_common.proofs.Steps.{halfway-done}
use Rattle.sha2_common.proofs.rounds.WordsValue.compress.Goals as goal

pub returns : goal.returns
returns g c =
    let m = g.W.Word in
    let s = g.met.W.Word.turns in
    let f = c.first_rounds-u.ensures in
    halfway-done m.params m.TURNS s.0 s.2 c.args.block.now _ _ _ _ _ f.0 (f.1 c.args.block.now c.load.ensures.1) (c.last_rounds.ensures _) c.sums.ensures

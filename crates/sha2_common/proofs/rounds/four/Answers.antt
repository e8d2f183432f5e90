-- SPDX-License-Identifier: MIT
use Rattle.std.proofs.Common.{refl}
use Rattle.sha2_common.proofs.Steps.{rounds-at}
use Rattle.sha2_common.proofs.rounds.four.Goals as goal

pub returns : goal.returns
returns g c =
    λ h e.
    let p = g.W.Word.params in
    let w = g.W.Word.listed c.args.w.now in
    let t = c.args.t in
    let v2 = rounds-at p w h _ t 1 1 2 refl (c.step-v2.ensures h (c.step-v1.ensures h e)) in
    let v3 = rounds-at p w h _ t 2 1 3 refl (c.step-v3.ensures h v2) in
    rounds-at p w h _ t 3 1 4 refl (c.step.ensures h v3)

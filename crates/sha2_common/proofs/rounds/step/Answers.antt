-- SPDX-License-Identifier: MIT
use Rattle.std.proofs.Common.{◌+◌, refl}
use native.Mathlib.Numerals.{add-one}
use Rattle.sha2_common.proofs.Steps.{rounds-step}
use Rattle.sha2_common.proofs.rounds.step.Goals as goal

pub returns : goal.returns
returns g c =
    let m = g.W.Word in
    let t = c.args.t in
    λ h e. rounds-step m.params (m.listed c.args.w.now) m.params.constants t (t + 1) h _ _ refl (add-one t) e (rw (c.constant.ensures, c.get.ensures) at c.round.ensures)

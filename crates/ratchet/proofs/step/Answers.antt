-- SPDX-License-Identifier: MIT
use mathlib.Core.Path.{refl}
use Rattle.ratchet.proofs.Steps.{step-made}
use Rattle.ratchet.proofs.step.Goals as goal

pub returns : goal.returns
returns c =
    let a = c.args in
    step-made a.suite a.key.now _ _ _ _ refl c.copy.ensures c.next_key.ensures

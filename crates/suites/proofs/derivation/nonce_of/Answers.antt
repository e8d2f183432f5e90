-- SPDX-License-Identifier: MIT
use mathlib.Core.Path.{◌∙◌}
use native.Mathlib.Omega.{arith}
use Rattle.suites.proofs.Steps.{nonce-made}
use Rattle.suites.proofs.derivation.nonce_of.Goals as goal

pub returns : goal.returns
returns c =
    let a = c.args in (
      nonce-made _ _ _ _ a.salt.now a.ctr.0 c.requires (omega arith) c.write_be.ensures c.copy.ensures c.xor.ensures,
      c.xor.auto.out ∙ c.copy.auto.out,
    )

-- SPDX-License-Identifier: MIT
use Rattle.secure_objects.proofs.Steps.{nonce-made}
use native.Mathlib.Omega.{arith}
use mathlib.Core.Path.{◌∙◌}
use Rattle.secure_objects.proofs.object.nonce_of.Goals as goal

pub returns : goal.returns
returns c =
    let a = c.args in (
      nonce-made _ _ _ _ _ _ a.salt.now a.pair.group.0 a.pair.object.0 (omega arith) c.requires.0 (omega arith) c.requires.1 c.write_be_at.ensures c.write_be_at-2.ensures c.copy.ensures c.xor.ensures,
      c.xor.auto.out ∙ c.copy.auto.out,
    )

-- SPDX-License-Identifier: MIT
use Rattle.secure_objects.proofs.Steps.{label-written}
use native.Mathlib.Omega.{arith}
use Rattle.secure_objects.proofs.derivation.write_label.Goals as goal

pub returns : goal.returns
returns c =
    let a = c.args in
    record { value = omega arith; out_after = label-written a.text.now a.suite a.track.name.now a.track.id.0 a.out.now _ _ _ _ _ c.requires.0 c.number.ensures c.copy_at.ensures c.copy_at-2.ensures c.write_be_at.ensures c.write_be_at-2.ensures }

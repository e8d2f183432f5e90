-- SPDX-License-Identifier: MIT
use Rattle.secure_objects.proofs.Steps.{label-derived}
use Rattle.secure_objects.proofs.derivation.derive.Goals as goal

pub returns : goal.returns
returns c =
    let a = c.args in
    label-derived a.text.now a.suite a.track.name.now a.track.id.0 a.base.now _ _ _ _ _ c.write_label-n.ensures.value c.write_label-n.ensures.out_after c.expand_label.ensures

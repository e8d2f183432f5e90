-- SPDX-License-Identifier: MIT
use Rattle.secure_objects.specs.Derivation.{derived, moq_salt}
use mathlib.Core.Path.{◌∙◌, ap}
use Rattle.secure_objects.proofs.derivation.derive_salt.Goals as goal

pub returns : goal.returns
unfolding moq_salt
returns c =
    c.derive.ensures ∙ ap (derived _ _ _ _ _) c.requires.2

-- SPDX-License-Identifier: MIT
use mathlib.Core.Path.{◌∙◌, ap}
use Rattle.suites.specs.Derivation.{derived, sframe_salt}
use Rattle.suites.proofs.derivation.derive_salt.Goals as goal

pub returns : goal.returns
unfolding sframe_salt
returns c =
    c.derive.ensures ∙ ap (derived _ _ _ _) c.requires.1

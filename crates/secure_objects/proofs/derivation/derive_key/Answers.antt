-- SPDX-License-Identifier: MIT
use Rattle.secure_objects.specs.Derivation.{derived, moq_key}
use Rattle.suites.proofs.Laws.{Nk-most}
use mathlib.Core.Path.{◌∙◌, ap}
use borrow.Author.Rules.{rules}
use Rattle.secure_objects.proofs.derivation.derive_key.Goals as goal

pub derive-requires : goal.derive-requires
derive-requires c =
    let n = Nk-most c.args.suite in
    search rules

pub returns : goal.returns
unfolding moq_key
returns c =
    c.derive.ensures ∙ ap (derived _ _ _ _ _) c.requires.2

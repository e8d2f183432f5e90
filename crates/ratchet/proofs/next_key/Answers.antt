-- SPDX-License-Identifier: MIT
use mathlib.Core.Path.{◌∙◌, ap}
use borrow.Author.Rules.{rules}
use Rattle.hmac.specs.Hkdf.{expand}
use Rattle.suites.proofs.Laws.{Nh-most}
use Rattle.ratchet.specs.Ratchet.{next_key}
use Rattle.ratchet.proofs.next_key.Goals as goal

pub expand_label-requires : goal.expand_label-requires
expand_label-requires c =
    let n = Nh-most c.args.suite in
    search rules

pub returns : goal.returns
unfolding next_key
returns c =
    c.expand_label.ensures ∙ ap (expand _ _ _) c.requires.1

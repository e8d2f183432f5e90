-- SPDX-License-Identifier: MIT
use mathlib.Core.Path.{refl}
use borrow.Author.Rules.{rules}
use Rattle.hmac_tag.proofs.Steps.{lengths-written}
use Rattle.hmac_tag.proofs.lengths.Goals as goal

pub returns : goal.returns
returns c =
    (lengths-written _ _ _ _ _ _ _ refl c.write_be_at.ensures c.write_be_at-2.ensures c.write_be_at-3.ensures, search rules)

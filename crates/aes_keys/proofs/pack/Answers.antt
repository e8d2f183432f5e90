-- SPDX-License-Identifier: MIT
use Rattle.aes_keys.specs.Inner.Keys.{packed}
use borrow.Author.Rules.{rules}
use Rattle.aes_keys.proofs.pack.Goals as goal

pub returns : goal.returns
unfolding packed
returns c = search rules

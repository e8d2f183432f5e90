-- SPDX-License-Identifier: MIT
use borrow.Author.Tests.{lt-ltb, le-ltb}
use borrow.Author.Rules.{rules}
use Rattle.header.specs.Header.{width}
use Rattle.header.proofs.width_of.Goals as goal

pub returns-then-v-lt-SMALL : goal.returns-then-v-lt-SMALL
unfolding width
returns-then-v-lt-SMALL c = (rw (lt-ltb _ _ c.if-v-lt-SMALL.true), search rules)

pub returns-else-v-lt-SMALL : goal.returns-else-v-lt-SMALL
unfolding width
returns-else-v-lt-SMALL c = (rw (le-ltb _ _ c.if-v-lt-SMALL.false) c.size_of.ensures.0, search rules)

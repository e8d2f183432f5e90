-- SPDX-License-Identifier: MIT
use borrow.Author.Rules.{rules}
use Rattle.header.proofs.Laws.{nibble-short, nibble-long}
use Rattle.header.proofs.bits_of.Goals as goal

pub returns-then-v-lt-SMALL : goal.returns-then-v-lt-SMALL
returns-then-v-lt-SMALL c = (nibble-short _ c.if-v-lt-SMALL.true, search rules)

pub returns-else-v-lt-SMALL : goal.returns-else-v-lt-SMALL
returns-else-v-lt-SMALL c = (nibble-long c.args.v _ c.if-v-lt-SMALL.false c.ranges.v.fits c.requires.0, search rules)

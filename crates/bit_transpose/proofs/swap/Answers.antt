-- SPDX-License-Identifier: MIT
-- `bit_transpose::swap` meets its contract.
-- Assumes nothing.
use borrow.Author.Rules.{rules}
use Rattle.bit_transpose.proofs.Swaps.{swapped}
use Rattle.bit_transpose.proofs.swap.Goals as goal

pub returns : goal.returns
returns c = swapped c.args.a c.args.b c.args.mask c.args.n c.requires.1 c.requires.0 (search rules) (search rules) (search rules)

-- SPDX-License-Identifier: MIT
use mathlib.Core.Path.{sym}
use native.Mathlib.Omega.{arith}
use lib.ListN.{drop_of_length-le}
use Rattle.octets.proofs.Laws.{part-rest}
use Rattle.frame.proofs.after.Goals as goal

pub returns-then-s-n : goal.returns-then-s-n
returns-then-s-n c = sym (drop_of_length-le c.args.s.now {i = c.args.n} (omega arith))

pub returns : goal.returns
returns c = part-rest c.args.n c.args.s.now

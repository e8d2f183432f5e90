-- SPDX-License-Identifier: MIT
-- `ghash::load` meets its contract: the number of 16 bytes is that of its two halves.
-- Assumes nothing.
use mathlib.Core.Path.{sym}
use Rattle.octets.proofs.Laws.{part-rest, number-add}
use Rattle.ghash.proofs.load.Goals as goal

pub returns : goal.returns
returns c =
    let b = c.args.b.now in
    rw (c.read_be64.ensures, c.read_be64-2.ensures, part-rest 8 b) (sym (number-add 8 8 b))

-- SPDX-License-Identifier: MIT
use Rattle.aes_rows.proofs.shifted.Goals as goal

pub returns : goal.returns
returns c =
    record {
      r0 = c.load_row-a.ensures;
      r1 = rw (← c.load_row.ensures) c.turn-b.ensures;
      r2 = rw (← c.load_row-2.ensures) c.turn-c.ensures;
      r3 = rw (← c.load_row-3.ensures) c.turn-d.ensures;
    }

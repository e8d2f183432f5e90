-- SPDX-License-Identifier: MIT
-- `aes::put` meets its contract: what is written to the front of the part is written at its index.
-- Assumes nothing.
use Prim.Native.Nat.{◌-◌}
use lib.ListN.{length}
use mathlib.Core.Path.{◌∙◌}
use native.Mathlib.Omega.{arith}
use Rattle.octets.specs.Octets.{bytes}
use Rattle.octets.proofs.Laws.{bytes-length, lent-pasted}
use Rattle.aes_block.proofs.put.Goals as goal

pub returns : goal.returns
returns c =
    let a = c.args in
    lent-pasted a.out.now _ (bytes 4 a.w) a.i (length a.out.now - a.i) (rw bytes-length (omega arith)) (omega arith) (c.write_be32.ensures ∙ rw bytes-length)

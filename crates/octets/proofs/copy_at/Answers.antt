-- SPDX-License-Identifier: MIT
use Prim.Native.Nat.{◌-◌}
use native.Mathlib.Omega.{arith}
use lib.ListN.{length}
use Rattle.octets.proofs.Laws.{lent-pasted}
use Rattle.octets.proofs.copy_at.Goals as goal

pub returns : goal.returns
returns c =
    let a = c.args in
    lent-pasted a.out.now _ a.src.now a.i (length a.out.now - a.i) (omega arith) (omega arith) c.copy.ensures

-- SPDX-License-Identifier: MIT
use Rattle.std.proofs.Common.{arith, rules}
use Rattle.octets.proofs.Loops.{bytes-start, rest-start, bytes-done, bytes_next, rest-next}
use Rattle.octets.proofs.write_be.Goals as goal

pub loop-i-init : goal.loop-i-init
loop-i-init c = (search rules, rest-start _ c.args.n, bytes-start _ c.args.n c.args.x)

pub loop-i-preserved : goal.loop-i-preserved
loop-i-preserved c =
    let inv = c.loop-i.invariant in (
      search rules,
      rest-next _ _ _ _ (omega arith) (omega arith) inv.1,
      bytes_next _ _ _ _ _ _ (omega arith) (omega arith) (omega arith) inv.1 inv.2,
    )

pub returns : goal.returns
returns c = bytes-done _ _ _ _ c.loop-i.i (omega arith) c.loop-i.invariant.2

-- SPDX-License-Identifier: MIT
use Rattle.std.proofs.Common.{arith}
use Rattle.octets.proofs.Loops.{copy-next, copied}
use Rattle.octets.proofs.copy.Goals as goal

pub loop-i-preserved : goal.loop-i-preserved
loop-i-preserved c = copy-next _ _ _ _ (omega arith) (omega arith) c.loop-i.invariant

pub returns : goal.returns
returns c = copied _ c.args.src.now c.args.out.now c.loop-i.i (omega arith) (omega arith) c.loop-i.invariant

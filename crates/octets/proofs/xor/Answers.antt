-- SPDX-License-Identifier: MIT
use Rattle.std.proofs.Common.{arith}
use Rattle.octets.proofs.Loops.{xors-start, xors-next}
use Rattle.octets.proofs.xor.Goals as goal

pub loop-i-init : goal.loop-i-init
loop-i-init c = xors-start _ _

pub loop-i-preserved : goal.loop-i-preserved
loop-i-preserved c = xors-next _ _ _ _ (omega arith) c.loop-i.invariant

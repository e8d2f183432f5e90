-- SPDX-License-Identifier: MIT
use mathlib.Core.Path.{refl}
use native.Mathlib.Omega.{arith}
use Rattle.key_record.proofs.Zeros.{any_next, any-before, any-done}
use Rattle.key_record.proofs.judging.is_zero.Goals as goal

pub loop-x-init : goal.loop-x-init
loop-x-init c = (omega arith, λ e. refl, λ e. refl)

pub loop-x-preserved : goal.loop-x-preserved
loop-x-preserved c = let b = c.args.b.now in let at = c.loop-x in (omega arith, any_next at.any at.x-index b (omega arith) at.invariant.1, any-before at.any at.x-index b (omega arith) at.invariant.2)

pub returns : goal.returns
returns c = any-done c.loop-x.any c.loop-x.x-index c.args.b.now c.loop-x.invariant.0 (omega arith) c.loop-x.invariant.1 c.loop-x.invariant.2

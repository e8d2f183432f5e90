-- SPDX-License-Identifier: MIT
use native.Mathlib.Omega.{arith}
use Rattle.group.proofs.Steps.{below_all, power-some, below_rest}
use Rattle.group.proofs.below.Goals as goal

pub returns-then-n-eq-KID_BITS : goal.returns-then-n-eq-KID_BITS
returns-then-n-eq-KID_BITS c = below_all _ _ c.ranges.x.fits c.if-n-eq-KID_BITS.true

pub nonzero_rem-result : goal.nonzero_rem-result
nonzero_rem-result c = omega (arith, power-some c.args.n c.requires c.if-n-eq-KID_BITS.false)

pub returns : goal.returns
returns c = below_rest _ _ c.requires c.if-n-eq-KID_BITS.false

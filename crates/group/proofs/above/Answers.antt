-- SPDX-License-Identifier: MIT
use Rattle.group.proofs.Steps.{above-none}
use Rattle.group.proofs.above.Goals as goal

pub returns-then-n-eq-KID_BITS : goal.returns-then-n-eq-KID_BITS
returns-then-n-eq-KID_BITS c = above-none _ _ c.ranges.x.fits c.if-n-eq-KID_BITS.true

-- SPDX-License-Identifier: MIT
use Rattle.group.proofs.Steps.{raised-none, raised_all}
use Rattle.group.proofs.raised.Goals as goal

pub returns-then-n-eq-KID_BITS : goal.returns-then-n-eq-KID_BITS
returns-then-n-eq-KID_BITS c = raised-none _ _ c.requires.1 c.if-n-eq-KID_BITS.true

pub returns : goal.returns
returns c = raised_all _ _ c.requires.1

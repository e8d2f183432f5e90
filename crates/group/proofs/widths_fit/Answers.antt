-- SPDX-License-Identifier: MIT
use Rattle.group.proofs.Steps.{widths-long, widths-told}
use Rattle.group.proofs.widths_fit.Goals as goal

pub returns-then-s-gt-KID_BITS : goal.returns-then-s-gt-KID_BITS
returns-then-s-gt-KID_BITS c = widths-long _ _ c.if-s-gt-KID_BITS.true

pub returns : goal.returns
returns c = widths-told _ _ c.if-s-gt-KID_BITS.false

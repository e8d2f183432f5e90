-- SPDX-License-Identifier: MIT
use Rattle.group.proofs.Steps.{bits-told}
use Rattle.group.proofs.in_bits.Goals as goal

pub returns : goal.returns
returns c = bits-told _ _ _ c.above.ensures

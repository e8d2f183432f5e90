-- SPDX-License-Identifier: MIT
use native.Mathlib.Omega.{arith}
use lib.Bits.{and_le_r}
use Rattle.aes_keys.proofs.Words.{eighth-bits}
use Rattle.aes_keys.proofs.schedule.eighths.Goals as goal

pub overflow_cast-result : goal.overflow_cast-result
overflow_cast-result c = omega (arith, and_le_r c.args.x 0x1010101)

pub returns : goal.returns
returns c = (eighth-bits c.args.x, and_le_r c.args.x 0x1010101)

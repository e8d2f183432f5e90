-- SPDX-License-Identifier: MIT
use Rattle.std.proofs.Common.{arith}
use Rattle.sha2_common.proofs.Steps.{padded-once, padded-twice}
use Rattle.sha2_common.proofs.running.padded_end.Goals as goal

pub returns-then-have-clause-padding : goal.returns-then-have-clause-padding
returns-then-have-clause-padding g c = λ p n e f h. padded-once p n g.row.BLOCK c.args.have e h (omega (arith, f))

pub returns-else-have-clause-padding : goal.returns-else-have-clause-padding
returns-else-have-clause-padding g c = λ p n e f h. padded-twice p n g.row.BLOCK c.args.have e h (omega arith) (omega (arith, f)) (omega (arith, f))

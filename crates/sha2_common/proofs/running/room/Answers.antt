-- SPDX-License-Identifier: MIT
use Rattle.std.proofs.Common.{refl, arith}
use Rattle.sha2_common.proofs.Steps.{room-filled}
use Rattle.sha2_common.proofs.running.room.Goals as goal

pub returns : goal.returns
returns g c = λ p e. room-filled p g.row.BLOCK e c.args.front.now c.args.back.now _ _ _ _ refl (omega arith) (omega arith) c.copy.ensures c.copy-2.ensures

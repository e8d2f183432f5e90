-- SPDX-License-Identifier: MIT
use Rattle.std.proofs.Common.{rules}
use Rattle.hmac.proofs.Steps.{masked-with}
use Rattle.hmac.proofs.keyed.masked_block.Goals as goal

pub returns : goal.returns
returns g c = (masked-with g.row.BLOCK c.args.block.now _ _ c.args.pad c.requires c.copy.ensures c.xor.ensures, search rules)

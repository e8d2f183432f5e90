-- SPDX-License-Identifier: MIT
use Rattle.octets.proofs.Loops.{written-high}
use Rattle.octets.proofs.write_be64.Goals as goal

pub returns : goal.returns
returns c = written-high 8 c.args.x _ _ _ c.to_be_bytes.ensures c.copy.ensures

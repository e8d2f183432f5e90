-- SPDX-License-Identifier: MIT
use Rattle.sha2_common.specs.Sizes.{sha256}
use Rattle.sha2_common.proofs.Bits.{maj-short}
use Rattle.sha256.proofs.Word256Word6432.maj.Goals as goal

pub returns : goal.returns
returns c = maj-short sha256 c.args.self.0 c.args.y.0 c.args.z.0

-- SPDX-License-Identifier: MIT
use Rattle.sha2_common.specs.Sizes.{sha512}
use Rattle.sha2_common.proofs.Bits.{maj-short}
use Rattle.sha512.proofs.Word512Word12864.maj.Goals as goal

pub returns : goal.returns
returns c = maj-short sha512 c.args.self.0 c.args.y.0 c.args.z.0

-- SPDX-License-Identifier: MIT
use Rattle.std.proofs.Common.{refl}
use Rattle.sha2_common.specs.Sizes.{constants512}
use Rattle.sha512.proofs.Word512Word12864.constant.Goals as goal

pub returns : goal.returns
unfolding constants512
returns c = refl

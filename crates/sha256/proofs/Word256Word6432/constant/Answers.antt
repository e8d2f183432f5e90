-- SPDX-License-Identifier: MIT
use Rattle.std.proofs.Common.{refl}
use Rattle.sha2_common.specs.Sizes.{constants256}
use Rattle.sha256.proofs.Word256Word6432.constant.Goals as goal

pub returns : goal.returns
unfolding constants256
returns c = refl

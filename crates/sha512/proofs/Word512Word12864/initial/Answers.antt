-- SPDX-License-Identifier: MIT
use Rattle.std.proofs.Common.{refl}
use Rattle.sha2_common.specs.Sizes.{initial512}
use Rattle.sha512.proofs.Word512Word12864.initial.Goals as goal

pub returns : goal.returns
unfolding initial512
returns c = refl

-- SPDX-License-Identifier: MIT
use Rattle.std.proofs.Common.{refl}
use Rattle.sha2_common.specs.Sizes.{initial256}
use Rattle.sha256.proofs.Word256Word6432.initial.Goals as goal

pub returns : goal.returns
unfolding initial256
returns c = refl

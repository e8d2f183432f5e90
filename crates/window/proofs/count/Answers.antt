-- SPDX-License-Identifier: MIT
use mathlib.Core.Path.{refl}
use Rattle.window.proofs.count.Goals as goal

pub returns : goal.returns
returns c = refl

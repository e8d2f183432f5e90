-- SPDX-License-Identifier: MIT
use mathlib.Core.Path.{refl}
use Rattle.window.specs.Window.{bit}
use Rattle.window.proofs.bit_of.Goals as goal

pub returns : goal.returns
unfolding bit
returns c = refl

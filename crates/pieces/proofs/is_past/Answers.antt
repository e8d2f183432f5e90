-- SPDX-License-Identifier: MIT
use Rattle.pieces.proofs.CallSteps.{past_is}
use mathlib.Core.Path.{refl}
use Rattle.pieces.proofs.is_past.Goals as goal

pub returns : goal.returns
returns c =
    past_is c.args.state.now c.args.n _ _ _ c.requires.1 c.announced_of.ensures.0 c.taken_of.ensures.0 refl

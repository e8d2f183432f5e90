-- SPDX-License-Identifier: MIT
use mathlib.Core.Path.{refl}
use Rattle.track_record.proofs.Steps.{retired-row}
use native.Mathlib.Omega.{arith}
use Rattle.track_record.proofs.row.retire.Goals as goal

pub returns : goal.returns
returns c =
    retired-row c.args.row.now (λ j. omega (arith, c.slice_known-1.given j)) c.requires.0 c.requires.1 _ _ c.clear.ensures refl

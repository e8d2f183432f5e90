-- SPDX-License-Identifier: MIT
use Rattle.track_record.proofs.Steps.{name-inside, name-read}
use native.Mathlib.Omega.{arith}
use mathlib.Core.Path.{refl}
use Rattle.track_record.proofs.row.name_of.Goals as goal

pub slice_bounds-result-end : goal.slice_bounds-result-end
slice_bounds-result-end c =
    omega (arith, name-inside c.args.row.now c.requires.1 _ 0 c.read_be.ensures.0 c.requires.0)

pub returns : goal.returns
returns c =
    name-read c.args.row.now c.requires.1 _ _ c.read_be.ensures.0 c.requires.0 refl

-- SPDX-License-Identifier: MIT
use Rattle.track_record.proofs.Steps.{advanced-row}
use native.Mathlib.Omega.{arith}
use mathlib.Core.Path.{◌∙◌}
use Rattle.track_record.proofs.row.advance.Goals as goal

pub returns : goal.returns
returns c =
    c.write_pair.ensures ∙ advanced-row c.args.row.now (λ j. omega (arith, c.slice_known-1.given j)) c.requires.0 c.requires.1 _

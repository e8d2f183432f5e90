-- SPDX-License-Identifier: MIT
use Rattle.track_record.proofs.Steps.{salt-read}
use native.Mathlib.Omega.{arith}
use lib.ListN.{length-take, length-drop}
use Rattle.track_record.proofs.row.salt_of.Goals as goal

pub returns : goal.returns
returns c = (salt-read c.args.row.now c.requires.1, simp (length-take, length-drop) (omega (arith, c.requires.0)))

-- SPDX-License-Identifier: MIT
use Rattle.track_record.proofs.Steps.{pair-written}
use lib.ListN.{length-set}
use native.Mathlib.Omega.{arith}
use Rattle.track_record.proofs.row.write_pair.Goals as goal

pub shape_of-row : goal.shape_of-row
shape_of-row c =
    simp length-set (omega (arith, c.write_be_at-2.auto.out, c.write_be_at.auto.out))

pub returns : goal.returns
returns c =
    let a = c.args in
    pair-written a.row.now _ _ a.pair.group.0 a.pair.object.0 c.requires.1 c.requires.0 c.write_be_at.ensures c.write_be_at-2.ensures

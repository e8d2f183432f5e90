-- SPDX-License-Identifier: MIT
use Rattle.track_record.proofs.Steps.{started}
use Rattle.suites.proofs.Laws.{number-byte}
use lib.ListN.{length-set}
use native.Mathlib.Omega.{arith}
use mathlib.Core.Path.{refl}
use Rattle.track_record.proofs.row.start.Goals as goal

pub overflow_cast-row : goal.overflow_cast-row
overflow_cast-row c =
    omega (arith, c.number.ensures, number-byte c.args.suite)

pub bounds-row-0 : goal.bounds-row-0
bounds-row-0 c =
    simp length-set (omega (arith, c.copy_at.auto.out, c.write_be_at-2.auto.out, c.write_be_at.auto.out, c.requires.1))

pub shape_of-row : goal.shape_of-row
shape_of-row c =
    simp length-set (omega (arith, c.copy_at.auto.out, c.write_be_at-2.auto.out, c.write_be_at.auto.out, c.requires.1))

pub returns : goal.returns
returns c =
    let a = c.args in
    started a.row.now _ _ _ _ a.kind a.suite _ _ a.track.id.0 a.track.name.now c.requires.0 c.requires.2 c.mark_of.ensures c.number.ensures c.write_be_at.ensures c.write_be_at-2.ensures c.copy_at.ensures refl

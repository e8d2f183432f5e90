-- SPDX-License-Identifier: MIT
use Rattle.track_record.proofs.Steps.{last_none, last_written, object-low}
use native.Mathlib.Omega.{arith}
use Rattle.track_record.proofs.judging.write_last.Goals as goal

pub returns-then-row-eq0 : goal.returns-then-row-eq0
returns-then-row-eq0 c =
    last_none c.args.row.now _ c.if-row-eq0.true

pub write_pair-requires : goal.write_pair-requires
write_pair-requires c =
    (c.requires.0, object-low c.args.row.now (λ j. omega (arith, c.shared_slice_known-1.given j)) _ c.read_be32-object.ensures)

pub returns : goal.returns
returns c =
    last_written c.args.row.now c.args.out.now _ _ _ c.if-row-eq0.false c.read_be64-group.ensures c.read_be32-object.ensures c.write_pair.ensures

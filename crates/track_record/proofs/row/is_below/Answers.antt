-- SPDX-License-Identifier: MIT
use mathlib.Core.Path.{refl}
use Rattle.track_record.proofs.Steps.{below-never, below-group, below-object}
use native.Mathlib.Omega.{arith}
use Rattle.track_record.proofs.row.is_below.Goals as goal

pub returns-then-row-eq0 : goal.returns-then-row-eq0
returns-then-row-eq0 c = below-never c.args.row.now c.requires.1 _ c.if-row-eq0.true

pub returns-then-pair-last : goal.returns-then-pair-last
returns-then-pair-last c =
    below-group c.args.row.now c.requires.1 (λ j. omega (arith, c.shared_slice_known-1.given j)) _ c.args.pair.object.0 _ _ c.requires.2 c.if-row-eq0.false c.read_be64-last.ensures refl c.if-pair-last.true

pub returns : goal.returns
returns c =
    below-object c.args.row.now c.requires.1 (λ j. omega (arith, c.shared_slice_known-1.given j)) _ c.args.pair.object.0 _ _ c.requires.2 c.if-row-eq0.false c.read_be64-last.ensures c.read_be32.ensures c.if-pair-last.false

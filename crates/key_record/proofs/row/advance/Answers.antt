-- SPDX-License-Identifier: MIT
use mathlib.Core.Path.{refl}
use native.Mathlib.Omega.{arith}
use Rattle.key_record.specs.Layout.{decode}
use Rattle.key_record.proofs.Fields.{below_left, advanced-told, last-told}
use Rattle.key_record.proofs.row.advance.Goals as goal

pub next_of-ctr-requires : goal.next_of-ctr-requires
next_of-ctr-requires c = (c.requires.0, c.requires.1, below_left (decode c.args.row.now) c.requires.2)

pub overflow_add-ctr : goal.overflow_add-ctr
overflow_add-ctr c =
    omega (arith, c.next_of-ctr.ensures, c.requires.2, c.if-ctr.false)

pub returns-then-ctr : goal.returns-then-ctr
returns-then-ctr c =
    last-told c.args.row.now _ (λ j. omega (arith, c.slice_known-1.given j)) c.requires.0 c.requires.1 c.requires.2 c.next_of-ctr.ensures _ c.if-ctr.true refl

pub returns-else-ctr : goal.returns-else-ctr
returns-else-ctr c =
    advanced-told c.args.row.now _ (λ j. omega (arith, c.slice_known-1.given j)) c.requires.0 c.requires.1 c.requires.2 c.next_of-ctr.ensures _ c.if-ctr.false c.write_be_at.ensures

-- SPDX-License-Identifier: MIT
use mathlib.Core.Path.{◌≡◌, ap}
use native.Mathlib.Omega.{arith}
use lib.ListN.{length, length-set}
use Rattle.key_record.proofs.Rows.{row-start}
use Rattle.key_record.specs.Layout.{record_size}
use Rattle.key_record.proofs.row.start.Goals as goal

pub write_be_at-requires : goal.write_be_at-requires
write_be_at-requires c = let n : length c.args.row.now ≡ record_size = ap length c.requires in omega arith

pub bounds-row-3 : goal.bounds-row-3
bounds-row-3 c =
    let n : length c.args.row.now ≡ record_size = ap length c.requires in omega (arith, c.write_be_at.auto.out)

pub bounds-row-1 : goal.bounds-row-1
bounds-row-1 c =
    let n : length c.args.row.now ≡ record_size = ap length c.requires in simp length-set (omega (arith, c.write_be_at.auto.out))

pub bounds-row-0 : goal.bounds-row-0
bounds-row-0 c =
    let n : length c.args.row.now ≡ record_size = ap length c.requires in simp length-set (omega (arith, c.write_be_at.auto.out))

pub returns : goal.returns
returns c =
    row-start c.args.row.now _ _ _ _ c.requires c.write_be_at.ensures

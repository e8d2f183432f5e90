-- SPDX-License-Identifier: MIT
-- `aes_rows::each_row` meets its contract.
-- Assumes nothing.
use borrow.Author.Rules.{rules}
use mathlib.Core.Path.{◌≡◌}
use native.Mathlib.Omega.{arith}
use Rattle.aes_rows.proofs.Sets.{each_start, each_step}
use Rattle.aes_rows.proofs.each_row.Goals as goal

pub loop-r-init : goal.loop-r-init
loop-r-init g c = each_start _ c.args.q.now c.requires.sized

pub loop-r-preserved : goal.loop-r-preserved
loop-r-preserved g c =
    each_step _ _ _ _ _ _ (search rules) c.loop-r.invariant
    (rw (← c.load_row.ensures) c.f-p.ensures) c.store_row.ensures

pub returns : goal.returns
returns g c = let e : c.loop-r.r ≡ 4 = omega arith in rw e at c.loop-r.invariant

-- SPDX-License-Identifier: MIT
-- `ghash::gather` meets its contract: the loop's invariant: the first k bytes are those from index i on.
-- Assumes nothing.
use mathlib.Core.Path.{◌≡◌, refl}
use mathlib.Core.List.{◌++◌}
use native.Mathlib.Omega.{arith}
use borrow.Author.Count.{below_none}
use lib.ListN.{length-set}
use Rattle.octets.proofs.Laws.{number-ext}
use Rattle.ghash.proofs.Absorbing.{gather-step}
use Rattle.ghash.proofs.gather.Goals as goal

pub loop-k-init : goal.loop-k-init
loop-k-init c = (refl, below_none _)

pub loop-k-preserved : goal.loop-k-preserved
loop-k-preserved c =
    let a = c.args in
    let v = c.loop-k.invariant in
    (simp length-set v.0, gather-step (a.a.now ++ a.b.now) c.loop-k.out a.i c.loop-k.k _ (omega arith) c.at.ensures v.1)

pub returns : goal.returns
returns c =
    let e : c.loop-k.k ≡ 16 = omega arith in
    number-ext 16 _ _ (rw e at c.loop-k.invariant.1)

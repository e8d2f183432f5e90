-- SPDX-License-Identifier: MIT
use mathlib.Core.Path.{◌≡◌, ◌∙◌, ap}
use Prim.Native.Nat.{◌+◌}
use borrow.Author.Rules.{rules}
use native.Mathlib.Omega.{arith}
use lib.ListN.{length}
use Rattle.aes_rows.specs.Rows.{state_planes}
use Rattle.aes_batch.proofs.Unslicing.{write-start, write-next, written-length, written}
use Rattle.aes_batch.proofs.write.Goals as goal

pub loop-i-init : goal.loop-i-init
loop-i-init c = (c.requires, write-start _ _)

pub loop-i-preserved : goal.loop-i-preserved
loop-i-preserved c =
    let next = write-next c.args.q.now c.args.out.now c.loop-i.out _ c.loop-i.i (omega arith) (search rules) c.loop-i.invariant.1 c.write_be64.ensures in
    (ap length next ∙ written-length c.args.q.now c.args.out.now (c.loop-i.i + 1) (search rules) (omega arith), next)

pub returns : goal.returns
returns c =
    let e : c.loop-i.i ≡ state_planes = omega arith in
    written c.args.q.now c.args.out.now _ (search rules) (rw e at c.loop-i.invariant.1)

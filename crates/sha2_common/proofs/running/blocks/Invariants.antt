-- SPDX-License-Identifier: MIT
use Rattle.std.proofs.Common.{◌≡◌, ◌*◌, ◌≤◌, length, drop}
use Rattle.sha2_common.specs.Sha2.{run}
use Rattle.sha2_common.proofs.running.blocks.Given as goal

abbrev pub invariant-loop-block : goal.invariant-loop-block
invariant-loop-block g l =
    let v = g.V.Value in
    (l.block-index ≤ length l.block-items) × (run v.params (v.words l.v) (drop (l.block-index * g.row.BLOCK) l.s) ≡ run v.params (v.words l.initial.v) l.s)

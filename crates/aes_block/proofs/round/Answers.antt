-- SPDX-License-Identifier: MIT
-- `aes::round` meets its contract.
-- Assumes nothing.
use Prim.Native.Nat.{ℕ, ◌+◌, ◌*◌}
use lib.ListN.{get_or}
use Rattle.aes_block.specs.declared.State.{State}
use Rattle.aes_block.proofs.Rounds.{round-columns, column-0, column-1, column-2, column-3}
use Rattle.aes_block.proofs.round.Goals as goal

pub returns : goal.returns
returns c =
    let a = c.args in
    let s : State = a.s in
    let k : ℕ → ℕ = λ i. get_or a.t.ctx.now i 0 in
    cc (
      round-columns a.t.ctx.now a.r s.c0 s.c1 s.c2 s.c3,
      column-0 (k (4 * a.r)) s.c0 s.c1 s.c2 s.c3,
      column-1 (k (4 * a.r + 1)) s.c1 s.c2 s.c3 s.c0,
      column-2 (k (4 * a.r + 2)) s.c2 s.c3 s.c0 s.c1,
      column-3 (k (4 * a.r + 3)) s.c3 s.c0 s.c1 s.c2,
    )

-- SPDX-License-Identifier: MIT
-- `aes_batch::encrypt` meets its contract.
-- Assumes nothing.
use mathlib.Core.Path.{◌≡◌}
use mathlib.Core.List.{List, []}
use Prim.Native.Nat.{ℕ, ◌+◌, ◌-◌, ◌/◌, ◌<◌}
use native.Mathlib.Omega.{arith}
use lib.ListN.{length, get_or}
use Rattle.aes_keys.specs.Inner.Keys.{key_of, planes_at, rounds_at}
use Rattle.aes_batch.proofs.Ciphers.{key-part, rounds-start, rounds-next, rounds-last}
use Rattle.aes_batch.proofs.encrypt.Goals as goal

pub loop-r-init : goal.loop-r-init
loop-r-init c = rounds-start _ _ c.add.ensures.sized

pub loop-r-preserved : goal.loop-r-preserved
loop-r-preserved c =
    let x : List ℕ = c.args.ctx.now in
    let r : ℕ = c.loop-r.r in
    let k = c.requires in
    let f : r - 1 + 1 ≡ r = omega arith in
    let g : r + 1 - 1 ≡ r - 1 + 1 = omega arith in
    rw g
    (rounds-next (key_of x) x _ k (r - 1) _ _ _ _ (omega (arith, k.rounds))
    (rw (f, c.as_chunks.ensures.front) (key-part r (length x / 32) x _ (omega (arith, k.rounds, k.key_size.most, k.keys.sized))))
    c.loop-r.invariant c.sub_rows.ensures c.mix.ensures)

pub returns : goal.returns
returns c =
    let x : List ℕ = c.args.ctx.now in
    let k = c.requires in
    let n : ℕ = get_or x rounds_at 0 in
    let d : c.loop-r.r ≡ n = omega (arith, k.rounds, k.key_size.least) in
    let part : (r : ℕ) → r < 15 → get_or c.as_chunks.result.0.now r [] ≡ planes_at x r =
    λ r h. rw c.as_chunks.ensures.front (key-part r (length x / 32) x _ (omega (arith, k.keys.sized))) in
    rounds-last (key_of x) x _ k n c.loop-r.r c.args.q.now _ _ _ _ _ k.rounds d (part 0 (omega arith)) c.add.ensures
    (part n (omega (arith, k.rounds, k.key_size.most))) c.loop-r.invariant c.sub_rows-2.ensures c.last.ensures

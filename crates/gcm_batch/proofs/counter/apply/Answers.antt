-- SPDX-License-Identifier: MIT
-- `gcm_batch::counter::apply` meets its contract.
-- Assumes nothing.
use mathlib.Core.Path.{◌≡◌, ap, ◌∙◌}
use Prim.Native.Nat.{ℕ, ◌+◌, ◌*◌}
use native.Mathlib.Omega.{arith}
use Rattle.aes_keys.specs.Inner.Keys.{key_of}
use Rattle.gcm.specs.Counter.{ctr_from}
use Rattle.gcm.proofs.Streams.{from_zero, from_start}
use Rattle.gcm_batch.proofs.counter.apply.Goals as goal

pub returns : goal.returns
returns c =
    let a = c.args in
    let e : 16 * a.count ≡ 16 * a.count + 0 = omega arith in
    c.apply_from.ensures
    ∙ ap (λ (i : ℕ). ctr_from (key_of a.ctx.now) a.nonce.now 0 i a.input.now) e
    ∙ from_zero (key_of a.ctx.now) a.nonce.now a.count 0 a.input.now
    ∙ from_start (key_of a.ctx.now) a.nonce.now a.count a.input.now

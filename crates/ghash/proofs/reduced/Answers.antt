-- SPDX-License-Identifier: MIT
-- `ghash::reduced` meets its contract: the high half stays, the low one is 128 times halved.
-- Assumes nothing.
use mathlib.Core.Path.{◌∙◌, ap}
use Prim.Native.Nat.{ℕ, ◌^◌, ◌<◌}
use native.Mathlib.Omega.{arith}
use lib.Bits.{bit_xor}
use Rattle.ghash.specs.Inner.HashKey.{value_of}
use Rattle.ghash.proofs.Steps.{reduction}
use borrow.Author.Rules.{rules}
use Rattle.ghash.proofs.reduced.Goals as goal

pub returns : goal.returns
returns c =
    let start_fits : (c.args.low.hi < 2 ^ 64) × (c.args.low.lo < 2 ^ 64) × (c.args.high.lo < 2 ^ 64) = (omega arith, omega arith, omega arith) in
    let mid-fits : (c.plus-mid.result.hi < 2 ^ 64) × (c.plus-mid.result.lo < 2 ^ 64) = (search rules, search rules) in
    let a = c.args in
    let m = c.plus-mid.result in
    let f = start_fits in
    let g = mid-fits in
    reduction a.low.hi a.low.lo a.high.hi a.high.lo m.hi m.lo f.1 f.2 g.0 g.1 f.0
    (value_of a.both) _ _ _
    (c.plus-mid.ensures ∙ ap (λ (x : ℕ). bit_xor x (value_of a.high)) c.plus.ensures)
    c.halved.ensures c.halved-2.ensures c.plus-2.ensures

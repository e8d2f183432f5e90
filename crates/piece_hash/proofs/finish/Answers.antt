-- SPDX-License-Identifier: MIT
use Rattle.piece_hash.proofs.Steps.{finished-held}
use Rattle.sha2_common.specs.Running.{State}
use mathlib.Core.Path.{◌≡◌, ap}
use native.Mathlib.Omega.{arith}
use Rattle.piece_hash.proofs.finish.Goals as goal

pub finish-requires : goal.finish-requires
finish-requires c =
    let e : c.load.result.len ≡ c.args.n = ap (λ (s : State). s.len) c.load.ensures in
    omega arith

pub returns : goal.returns
returns c =
    (finished-held _ c.args.n c.args.b.now _ c.load.ensures c.finish.ensures.2, c.finish.ensures.1)

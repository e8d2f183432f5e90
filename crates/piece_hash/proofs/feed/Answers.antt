-- SPDX-License-Identifier: MIT
use Rattle.piece_hash.proofs.Steps.{fed-held}
use Rattle.sha2_common.specs.Running.{State}
use mathlib.Core.Path.{◌≡◌, ap}
use native.Mathlib.Omega.{arith}
use Rattle.piece_hash.proofs.feed.Goals as goal

pub feed-h-requires : goal.feed-h-requires
feed-h-requires c =
    let e : c.load.result.len ≡ c.args.n = ap (λ (s : State). s.len) c.load.ensures in
    omega arith

pub returns : goal.returns
returns c =
    fed-held _ _ c.args.n c.args.b.now c.args.c.now _ c.load.ensures c.feed-h.ensures.2 c.save.ensures

-- SPDX-License-Identifier: MIT
use Rattle.piece_hash.proofs.Steps.{ended-blocks}
use mathlib.Core.Path.{refl}
use native.Mathlib.Omega.{arith}
use Rattle.piece_hash.proofs.finish_blocks.Goals as goal

pub returns : goal.returns
returns c =
    ended-blocks _ _ _ c.args.n _ c.args.b.now (omega arith) refl c.load.ensures c.absorb.ensures

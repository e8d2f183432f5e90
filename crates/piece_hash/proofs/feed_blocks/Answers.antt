-- SPDX-License-Identifier: MIT
use Rattle.piece_hash.proofs.Steps.{fed-blocks}
use mathlib.Core.Path.{refl}
use native.Mathlib.Omega.{arith}
use Rattle.piece_hash.proofs.feed_blocks.Goals as goal

pub returns : goal.returns
returns c =
    fed-blocks _ _ _ c.args.n _ c.args.b.now c.args.c.now _ (omega arith) refl c.load.ensures c.absorb-y.ensures c.save_rest.ensures

-- SPDX-License-Identifier: MIT
use mathlib.Core.Path.{refl}
use Rattle.piece_hash.proofs.Steps.{block-kept}
use Rattle.sha2_common.specs.Sizes.{sha256}
use Rattle.piece_hash.proofs.save_block.Goals as goal

pub returns : goal.returns
returns c =
    block-kept _ c.args.waiting.now _ _ _ c.store.ensures (c.room-w.ensures sha256 refl) c.put.ensures

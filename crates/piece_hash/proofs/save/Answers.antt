-- SPDX-License-Identifier: MIT
use Rattle.piece_hash.proofs.Steps.{saved}
use Rattle.sha256.specs.Inner.State.{state256}
use Rattle.piece_hash.proofs.save.Goals as goal

pub returns : goal.returns
returns c =
    saved (state256 c.args.h) _ _ c.digest-value.ensures c.put.ensures

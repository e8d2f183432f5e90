-- SPDX-License-Identifier: MIT
use mathlib.Core.Path.{refl}
use Rattle.piece_hash.proofs.Steps.{loaded}
use native.Mathlib.Omega.{arith}
use Rattle.sha2_common.specs.Sizes.{sha256}
use Rattle.piece_hash.proofs.load.Goals as goal

pub returns : goal.returns
returns c =
    loaded c.args.b.now _ _ c.args.n (omega arith) c.words-value.ensures (c.room-waiting.ensures sha256 refl)

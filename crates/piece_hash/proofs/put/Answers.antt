-- SPDX-License-Identifier: MIT
use Rattle.piece_hash.proofs.Steps.{filled}
use native.Mathlib.Omega.{arith}
use Rattle.piece_hash.proofs.put.Goals as goal

pub returns : goal.returns
returns c =
    filled c.args.b.now c.args.value.now c.args.waiting.now _ _ 32 (omega arith) (omega arith) c.copy_at.ensures c.copy_at-2.ensures

-- SPDX-License-Identifier: MIT
use Rattle.piece_hash.proofs.Steps.{filled}
use lib.ListN.{length}
use mathlib.Core.Path.{refl}
use native.Mathlib.Omega.{arith}
use borrow.Author.Rules.{rules}
use Rattle.piece_hash.proofs.joined.Goals as goal

pub returns : goal.returns
returns c =
    (filled _ c.args.front.now c.args.back.now _ _ (length c.args.front.now) refl (omega arith) c.copy_at.ensures c.copy_at-2.ensures, search rules)

-- SPDX-License-Identifier: MIT
-- `ghash::store` meets its contract: the bytes of the two halves are those of the number.
-- Assumes nothing.
use native.Mathlib.Omega.{arith}
use Rattle.ghash.proofs.Absorbing.{stored-block}
use Rattle.ghash.proofs.store.Goals as goal

pub returns : goal.returns
returns c =
    stored-block c.args.out.now _ _ c.args.b.hi c.args.b.lo c.requires (omega arith) c.write_be64.ensures c.write_be64-2.ensures

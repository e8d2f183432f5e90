-- SPDX-License-Identifier: MIT
-- `ghash::join` meets its contract: the product in the middle lies across the halves.
-- Assumes nothing.
use native.Mathlib.Omega.{arith}
use Rattle.ghash.proofs.Steps.{joined}
use Rattle.ghash.proofs.join.Goals as goal

pub returns : goal.returns
returns c = joined c.args.low c.args.high c.args.both (omega arith) (omega arith) (omega arith)

-- SPDX-License-Identifier: MIT
-- `aes::add_round_key` meets its contract.
-- Assumes nothing.
use Prim.Native.Nat.{◌*◌}
use native.Mathlib.Nat.{add-zero}
use Rattle.aes.specs.Aes.{add_round_key}
use Rattle.aes_block.proofs.add_round_key.Goals as goal

pub returns : goal.returns
unfolding add_round_key
returns c =
    cc (add-zero (4 * c.args.r))

-- SPDX-License-Identifier: MIT
-- `aes::load` meets its contract: each column is read from its own four bytes.
-- Assumes nothing.
use mathlib.Core.List.{List}
use Prim.Native.Nat.{ℕ}
use Rattle.octets.proofs.Laws.{part-rest}
use Rattle.aes.specs.Aes.{state_of}
use Rattle.aes_block.proofs.load.Goals as goal

pub returns : goal.returns
unfolding state_of
returns c =
    let b : List ℕ = c.args.block.now in
    cc (part-rest 4 b, part-rest 8 b, part-rest 12 b)

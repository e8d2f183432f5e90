-- SPDX-License-Identifier: MIT
-- `aes::schedule::round_constant` meets its contract.
-- Assumes nothing.
use native.Mathlib.Omega.{arith}
use Prim.Native.Nat.{◌-◌}
use Rattle.aes.specs.Aes.{word, rcon}
use Rattle.aes.proofs.Expansion.{x_power-lt}
use Rattle.aes.proofs.schedule.round_constant.Goals as goal

pub overflow_cast-result : goal.overflow_cast-result
overflow_cast-result c =
    let k = c.args.j - 1 in
    omega (arith, c.requires.rcon_table.entry k (omega arith), x_power-lt k)

pub overflow_mul-result : goal.overflow_mul-result
overflow_mul-result c =
    let k = c.args.j - 1 in
    omega (arith, c.requires.rcon_table.entry k (omega arith), x_power-lt k)

pub returns : goal.returns
unfolding rcon word
returns c = rw (c.requires.rcon_table.entry (c.args.j - 1) (omega arith)) (omega arith)

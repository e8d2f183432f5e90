-- SPDX-License-Identifier: MIT
-- `aes_tables::round_constants` meets its contract: the rule of the round constants is tested at each of them.
-- Assumes nothing.
use mathlib.Core.Path.{refl}
use Rattle.aes_tables.specs.Field.{x_times, x_power}
use Rattle.aes_tables.proofs.Powers.{rcon-table}
use Rattle.aes_tables.proofs.round_constants.Goals as goal

pub returns : goal.returns
unfolding x_power x_times
returns c = rcon-table _ tt refl

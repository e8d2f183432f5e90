-- SPDX-License-Identifier: MIT
-- `aes_round_table::table` meets its contract: the rule of the table is tested at each of its entries.
-- Assumes nothing.
use mathlib.Core.Path.{refl}
use Rattle.aes_tables.specs.Field.{products, x_times, mul, squares, inverse, affine_bit, affine_bits, s_box}
use Rattle.aes_round_table.specs.Inner.RoundTable.{mixed_first, twice}
use Rattle.aes_round_table.proofs.Entries.{standing, right, round-table}
use Rattle.aes_round_table.proofs.table.Goals as goal

pub returns : goal.returns
unfolding right standing twice mixed_first products x_times mul squares inverse affine_bit affine_bits s_box
returns c = round-table _ tt refl

-- SPDX-License-Identifier: MIT
-- `aes_tables::s_box` meets its contract: the rule of the S-box is tested at each of its entries.
-- Assumes nothing.
use mathlib.Core.Path.{refl}
use Rattle.aes_tables.specs.Field.{products, x_times, mul, squares, inverse, affine_bit, affine_bits, s_box}
use Rattle.aes_tables.proofs.SBox.{right, s-box-table}
use Rattle.aes_tables.proofs.s_box.Goals as goal

pub returns : goal.returns
unfolding right products x_times mul squares inverse affine_bit affine_bits s_box
returns c = s-box-table _ tt refl

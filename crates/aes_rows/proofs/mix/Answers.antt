-- SPDX-License-Identifier: MIT
-- `aes_rows::mix` meets its contract.
-- Assumes nothing.
use native.Mathlib.Omega.{arith}
use Rattle.aes_rows.proofs.Mixing.{all-mixed}
use Rattle.aes_rows.proofs.mix.Goals as goal

pub mix_into-requires-2 : goal.mix_into-requires-2
mix_into-requires-2 c =
    (c.mix_into.ensures.sized, c.requires.1, omega arith)

pub mix_into-requires-3 : goal.mix_into-requires-3
mix_into-requires-3 c =
    (c.mix_into-2.ensures.sized, c.requires.1, omega arith)

pub mix_into-requires-4 : goal.mix_into-requires-4
mix_into-requires-4 c =
    (c.mix_into-3.ensures.sized, c.requires.1, omega arith)

pub returns : goal.returns
returns c =
    all-mixed _ _ _ _ _ _ _ c.shifted-s.ensures _ _ _ _ c.plus-s01.ensures
    c.plus-s12.ensures c.plus-s23.ensures c.plus-s30.ensures c.mix_into.ensures
    c.mix_into-2.ensures c.mix_into-3.ensures c.mix_into-4.ensures

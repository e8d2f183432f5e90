-- SPDX-License-Identifier: MIT
-- `bit_transpose::columns` meets its contract.
-- Assumes nothing.
use native.Mathlib.Omega.{arith}
use Rattle.bit_transpose.proofs.Swaps.{mask-8, mask-16, mask-32}
use Rattle.bit_transpose.proofs.Bytes.{in-columns}
use Rattle.bit_transpose.proofs.columns.Goals as goal

pub swap-x-requires : goal.swap-x-requires
swap-x-requires c = (omega arith, mask-8)

pub swap-y-requires : goal.swap-y-requires
swap-y-requires c = (omega arith, mask-8)

pub swap-s-requires : goal.swap-s-requires
swap-s-requires c = (omega arith, mask-16)

pub swap-t-requires : goal.swap-t-requires
swap-t-requires c = (omega arith, mask-16)

pub swap-u-requires : goal.swap-u-requires
swap-u-requires c = (omega arith, mask-32)

pub swap-v-requires : goal.swap-v-requires
swap-v-requires c = (omega arith, mask-32)

pub returns : goal.returns
returns c =
    let answered = in-columns _ _ _ _ _ _ _ _ _ _ _ _ _ _ _ _
    c.swap-x.ensures c.swap-y.ensures c.swap-s.ensures c.swap-t.ensures
    c.swap-u.ensures c.swap-v.ensures c.swap-u.ensures.small.1 c.swap-u.ensures.small.0
    c.swap-v.ensures.small.1 c.swap-v.ensures.small.0 in record { a_value = answered.0; c_value = answered.1 }

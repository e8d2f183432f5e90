-- SPDX-License-Identifier: MIT
-- `bit_transpose::transpose` meets its contract.
-- Assumes nothing.
use native.Mathlib.Omega.{arith}
use Rattle.bit_transpose.proofs.Swaps.{mask-1, mask-2, mask-4}
use Rattle.bit_transpose.proofs.Bytes.{transposed}
use Rattle.bit_transpose.proofs.transpose.Goals as goal

pub swap-a-requires : goal.swap-a-requires
swap-a-requires c = (omega arith, mask-1)

pub swap-b-requires : goal.swap-b-requires
swap-b-requires c = (omega arith, mask-1)

pub swap-c-requires : goal.swap-c-requires
swap-c-requires c = (omega arith, mask-1)

pub swap-d-requires : goal.swap-d-requires
swap-d-requires c = (omega arith, mask-1)

pub swap-e-requires : goal.swap-e-requires
swap-e-requires c = (omega arith, mask-2)

pub swap-f-requires : goal.swap-f-requires
swap-f-requires c = (omega arith, mask-2)

pub swap-g-requires : goal.swap-g-requires
swap-g-requires c = (omega arith, mask-2)

pub swap-h-requires : goal.swap-h-requires
swap-h-requires c = (omega arith, mask-2)

pub swap-s-requires : goal.swap-s-requires
swap-s-requires c = (omega arith, mask-4)

pub swap-t-requires : goal.swap-t-requires
swap-t-requires c = (omega arith, mask-4)

pub swap-u-requires : goal.swap-u-requires
swap-u-requires c = (omega arith, mask-4)

pub swap-v-requires : goal.swap-v-requires
swap-v-requires c = (omega arith, mask-4)

pub returns : goal.returns
returns c =
    transposed _ _ _ _ _ _ _ _ _ _ _ _ _ _ _ _ _ _
    c.swap-a.ensures c.swap-b.ensures c.swap-c.ensures c.swap-d.ensures
    c.swap-e.ensures c.swap-f.ensures c.swap-g.ensures c.swap-h.ensures
    c.swap-s.ensures c.swap-t.ensures c.swap-u.ensures c.swap-v.ensures

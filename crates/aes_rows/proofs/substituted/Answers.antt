-- SPDX-License-Identifier: MIT
-- `aes_rows::substituted` meets its contract.
-- Assumes nothing.
use Rattle.bitslice.proofs.SBox.{by_parts}
use Rattle.aes_rows.proofs.substituted.Goals as goal

pub returns : goal.returns
returns c = by_parts _ _ _ _ _ _ c.top-y.ensures c.products.ensures c.inverse-t.ensures c.scaled.ensures c.bottom.ensures

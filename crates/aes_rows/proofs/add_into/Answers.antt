-- SPDX-License-Identifier: MIT
use Rattle.aes_rows.proofs.Mixing.{row-added}
use Rattle.aes_rows.proofs.add_into.Goals as goal

pub returns : goal.returns
returns c =
    row-added _ _ _ _ _ _ _ c.load_row.ensures c.plus-p.ensures c.store_row.ensures

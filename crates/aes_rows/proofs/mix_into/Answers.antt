-- SPDX-License-Identifier: MIT
use Rattle.aes_rows.proofs.Mixing.{row-mixed}
use Rattle.aes_rows.proofs.mix_into.Goals as goal

pub returns : goal.returns
returns c =
    row-mixed _ _ _ _ _ _ _ _ _ c.load_row.ensures c.mix-p.ensures c.store_row.ensures

-- SPDX-License-Identifier: MIT
use Rattle.aes_rows.proofs.Mixing.{all-shifted}
use Rattle.aes_rows.proofs.last.Goals as goal

pub returns : goal.returns
returns c =
    all-shifted _ _ _ _ _ _ _ c.shifted-s.ensures c.add_into.ensures c.add_into-2.ensures
    c.add_into-3.ensures c.add_into-4.ensures

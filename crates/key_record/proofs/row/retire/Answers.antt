-- SPDX-License-Identifier: MIT
use native.Mathlib.Omega.{arith}
use Rattle.key_record.proofs.Fields.{retired-row, retired-told}
use Rattle.key_record.proofs.row.retire.Goals as goal

pub returns : goal.returns
returns c =
    retired-told c.args.row.now _ (λ j. omega (arith, c.slice_known-1.given j)) c.requires.0 c.requires.1 (retired-row c.args.row.now _ c.requires.0.0 c.clear.ensures)

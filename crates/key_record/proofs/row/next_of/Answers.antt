-- SPDX-License-Identifier: MIT
use native.Mathlib.Omega.{arith}
use Rattle.key_record.proofs.Fields.{counter-told}
use Rattle.key_record.proofs.row.next_of.Goals as goal

pub returns : goal.returns
returns c =
    counter-told c.args.row.now (λ j. omega (arith, c.shared_slice_known-1.given j)) c.requires.0 _ c.requires.2 c.read_be64.ensures

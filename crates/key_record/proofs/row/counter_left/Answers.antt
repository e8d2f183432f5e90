-- SPDX-License-Identifier: MIT
use native.Mathlib.Omega.{arith}
use Rattle.key_record.proofs.Fields.{left-told}
use Rattle.key_record.proofs.row.counter_left.Goals as goal

pub returns : goal.returns
returns c =
    left-told c.args.row.now (λ j. omega (arith, c.shared_slice_known-1.given j)) c.requires.0

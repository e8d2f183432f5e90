-- SPDX-License-Identifier: MIT
use mathlib.Core.Path.{refl}
use native.Mathlib.Omega.{arith}
use Rattle.key_record.proofs.Fields.{salt-told}
use Rattle.key_record.proofs.row.salt_of.Goals as goal

pub slice_bounds-result-end : goal.slice_bounds-result-end
slice_bounds-result-end c = omega (arith, c.requires.0.0)

pub returns : goal.returns
returns c = salt-told c.args.row.now c.requires.0 _ refl c.requires.1

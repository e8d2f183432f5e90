-- SPDX-License-Identifier: MIT
use mathlib.Core.Path.{refl}
use native.Mathlib.Omega.{arith}
use Rattle.suites.proofs.Laws.{Nk-most}
use Rattle.key_record.proofs.Fields.{key-inside, key-told}
use Rattle.key_record.proofs.row.key_of.Goals as goal

pub overflow_add-end : goal.overflow_add-end
overflow_add-end c = omega (arith, c.key_size-end.ensures, Nk-most c.args.suite)

pub slice_bounds-result-end : goal.slice_bounds-result-end
slice_bounds-result-end c = key-inside c.args.row.now c.requires.0 c.args.suite _ _ c.key_size-end.ensures refl

pub returns : goal.returns
returns c = key-told c.args.row.now c.requires.0 c.args.suite _ _ c.key_size-end.ensures refl c.requires.1 c.requires.2

-- SPDX-License-Identifier: MIT
use Rattle.track_record.proofs.Steps.{key-read}
use Rattle.suites.proofs.Laws.{Nk-most}
use native.Mathlib.Omega.{arith}
use lib.ListN.{length-take, length-drop}
use Prim.Native.Nat.{◌+◌}
use mathlib.Core.Path.{ap}
use borrow.Author.Rules.{rules}
use Rattle.track_record.proofs.row.key_of.Goals as goal

pub overflow_add-end : goal.overflow_add-end
overflow_add-end c =
    let m = Nk-most c.args.suite in
    search rules

pub slice_bounds-result-end : goal.slice_bounds-result-end
slice_bounds-result-end c =
    let m = Nk-most c.args.suite in
    search rules

pub returns : goal.returns
returns c =
    let m = Nk-most c.args.suite in
    (key-read c.args.row.now c.args.suite _ c.requires.1 (ap (λ n. 40 + n) c.key_size-end.ensures), simp (length-take, length-drop) (omega (arith, c.requires.0, c.key_size-end.ensures)))

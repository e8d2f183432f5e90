-- SPDX-License-Identifier: MIT
use Rattle.track_record.proofs.Steps.{filled}
use Rattle.suites.proofs.Laws.{Nk-most}
use Prim.Native.Nat.{◌+◌}
use mathlib.Core.Path.{refl, ◌∙◌, ap}
use borrow.Author.Rules.{rules}
use Rattle.track_record.proofs.row.fill.Goals as goal

pub overflow_add-end : goal.overflow_add-end
overflow_add-end c =
    let m = Nk-most c.args.suite in
    search rules

pub slice_bounds-derive_key-end : goal.slice_bounds-derive_key-end
slice_bounds-derive_key-end c =
    let m = Nk-most c.args.suite in
    search rules

pub returns : goal.returns
returns c =
    let a = c.args in
    filled a.role a.suite a.track.id.0 a.track.name.now a.base.now _ _ _ _ _ _ _ c.kind_for.ensures (c.start.auto.row ∙ c.requires.1) c.start.ensures c.derive_salt.ensures refl (ap (λ n. 40 + n) c.key_size-end.ensures) c.derive_key.ensures refl

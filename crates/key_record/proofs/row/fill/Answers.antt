-- SPDX-License-Identifier: MIT
use mathlib.Core.Path.{refl, ap}
use Prim.Native.Nat.{ℕ, ◌+◌}
use borrow.Author.Rules.{rules}
use Rattle.suites.proofs.Laws.{number-byte, Nk-most}
use Rattle.key_record.specs.Layout.{salt_at, key_at}
use Rattle.key_record.proofs.Fields.{empty-size, empty-zeros, row-filled}
use Rattle.key_record.proofs.row.fill.Goals as goal

pub overflow_cast-number : goal.overflow_cast-number
overflow_cast-number c =
    let n = number-byte c.args.suite in search rules

pub start-requires : goal.start-requires
start-requires c =
    empty-zeros _ c.requires.0

pub slice_bounds-derive_salt-end : goal.slice_bounds-derive_salt-end
slice_bounds-derive_salt-end c =
    let n = empty-size _ c.requires.0 in search rules

pub overflow_add-key_end : goal.overflow_add-key_end
overflow_add-key_end c =
    let n = Nk-most c.args.suite in search rules

pub slice_bounds-derive_key-end : goal.slice_bounds-derive_key-end
slice_bounds-derive_key-end c =
    let n = Nk-most c.args.suite in
    let m = empty-size _ c.requires.0 in
    search rules

pub returns : goal.returns
returns c =
    row-filled c.args.role c.args.suite c.args.kid.0 _ _ c.args.base.now _ _ _ _ _ _ _ c.mark_for.ensures c.number.ensures c.derive_salt.ensures c.derive_key.ensures (ap (λ (n : ℕ). salt_at + n) c.nonce_size-salt_end.ensures) (ap (λ (n : ℕ). key_at + n) c.key_size-key_end.ensures) c.start.ensures refl refl

-- SPDX-License-Identifier: MIT
use mathlib.Core.Path.{refl, ◌∙◌}
use Prim.Native.Nat.{◌+◌, ◌*◌, ◌≤◌}
use native.Mathlib.Omega.{arith}
use lib.ListN.{length, length-take, length-drop}
use Rattle.key_record.specs.Layout.{record_size}
use Rattle.key_record.specs.Inner.Rows.{fresh}
use Rattle.store.proofs.Moves.{opened-length, cleared-length, gap_is, gap-filled}
use Rattle.store.proofs.Places.{place_inside, insert-within, insert-bytes, empty-length, fresh_holds}
use Rattle.store.proofs.insert_at.Goals as goal

pub overflow_mul-at : goal.overflow_mul-at
overflow_mul-at c =
    let inside : c.args.i * record_size + record_size ≤ length c.args.store.now = place_inside c.args.store.now c.args.i (insert-within _ _ _ c.requires.0) in
    omega (arith, inside)

pub slice_bounds-move_up-count : goal.slice_bounds-move_up-count
slice_bounds-move_up-count c =
    let inside : c.args.i * record_size + record_size ≤ length c.args.store.now = place_inside c.args.store.now c.args.i (insert-within _ _ _ c.requires.0) in
    omega (arith, inside)

pub slice_bounds-move_up-start : goal.slice_bounds-move_up-start
slice_bounds-move_up-start c =
    let inside : c.args.i * record_size + record_size ≤ length c.args.store.now = place_inside c.args.store.now c.args.i (insert-within _ _ _ c.requires.0) in
    omega (arith, inside)

pub move_up-requires : goal.move_up-requires
move_up-requires c =
    let inside : c.args.i * record_size + record_size ≤ length c.args.store.now = place_inside c.args.store.now c.args.i (insert-within _ _ _ c.requires.0) in
    let h = inside in simp (length-take, length-drop) (omega arith)

pub overflow_add-end : goal.overflow_add-end
overflow_add-end c =
    let inside : c.args.i * record_size + record_size ≤ length c.args.store.now = place_inside c.args.store.now c.args.i (insert-within _ _ _ c.requires.0) in
    omega (arith, inside)

pub slice_bounds-clear-end : goal.slice_bounds-clear-end
slice_bounds-clear-end c =
    let inside : c.args.i * record_size + record_size ≤ length c.args.store.now = place_inside c.args.store.now c.args.i (insert-within _ _ _ c.requires.0) in
    omega (arith, inside, opened-length c.args.store.now _ _ _ (inside) refl c.move_up.ensures)

pub slice_bounds-fill-end : goal.slice_bounds-fill-end
slice_bounds-fill-end c =
    let inside : c.args.i * record_size + record_size ≤ length c.args.store.now = place_inside c.args.store.now c.args.i (insert-within _ _ _ c.requires.0) in
    omega (arith, inside, cleared-length c.args.store.now _ _ _ (inside) refl c.move_up.ensures c.clear.new.row (empty-length c.clear.new.row c.clear.ensures))

pub fill-requires : goal.fill-requires
fill-requires c =
    let inside : c.args.i * record_size + record_size ≤ length c.args.store.now = place_inside c.args.store.now c.args.i (insert-within _ _ _ c.requires.0) in
    (gap_is c.args.store.now _ _ _ (inside) refl c.move_up.ensures c.clear.new.row (empty-length c.clear.new.row c.clear.ensures) ∙ c.clear.ensures, c.requires.1)

pub returns : goal.returns
returns c =
    let inside : c.args.i * record_size + record_size ≤ length c.args.store.now = place_inside c.args.store.now c.args.i (insert-within _ _ _ c.requires.0) in
    let o = c.slice_known-1.given in
    gap-filled c.args.store.now c.move_up.new.s (c.args.i * record_size) _ (inside) refl c.move_up.ensures c.clear.new.row (empty-length c.clear.new.row c.clear.ensures) c.fill.new.row
    ∙ insert-bytes c.args.store.now c.args.i c.args.kid.0 c.requires.0 (λ j. omega (arith, o j)) (fresh c.args.role c.args.suite c.args.kid.0 c.args.base.now) c.fill.new.row (fresh_holds c.args.role c.args.suite c.args.kid.0 c.args.base.now) c.fill.ensures

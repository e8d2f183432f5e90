-- SPDX-License-Identifier: MIT
use mathlib.Core.Path.{◌≡◌, ◌∙◌}
use Prim.Native.Nat.{◌+◌, ◌*◌, ◌-◌, ◌≤◌}
use native.Mathlib.Omega.{arith}
use lib.ListN.{length, length-take, length-drop}
use borrow.Rule.Slice.PartMut.{put_mid}
use Rattle.key_record.specs.Layout.{record_size}
use Rattle.store.proofs.Moves.{moved_length, gap-closed}
use Rattle.store.proofs.Places.{place_inside, close-bytes}
use Rattle.store.proofs.close_at.Goals as goal

pub overflow_mul-at : goal.overflow_mul-at
overflow_mul-at c =
    let inside : c.args.i * record_size + record_size ≤ length c.args.store.now = place_inside c.args.store.now c.args.i c.requires in
    omega (arith, inside)

pub slice_bounds-move_down-count : goal.slice_bounds-move_down-count
slice_bounds-move_down-count c =
    let inside : c.args.i * record_size + record_size ≤ length c.args.store.now = place_inside c.args.store.now c.args.i c.requires in
    omega (arith, inside)

pub slice_bounds-move_down-start : goal.slice_bounds-move_down-start
slice_bounds-move_down-start c =
    let inside : c.args.i * record_size + record_size ≤ length c.args.store.now = place_inside c.args.store.now c.args.i c.requires in
    omega (arith, inside)

pub move_down-requires : goal.move_down-requires
move_down-requires c =
    let inside : c.args.i * record_size + record_size ≤ length c.args.store.now = place_inside c.args.store.now c.args.i c.requires in
    let h = inside in simp (length-take, length-drop) (omega arith)

pub overflow_sub-last : goal.overflow_sub-last
overflow_sub-last c =
    let inside : c.args.i * record_size + record_size ≤ length c.args.store.now = place_inside c.args.store.now c.args.i c.requires in
    omega (arith, inside, moved_length c.args.store.now _ _ (inside) c.move_down.ensures)

pub clear-requires : goal.clear-requires
clear-requires c =
    let inside : c.args.i * record_size + record_size ≤ length c.args.store.now = place_inside c.args.store.now c.args.i c.requires in
    let h = inside in
    let n = moved_length c.args.store.now _ _ (inside) c.move_down.ensures in
    simp (length-take, length-drop) (omega arith)

pub returns : goal.returns
returns c =
    let inside : c.args.i * record_size + record_size ≤ length c.args.store.now = place_inside c.args.store.now c.args.i c.requires in
    let o = c.slice_known-1.given in
    let h = inside in
    let s1 = put_mid (c.args.i * record_size) (length c.args.store.now - c.args.i * record_size) c.args.store.now c.move_down.new.s in
    let n = moved_length c.args.store.now _ _ (inside) c.move_down.ensures in
    let l : length s1 - record_size ≡ length c.args.store.now - record_size = omega arith in
    let w : length s1 - (length s1 - record_size) ≡ record_size = omega arith in
    gap-closed c.args.store.now _ _ (inside) c.move_down.ensures c.clear.new.row _ _ l w
    ∙ close-bytes c.args.store.now c.args.i c.requires (λ j. omega (arith, o j)) _ c.clear.ensures

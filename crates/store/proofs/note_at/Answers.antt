-- SPDX-License-Identifier: MIT
use mathlib.Core.Path.{refl, ◌∙◌, ap}
use Prim.Native.Nat.{◌+◌, ◌*◌, ◌≤◌}
use native.Mathlib.Omega.{arith}
use lib.ListN.{length}
use Rattle.key_record.specs.Layout.{record_size, encode}
use Rattle.window.specs.Window.{seen, too_old}
use Rattle.key_record.specs.Record.{KeyRecord, is_receiving, window_of, noted}
use Rattle.store.proofs.Places.{place_inside, place-row, place-changed}
use Rattle.store.proofs.note_at.Goals as goal

pub overflow_mul-at : goal.overflow_mul-at
overflow_mul-at c =
    let inside : c.args.i * record_size + record_size ≤ length c.args.store.now = place_inside c.args.store.now c.args.i c.requires.0 in
    omega (arith, inside)

pub overflow_add-end : goal.overflow_add-end
overflow_add-end c =
    let inside : c.args.i * record_size + record_size ≤ length c.args.store.now = place_inside c.args.store.now c.args.i c.requires.0 in
    omega (arith, inside)

pub slice_bounds-note-end : goal.slice_bounds-note-end
slice_bounds-note-end c =
    let inside : c.args.i * record_size + record_size ≤ length c.args.store.now = place_inside c.args.store.now c.args.i c.requires.0 in
    omega (arith, inside)

pub note-requires : goal.note-requires
note-requires c =
    let q = place-row c.args.store.now c.args.i c.requires.0 _ refl in (
      q.0,
      ap is_receiving q.1 ∙ c.requires.1,
      ap (λ (r : KeyRecord). seen (window_of r) c.args.ctr.0) q.1 ∙ c.requires.2,
      ap (λ (r : KeyRecord). too_old (window_of r) c.args.ctr.0) q.1 ∙ c.requires.3,
    )

pub returns : goal.returns
returns c =
    let q = place-row c.args.store.now c.args.i c.requires.0 _ refl in place-changed c.args.store.now c.args.i c.requires.0 _ refl (λ j. omega (arith, c.slice_known-1.given j)) _ _ _ refl (c.note.ensures ∙ ap (λ (r : KeyRecord). encode (noted c.args.ctr.0 r)) q.1)

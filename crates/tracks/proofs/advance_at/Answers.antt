-- SPDX-License-Identifier: MIT
use mathlib.Core.Path.{refl, ◌∙◌, ap}
use Prim.Native.Nat.{◌+◌, ◌*◌, ◌≤◌}
use native.Mathlib.Omega.{arith}
use lib.ListN.{length}
use Rattle.track_record.specs.Layout.{record_size, encode}
use Rattle.track_record.specs.Record.{TrackRecord, is_empty, advanced}
use Rattle.secure_objects.specs.Objects.{counter}
use Rattle.tracks.proofs.Places.{place_inside, place-row, place-changed}
use Rattle.tracks.proofs.advance_at.Goals as goal

pub overflow_mul-at : goal.overflow_mul-at
overflow_mul-at c =
    let inside : c.args.i * record_size + record_size ≤ length c.args.store.now = place_inside c.args.store.now c.args.i c.requires.0 in
    omega (arith, inside)

pub overflow_add-end : goal.overflow_add-end
overflow_add-end c =
    let inside : c.args.i * record_size + record_size ≤ length c.args.store.now = place_inside c.args.store.now c.args.i c.requires.0 in
    omega (arith, inside)

pub slice_bounds-advance-end : goal.slice_bounds-advance-end
slice_bounds-advance-end c =
    let inside : c.args.i * record_size + record_size ≤ length c.args.store.now = place_inside c.args.store.now c.args.i c.requires.0 in
    omega (arith, inside)

pub advance-requires : goal.advance-requires
advance-requires c = let q = place-row c.args.store.now c.args.i c.requires.0 _ refl in (q.0, ap is_empty q.1 ∙ c.requires.1, c.requires.2)

pub returns : goal.returns
returns c =
    let q = place-row c.args.store.now c.args.i c.requires.0 _ refl in place-changed c.args.store.now c.args.i c.requires.0 _ refl (λ j. omega (arith, c.slice_known-1.given j)) _ _ _ refl (c.advance.ensures ∙ ap (λ (r : TrackRecord). encode (advanced (counter c.args.pair.group.0 c.args.pair.object.0) r)) q.1)

-- SPDX-License-Identifier: MIT
use mathlib.Core.Path.{refl, ◌∙◌, ap}
use Prim.Native.Nat.{◌+◌, ◌*◌, ◌≤◌}
use native.Mathlib.Omega.{arith}
use lib.ListN.{length}
use Rattle.track_record.specs.Layout.{record_size, encode}
use Rattle.track_record.proofs.Records.{empty-is}
use Rattle.tracks.proofs.Places.{place_inside, place-row, place-bytes, place-changed}
use Rattle.tracks.proofs.fill_at.Goals as goal

pub overflow_mul-at : goal.overflow_mul-at
overflow_mul-at c =
    let inside : c.args.i * record_size + record_size ≤ length c.args.store.now = place_inside c.args.store.now c.args.i c.requires.0 in
    omega (arith, inside)

pub overflow_add-end : goal.overflow_add-end
overflow_add-end c =
    let inside : c.args.i * record_size + record_size ≤ length c.args.store.now = place_inside c.args.store.now c.args.i c.requires.0 in
    omega (arith, inside)

pub slice_bounds-fill-end : goal.slice_bounds-fill-end
slice_bounds-fill-end c =
    let inside : c.args.i * record_size + record_size ≤ length c.args.store.now = place_inside c.args.store.now c.args.i c.requires.0 in
    omega (arith, inside)

pub fill-requires : goal.fill-requires
fill-requires c = (
  place-bytes c.args.store.now c.args.i c.requires.0 _ refl (λ j. omega (arith, c.slice_known-1.given j)) ∙ ap encode (empty-is _ c.requires.1),
  (place-row c.args.store.now c.args.i c.requires.0 _ refl).0.0,
  c.requires.2,
  c.requires.3,
)

pub returns : goal.returns
returns c =
    place-changed c.args.store.now c.args.i c.requires.0 _ refl (λ j. omega (arith, c.slice_known-1.given j)) _ _ _ refl c.fill.ensures

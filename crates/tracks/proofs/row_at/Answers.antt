-- SPDX-License-Identifier: MIT
use Rattle.std.proofs.Common.{◌≡◌, ◌∙◌, sym, ap, subst, refl, ℕ, ◌+◌, ◌*◌, ◌-◌, take, drop, arith}
use Rattle.tracks.specs.Inner.Places.{RowOf}
use Rattle.track_record.specs.Layout.{record_size}
use Rattle.tracks.proofs.Places.{place_inside, place-row}
use Rattle.tracks.proofs.row_at.Goals as goal

pub part-requires : goal.part-requires
part-requires c = omega (arith, place_inside c.args.store.now c.args.i c.requires)

pub returns : goal.returns
returns c =
    let a = c.args in
    let at = a.i * record_size in
    let e : at + record_size - at ≡ record_size = omega arith in
    let f = ap (λ (k : ℕ). take k (drop at a.store.now)) e ∙ sym c.part.ensures.0 in
    subst (RowOf a.store.now a.i) f (place-row a.store.now a.i c.requires _ refl)

-- SPDX-License-Identifier: MIT
use Rattle.std.proofs.Common.{◌≡◌, ◌∙◌, ap, ℕ, ◌+◌, ◌*◌, ◌-◌, take, drop, length, arith, length-drop}
use Rattle.std.proofs.lemmas.List.{length-take-le}
use Rattle.track_record.specs.Layout.{record_size}
use Rattle.tracks.proofs.part.Goals as goal

pub returns : goal.returns
returns c =
    let a = c.args in
    let e : (a.i + 1) * record_size - a.i * record_size ≡ record_size = omega arith in
    let f = ap (λ (k : ℕ). take k (drop (a.i * record_size) a.store.now)) e in
    (f, ap length f ∙ length-take-le record_size (drop (a.i * record_size) a.store.now) (simp length-drop (omega arith)))

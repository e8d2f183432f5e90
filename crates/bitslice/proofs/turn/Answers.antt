-- SPDX-License-Identifier: MIT
-- `bitslice::turn` meets its contract.
-- Assumes nothing.
use mathlib.Core.Path.{◌∙◌, ap}
use borrow.Author.Rules.{rules}
use Prim.Native.Nat.{ℕ, ◌+◌, ◌%◌}
use Rattle.bitslice.specs.Lanes.{lane, lane_byte}
use Rattle.bitslice.specs.declared.Planes.{Planes}
use Rattle.bitslice.specs.Inner.Parts.{Words}
use Rattle.bitslice.proofs.Turns.{lanes-moved, lane-turned}
use Rattle.bitslice.proofs.turn.Goals as goal

pub returns : goal.returns
unfolding lane_byte
returns c =
    let fit : Words c.args.a = record { w0 = search rules; w1 = search rules; w2 = search rules; w3 = search rules; w4 = search rules; w5 = search rules; w6 = search rules; w7 = search rules } in
    let a : Planes = c.args.a in
    let n : ℕ = c.args.n in
    let f : Words a = fit in
    record {
      each = λ j h.
          lanes-moved j ((n + j) % 64)
          a.p7 a.p6 a.p5 a.p4 a.p3 a.p2 a.p1 a.p0 _ _ _ _ _ _ _ _
          (ap (lane j) c.rotated-8.ensures ∙ lane-turned n a.p7 j f.w7 c.requires.1 h)
          (ap (lane j) c.rotated-7.ensures ∙ lane-turned n a.p6 j f.w6 c.requires.1 h)
          (ap (lane j) c.rotated-6.ensures ∙ lane-turned n a.p5 j f.w5 c.requires.1 h)
          (ap (lane j) c.rotated-5.ensures ∙ lane-turned n a.p4 j f.w4 c.requires.1 h)
          (ap (lane j) c.rotated-4.ensures ∙ lane-turned n a.p3 j f.w3 c.requires.1 h)
          (ap (lane j) c.rotated-3.ensures ∙ lane-turned n a.p2 j f.w2 c.requires.1 h)
          (ap (lane j) c.rotated-2.ensures ∙ lane-turned n a.p1 j f.w1 c.requires.1 h)
          (ap (lane j) c.rotated.ensures ∙ lane-turned n a.p0 j f.w0 c.requires.1 h);
    }

-- SPDX-License-Identifier: MIT
use Rattle.std.proofs.Common.{refl}
use Rattle.sha2_common.proofs.Steps.{halfway-at}
use Rattle.sha2_common.proofs.rounds.four_grown.Goals as goal

pub returns : goal.returns
returns g c =
    let p = g.W.Word.params in
    let t = c.args.t in (
      c.extend-4.ensures.0,
      λ b h q.
          let q1 = c.extend.ensures.1 b h _ q.words (c.step-v1.ensures h q.value) in
          let q2 = halfway-at p b h _ _ t 1 1 2 refl (c.extend-2.ensures.1 b h _ q1.words (c.step-v2.ensures h q1.value)) in
          let q3 = halfway-at p b h _ _ t 2 1 3 refl (c.extend-3.ensures.1 b h _ q2.words (c.step-v3.ensures h q2.value)) in
          halfway-at p b h _ _ t 3 1 4 refl (c.extend-4.ensures.1 b h _ q3.words (c.step-v4.ensures h q3.value)),
    )

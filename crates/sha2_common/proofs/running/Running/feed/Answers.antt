-- SPDX-License-Identifier: MIT
use Rattle.std.proofs.Common.{◌≡◌, length, refl, arith, rules}
use Rattle.sha2_common.specs.Running.{state_of}
use Rattle.sha2_common.proofs.Laws.{fed-more}
use Rattle.sha2_common.proofs.Steps.{fed-with}
use Rattle.sha2_common.proofs.running.Running.feed.Goals as goal

pub returns : goal.returns
returns g c =
    let p = g.V.Value.params in
    let z = g.met.V.Value.sizes in
    let self = c.args.self in
    let h = state_of (g.V.Value.words self.value) self.waiting self.len in
    let whole : length self.waiting ≡ g.row.BLOCK = search rules in
    let e = fed-with p g.row.BLOCK z.0 h _ _ c.args.s.now c.absorb.ensures (c.rest.ensures p z.0) in
    (λ m f. fed-more p (omega arith) h _ m c.args.s.now (omega arith) e f, refl, e)

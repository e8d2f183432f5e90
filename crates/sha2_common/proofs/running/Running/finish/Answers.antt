-- SPDX-License-Identifier: MIT
use Rattle.std.proofs.Common.{◌≡◌, ◌-◌, ◌/◌, length, refl, arith, rules}
use Rattle.sha2_common.specs.Running.{state_of}
use Rattle.sha2_common.proofs.Laws.{fed-end}
use Rattle.sha2_common.proofs.Steps.{finished-by}
use Rattle.sha2_common.proofs.running.Running.finish.Goals as goal

pub returns : goal.returns
returns g c =
    let p = g.V.Value.params in
    let z = g.met.V.Value.sizes in
    let self = c.args.self in
    let h = state_of (g.V.Value.words self.value) self.waiting self.len in
    let whole : length self.waiting ≡ g.row.BLOCK = search rules in
    let end = c.padded_end-end in
    let e = end.result in
    let d = finished-by p g.row.BLOCK z.0 (omega arith) h _ _ _ _ e (g.row.BLOCK / 8 - 8) (256 - (e - 8)) 256 whole (omega arith) (end.ensures.padding p self.len z.0 z.6 refl) (omega (arith, end.ensures.ends)) (omega (arith, end.ensures.ends)) (omega arith) c.copy.ensures c.write_be64.ensures c.blocks-2.ensures c.digest.ensures in
    (λ m f. fed-end p (omega arith) h _ m d f, search rules, d)

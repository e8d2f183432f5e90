-- SPDX-License-Identifier: MIT
use Rattle.std.proofs.Common.{arith, length-set}
use Rattle.sha2_common.proofs.Steps.{halfway-step}
use Rattle.sha2_common.proofs.rounds.extend.Goals as goal

pub returns : goal.returns
returns g c =
    let m = g.W.Word in
    let r = c.requires in
    let x = rw (c.get.ensures, c.get-2.ensures, c.get-3.ensures, c.get-4.ensures) at c.next_word-x.ensures in
    (rw c.set.ensures (simp length-set r.1), λ b h v e f. rw c.set.ensures (halfway-step m.params b h (m.listed c.args.w.now) v c.args.t _ (omega (arith, r.0, r.1)) e f x))

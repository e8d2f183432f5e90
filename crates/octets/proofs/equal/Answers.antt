-- SPDX-License-Identifier: MIT
use Rattle.std.proofs.Common.{sym, ap, arith, take}
use Rattle.octets.proofs.Laws.{same-lengths, same_count}
use Rattle.octets.proofs.Loops.{taken-all, differ-next, differ-before}
use Rattle.octets.proofs.equal.Goals as goal

pub returns-then-a-b : goal.returns-then-a-b
returns-then-a-b c = sym (same-lengths _ _ c.if-a-b.true)

pub loop-i-preserved : goal.loop-i-preserved
loop-i-preserved c =
    let at = c.loop-i in
    let a = c.args.a.now in
    let b = c.args.b.now in (
      differ-next at.differ at.i a b (omega arith) (omega arith) at.invariant.0,
      differ-before at.differ at.i a b (omega arith) (omega arith) at.invariant.1,
    )

pub returns : goal.returns
returns c =
    let a = c.args.a.now in
    let b = c.args.b.now in
    same_count _ a b
    (λ e. taken-all c.loop-i.i a b (omega arith) (omega arith) (c.loop-i.invariant.0 e))
    (λ e. c.loop-i.invariant.1 (ap (take c.loop-i.i) e))

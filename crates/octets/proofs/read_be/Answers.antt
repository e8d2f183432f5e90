-- SPDX-License-Identifier: MIT
use Rattle.std.proofs.Common.{◌∙◌, sym, arith, length-take}
use lib.Seq.{get_or-take}
use Rattle.octets.proofs.Laws.{number-zero}
use Rattle.octets.proofs.Loops.{number-next, number-below, number_fits}
use Rattle.octets.proofs.read_be.Goals as goal

pub loop-d-init : goal.loop-d-init
loop-d-init c = (sym (number-zero _), omega arith)

pub overflow_mul-x : goal.overflow_mul-x
overflow_mul-x c =
    let d = c.loop-d.d-index in
    record { fits = omega (arith, number_fits _ 0 d (omega (arith, length-take c.args.n c.args.b.now)) c.loop-d.invariant.1 (omega arith)) }

pub overflow_add-x : goal.overflow_add-x
overflow_add-x c =
    let d = c.loop-d.d-index in
    let l = c.args.b.now in
    let e = get_or-take c.args.n l d 0 (omega (arith, length-take c.args.n l)) in
    record { fits = number_fits _ _ d (omega (arith, length-take c.args.n l)) c.loop-d.invariant.1 (omega (arith, c.from.ensures ∙ e, (c.type_inv.b d).fits)) }

pub loop-d-preserved : goal.loop-d-preserved
loop-d-preserved c =
    let d = c.loop-d.d-index in
    let l = c.args.b.now in
    let e = get_or-take c.args.n l d 0 (omega (arith, length-take c.args.n l)) in (
      number-next _ _ d l c.loop-d.invariant.0 (c.from.ensures ∙ e),
      number-below _ _ d c.loop-d.invariant.1 (omega (arith, c.from.ensures ∙ e, (c.type_inv.b d).fits)),
    )

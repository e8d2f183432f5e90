-- SPDX-License-Identifier: MIT
use native.Mathlib.Omega.{arith}
use Rattle.window.proofs.Laws.{near}
use Rattle.window.proofs.Steps.{newer-adds, opened-newer, older-adds, opened-older}
use Rattle.window.proofs.open.Goals as goal

pub overflow_add-result : goal.overflow_add-result
overflow_add-result c =
    omega (arith, newer-adds c.args.w c.args.ctr c.if-w-ctr.true _ c.shifted-mask.ensures)

pub returns-then-w-ctr : goal.returns-then-w-ctr
returns-then-w-ctr c =
    opened-newer c.args.w c.args.ctr c.if-w-ctr.true _ c.shifted-mask.ensures

pub overflow_add-mask : goal.overflow_add-mask
overflow_add-mask c =
    let i = c.requires in
    omega (arith, older-adds c.args.w c.args.ctr i.0 i.1 i.2 c.if-w-ctr.false (omega (arith, c.struct_known-3-1.given)) _ c.shifted.ensures)

pub returns : goal.returns
returns c =
    let i = c.requires in
    let h = c.if-w-ctr.false in
    opened-older c.args.w c.args.ctr h (near c.args.w c.args.ctr i.0 i.1 i.2 h) _ c.shifted.ensures

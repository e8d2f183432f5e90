-- SPDX-License-Identifier: MIT
use Prim.Native.Nat.{◌+◌, ◌≤◌}
use native.Mathlib.Omega.{arith}
use Rattle.group.specs.Group.{kid_bits}
use Rattle.group.proofs.Steps.{width-most, unpack-wide, unpack-done}
use mathlib.Core.Bool.{not}
use mathlib.Core.Path.{ap}
use Rattle.group.proofs.unpack.Goals as goal

pub returns-then-not-widths_fit : goal.returns-then-not-widths_fit
returns-then-not-widths_fit c = let a = c.args in unpack-wide a.s a.e _ c.widths_fit.ensures (ap not c.if-not-widths_fit.true) a.kid.0

pub overflow_add-s : goal.overflow_add-s
overflow_add-s c =
    let most : c.args.s + c.args.e ≤ kid_bits = let a = c.args in width-most a.s a.e 0 0 0 _ c.widths_fit.ensures (ap not c.if-not-widths_fit.false) in
    omega (arith, most)

pub above-requires : goal.above-requires
above-requires c =
    let most : c.args.s + c.args.e ≤ kid_bits = let a = c.args in width-most a.s a.e 0 0 0 _ c.widths_fit.ensures (ap not c.if-not-widths_fit.false) in
    omega (arith, most)

pub above-requires-2 : goal.above-requires-2
above-requires-2 c =
    let most : c.args.s + c.args.e ≤ kid_bits = let a = c.args in width-most a.s a.e 0 0 0 _ c.widths_fit.ensures (ap not c.if-not-widths_fit.false) in
    omega (arith, most)

pub below-requires : goal.below-requires
below-requires c =
    let most : c.args.s + c.args.e ≤ kid_bits = let a = c.args in width-most a.s a.e 0 0 0 _ c.widths_fit.ensures (ap not c.if-not-widths_fit.false) in
    omega (arith, most)

pub below-requires-2 : goal.below-requires-2
below-requires-2 c =
    let most : c.args.s + c.args.e ≤ kid_bits = let a = c.args in width-most a.s a.e 0 0 0 _ c.widths_fit.ensures (ap not c.if-not-widths_fit.false) in
    omega (arith, most)

pub returns : goal.returns
returns c =
    let a = c.args in
    unpack-done a.s a.e _ c.widths_fit.ensures (ap not c.if-not-widths_fit.false) a.kid.0 _ _ _ _ c.above.ensures c.above-2.ensures c.below.ensures c.below-2.ensures

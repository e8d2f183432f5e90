-- SPDX-License-Identifier: MIT
use mathlib.Core.Path.{◌∙◌}
use Prim.Native.Nat.{◌+◌, ◌≤◌}
use native.Mathlib.Omega.{arith}
use Rattle.group.specs.Group.{kid_bits}
use Rattle.group.proofs.Steps.{pack-wide, width-most, pack-index, pack-context, context-fits, index-fits, sum_fits, kid-fits, pack-done}
use mathlib.Core.Bool.{not}
use mathlib.Core.Path.{ap}
use Rattle.group.proofs.pack.Goals as goal

pub returns-then-not-widths_fit : goal.returns-then-not-widths_fit
returns-then-not-widths_fit c =
    let a = c.args in
    let m = pack-wide a.s a.e a.context a.index a.epoch _ c.widths_fit.ensures (ap not c.if-not-widths_fit.true) in
    m

pub in_bits-requires : goal.in_bits-requires
in_bits-requires c =
    let a = c.args in
    omega (arith, width-most a.s a.e a.context a.index a.epoch _ c.widths_fit.ensures (ap not c.if-not-widths_fit.false))

pub returns-then-not-in_bits : goal.returns-then-not-in_bits
returns-then-not-in_bits c =
    let a = c.args in
    let m = pack-index a.s a.e a.context a.index a.epoch _ c.widths_fit.ensures (ap not c.if-not-widths_fit.false) _ c.in_bits.ensures (ap not c.if-not-in_bits.true) in
    m

pub overflow_add-width : goal.overflow_add-width
overflow_add-width c =
    let most : c.args.s + c.args.e ≤ kid_bits = let a = c.args in width-most a.s a.e a.context a.index a.epoch _ c.widths_fit.ensures (ap not c.if-not-widths_fit.false) in
    omega (arith, most)

pub overflow_sub-width : goal.overflow_sub-width
overflow_sub-width c =
    let most : c.args.s + c.args.e ≤ kid_bits = let a = c.args in width-most a.s a.e a.context a.index a.epoch _ c.widths_fit.ensures (ap not c.if-not-widths_fit.false) in
    omega (arith, most)

pub in_bits-requires-2 : goal.in_bits-requires-2
in_bits-requires-2 c =
    let most : c.args.s + c.args.e ≤ kid_bits = let a = c.args in width-most a.s a.e a.context a.index a.epoch _ c.widths_fit.ensures (ap not c.if-not-widths_fit.false) in
    omega (arith, most)

pub returns-then-not-in_bits-2 : goal.returns-then-not-in_bits-2
returns-then-not-in_bits-2 c =
    let a = c.args in
    let m = pack-context a.s a.e a.context a.index a.epoch _ c.widths_fit.ensures (ap not c.if-not-widths_fit.false) _ c.in_bits.ensures (ap not c.if-not-in_bits.false) _ c.in_bits-2.ensures (ap not c.if-not-in_bits-2.true) in
    m

pub raised-requires : goal.raised-requires
raised-requires c =
    let most : c.args.s + c.args.e ≤ kid_bits = let a = c.args in width-most a.s a.e a.context a.index a.epoch _ c.widths_fit.ensures (ap not c.if-not-widths_fit.false) in
    let a = c.args in
    (omega (arith, most), context-fits a.s a.e a.context a.index a.epoch _ c.widths_fit.ensures (ap not c.if-not-widths_fit.false) _ c.in_bits.ensures (ap not c.if-not-in_bits.false) _ c.in_bits-2.ensures (ap not c.if-not-in_bits-2.false))

pub raised-requires-2 : goal.raised-requires-2
raised-requires-2 c =
    let most : c.args.s + c.args.e ≤ kid_bits = let a = c.args in width-most a.s a.e a.context a.index a.epoch _ c.widths_fit.ensures (ap not c.if-not-widths_fit.false) in
    let a = c.args in
    (omega (arith, most), index-fits a.s a.e a.context a.index a.epoch _ c.widths_fit.ensures (ap not c.if-not-widths_fit.false) _ c.in_bits.ensures (ap not c.if-not-in_bits.false) _ c.in_bits-2.ensures (ap not c.if-not-in_bits-2.false))

pub overflow_add-kid : goal.overflow_add-kid
overflow_add-kid c =
    let a = c.args in
    let h = sum_fits a.s a.e a.context a.index a.epoch _ c.widths_fit.ensures (ap not c.if-not-widths_fit.false) _ c.in_bits.ensures (ap not c.if-not-in_bits.false) _ c.in_bits-2.ensures (ap not c.if-not-in_bits-2.false) _ _ 0 c.raised.ensures c.raised-2.ensures in
    omega (arith, h)

pub below-requires : goal.below-requires
below-requires c =
    let most : c.args.s + c.args.e ≤ kid_bits = let a = c.args in width-most a.s a.e a.context a.index a.epoch _ c.widths_fit.ensures (ap not c.if-not-widths_fit.false) in
    omega (arith, most)

pub overflow_add-kid-2 : goal.overflow_add-kid-2
overflow_add-kid-2 c =
    let a = c.args in
    let h = kid-fits a.s a.e a.context a.index a.epoch _ c.widths_fit.ensures (ap not c.if-not-widths_fit.false) _ c.in_bits.ensures (ap not c.if-not-in_bits.false) _ c.in_bits-2.ensures (ap not c.if-not-in_bits-2.false) _ _ _ c.raised.ensures c.raised-2.ensures c.below.ensures in
    omega (arith, h)

pub returns : goal.returns
returns c =
    let a = c.args in
    pack-done a.s a.e a.context a.index a.epoch _ c.widths_fit.ensures (ap not c.if-not-widths_fit.false) _ c.in_bits.ensures (ap not c.if-not-in_bits.false) _ c.in_bits-2.ensures (ap not c.if-not-in_bits-2.false) _ _ _ c.raised.ensures c.raised-2.ensures c.below.ensures

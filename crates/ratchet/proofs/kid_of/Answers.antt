-- SPDX-License-Identifier: MIT
use native.Mathlib.Omega.{arith}
use Rattle.ratchet.proofs.Steps.{kid-no-bits, kid-many-bits, kid-too-long, kid-product, kid-sum, kid-made, window-some}
use Rattle.ratchet.proofs.kid_of.Goals as goal

pub returns-then-bits-lt1 : goal.returns-then-bits-lt1
returns-then-bits-lt1 c =
    let a = c.args in
    kid-no-bits a.generation a.step a.bits c.if-bits-lt1.true

pub returns-then-bits-gt-MAX_BITS : goal.returns-then-bits-gt-MAX_BITS
returns-then-bits-gt-MAX_BITS c =
    let a = c.args in
    kid-many-bits a.generation a.step a.bits c.if-bits-lt1.false c.if-bits-gt-MAX_BITS.true

pub returns-then-power-generation : goal.returns-then-power-generation
returns-then-power-generation c =
    let a = c.args in
    kid-too-long a.generation a.step a.bits c.if-bits-lt1.false c.if-bits-gt-MAX_BITS.false c.power.result c.power.ensures c.if-power-generation.true

pub overflow_mul-kid : goal.overflow_mul-kid
overflow_mul-kid c =
    let a = c.args in
    let h = kid-product a.generation a.step a.bits c.if-bits-lt1.false c.if-bits-gt-MAX_BITS.false c.power.result c.power.ensures c.if-power-generation.false c.power-window.result c.power-window.ensures in
    omega (arith, h)

pub nonzero_rem-kid : goal.nonzero_rem-kid
nonzero_rem-kid c =
    let a = c.args in
    omega (arith, window-some c.power-window.result a.bits c.power-window.ensures)

pub overflow_add-kid : goal.overflow_add-kid
overflow_add-kid c =
    let a = c.args in
    let h = kid-sum a.generation a.step a.bits c.if-bits-lt1.false c.if-bits-gt-MAX_BITS.false c.power.result c.power.ensures c.if-power-generation.false c.power-window.result c.power-window.ensures in
    omega (arith, h)

pub returns : goal.returns
returns c =
    let a = c.args in
    kid-made a.generation a.step a.bits c.if-bits-lt1.false c.if-bits-gt-MAX_BITS.false c.power.result c.power.ensures c.if-power-generation.false c.power-window.result c.power-window.ensures

-- SPDX-License-Identifier: MIT
use native.Mathlib.Omega.{arith}
use Rattle.window.proofs.Steps.{none_yet, even-mask, all-bits, few_bits}
use Rattle.window.proofs.is_sound.Goals as goal

pub returns-then-w-eq0 : goal.returns-then-w-eq0
returns-then-w-eq0 c = none_yet _ c.if-w-eq0.true

pub returns-then-w-eq0-2 : goal.returns-then-w-eq0-2
returns-then-w-eq0-2 c = even-mask _ c.if-w-eq0.false c.if-w-eq0-2.true

pub returns-then-w : goal.returns-then-w
returns-then-w c =
    all-bits _ c.if-w-eq0.false c.if-w-eq0-2.false (omega (arith, c.struct_known-2-1.given)) c.if-w.true

pub returns : goal.returns
returns c =
    few_bits _ c.if-w-eq0.false c.if-w-eq0-2.false

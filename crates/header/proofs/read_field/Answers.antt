-- SPDX-License-Identifier: MIT
use native.Mathlib.Omega.{arith}
use Rattle.header.proofs.Steps.{short-form, cut, whole-field}
use Rattle.header.proofs.read_field.Goals as goal

pub returns-then-x-eq0 : goal.returns-then-x-eq0
returns-then-x-eq0 c = short-form _ _ _ c.if-x-eq0.true

pub returns-then-rest-n : goal.returns-then-rest-n
returns-then-rest-n c = cut _ _ _ c.if-x-eq0.false (omega arith)

pub returns : goal.returns
returns c = whole-field _ _ _ _ c.if-x-eq0.false c.if-rest-n.false c.read_be.ensures.0

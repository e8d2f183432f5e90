-- SPDX-License-Identifier: MIT
use mathlib.Core.Path.{refl}
use native.Mathlib.Omega.{arith}
use lib.Count.{leading_le}
use Rattle.header.specs.Header.{size}
use Rattle.header.proofs.size_of.Goals as goal

pub overflow_cast-result : goal.overflow_cast-result
overflow_cast-result c = omega (arith, leading_le 64 c.args.v)

pub overflow_sub-result : goal.overflow_sub-result
overflow_sub-result c = omega (arith, leading_le 64 c.args.v)

pub returns : goal.returns
unfolding size
returns c = (refl, omega (arith, leading_le 64 c.args.v))

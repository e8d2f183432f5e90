-- SPDX-License-Identifier: MIT
-- `clmul::multiply` meets its contract: the sixteen products of classes are the product.
-- Assumes nothing.
use native.Mathlib.Omega.{arith}
use Rattle.clmul.proofs.Classes.{products}
use Rattle.clmul.proofs.multiply.Goals as goal

pub returns : goal.returns
returns c =
    let a = c.args in
    rw (c.column-z3.ensures, c.column-z2.ensures, c.column-z1.ensures, c.column-z0.ensures)
    (products a.x a.y (omega arith) (omega arith))

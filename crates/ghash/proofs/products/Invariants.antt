-- SPDX-License-Identifier: MIT
-- `ghash::products` meets its contract: the loop's invariant: the first i products are there. The last one follows.
-- Assumes nothing.
use Rattle.ghash.specs.Inner.Products.{Products}
use Rattle.ghash.proofs.products.Given as goal

abbrev pub invariant-loop-i : goal.invariant-loop-i
invariant-loop-i l = Products l.f l.t l.i l.p

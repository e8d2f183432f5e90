-- SPDX-License-Identifier: MIT
-- `aes_rows::each_row` meets its contract: the rows before r are changed.
-- Assumes nothing.
use Rattle.aes_rows.specs.Rows.{Each}
use Rattle.aes_rows.proofs.each_row.Given as goal

abbrev pub invariant-loop-r : goal.invariant-loop-r
invariant-loop-r g l = Each (λ r a b. goal.F-post g l.f r a b) l.r l.initial.q l.q

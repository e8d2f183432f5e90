-- SPDX-License-Identifier: MIT
-- `clmul::column` meets its contract: the product of two words of 32 bits fits 64.
-- Assumes nothing.
use native.Mathlib.Omega.{arith}
use Rattle.clmul.proofs.Holes.{product-fits}
use Rattle.clmul.proofs.column.Goals as goal

pub overflow_mul-result : goal.overflow_mul-result
overflow_mul-result c = record { fits = product-fits _ _ (omega arith) (omega arith) }

pub overflow_mul-result-2 : goal.overflow_mul-result-2
overflow_mul-result-2 c = record { fits = product-fits _ _ (omega arith) (omega arith) }

pub overflow_mul-result-3 : goal.overflow_mul-result-3
overflow_mul-result-3 c = record { fits = product-fits _ _ (omega arith) (omega arith) }

pub overflow_mul-result-4 : goal.overflow_mul-result-4
overflow_mul-result-4 c = record { fits = product-fits _ _ (omega arith) (omega arith) }

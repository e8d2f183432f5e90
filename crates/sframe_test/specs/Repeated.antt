-- SPDX-License-Identifier: MIT
-- A function applied n times over. Assumes nothing.
use Rattle.std.specs.Prelude.{List, ℕ, zero, suc}

unfoldable pub repeated : (List ℕ → List ℕ) → ℕ → List ℕ → List ℕ
repeated f zero x = x
repeated f (suc n) x = f (repeated f n x)

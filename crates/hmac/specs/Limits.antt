-- SPDX-License-Identifier: MIT
-- How much the code takes. Assumes nothing.
use Rattle.std.specs.Prelude.{ℕ, ◌^◌}

-- The most bytes of a key, of a text that is given whole, and of HKDF's info.
abbrev pub largest : ℕ
largest = 2 ^ 31

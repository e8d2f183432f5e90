-- SPDX-License-Identifier: MIT
-- How much the code takes. Assumes nothing.
use Rattle.std.specs.Prelude.{ℕ, ◌^◌}

-- The most bytes that the code hashes as one message. The standard's own limits are higher (section 1, Figure 1).
abbrev pub maximum : ℕ
maximum = 2 ^ 32

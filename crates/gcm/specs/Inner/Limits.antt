-- SPDX-License-Identifier: MIT
-- Inner: the limits that the contracts of the code cite.
-- Assumes nothing.
use Rattle.std.specs.Prelude.{ℕ, ◌^◌}

-- The longest input that the code takes, part by part. Block counts stay far below 2^32.
abbrev pub max_bytes : ℕ
max_bytes = 65536

-- How many block counts there are.
abbrev pub counts : ℕ
counts = 2 ^ 32

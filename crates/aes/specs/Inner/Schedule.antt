-- SPDX-License-Identifier: MIT
-- Inner: the longest key schedule, as contracts of the code cite it. Assumes nothing.
use Rattle.std.specs.Prelude.{ℕ, ◌+◌, ◌*◌}

-- The most rounds: AES-256's.
abbrev pub max_rounds : ℕ
max_rounds = 14

-- The most words of a key schedule.
abbrev pub max_words : ℕ
max_words = 4 * (max_rounds + 1)

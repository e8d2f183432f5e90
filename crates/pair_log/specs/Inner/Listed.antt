-- SPDX-License-Identifier: MIT
-- Inner: pairs as numbers. Assumes nothing.
use Rattle.std.specs.Prelude.{List, ℕ, ◌+◌, ◌*◌, ◌^◌, map}
use Rattle.pair_log.specs.declared.pair.Pair.{Pair}

abbrev pub pair : (kid ctr : ℕ) → ℕ
pair kid ctr = kid * 2 ^ 64 + ctr

abbrev pub value : Pair → ℕ
value p = pair p.kid p.ctr

abbrev pub listed : List Pair → List ℕ
listed ps = map value ps

-- The bytes of a pair's line.
abbrev pub pair_size : ℕ
pair_size = 34

-- The most pairs that stand twice among 4,096.
abbrev pub max_listed : ℕ
max_listed = 2048

-- The bytes of the longest report.
abbrev pub max_report : ℕ
max_report = 69659

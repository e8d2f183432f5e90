-- SPDX-License-Identifier: MIT
-- The number and the values that each answer about a header stands for, as a caller outside the layer gets them.
-- The numbers are the layer's own: 0 done, 10 header cut short, 12 room shorter than the result.
-- Assumes nothing.
use Rattle.std.specs.Prelude.{Option, Some, None, ℕ}
use Rattle.header.specs.declared.Header.{Header}

abbrev pub done : ℕ
done = 0

abbrev pub header_invalid : ℕ
header_invalid = 10

abbrev pub room_short : ℕ
room_short = 12

abbrev pub written_number : Option ℕ → ℕ
written_number (Some n) = done
written_number None = room_short

abbrev pub written_length : Option ℕ → ℕ
written_length (Some n) = n
written_length None = 0

abbrev pub read_number : Option Header → ℕ
read_number (Some h) = done
read_number None = header_invalid

abbrev pub read_kid : Option Header → ℕ
read_kid (Some h) = h.kid.0
read_kid None = 0

abbrev pub read_ctr : Option Header → ℕ
read_ctr (Some h) = h.ctr.0
read_ctr None = 0

abbrev pub read_length : Option Header → ℕ
read_length (Some h) = h.length
read_length None = 0

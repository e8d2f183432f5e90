-- SPDX-License-Identifier: MIT
-- The variable-length integers of the draft's associated data, its "(i)": RFC 9000, section 16, in the fewest bytes. The two top
-- bits of the first byte tell the length: 1, 2, 4 or 8 bytes.
--
-- From 2^62 on that section has no form, and nothing forbids such a number: here it is ff and then 8 bytes, which is a choice
-- of this layer. docs/DECISIONS.md has the other reading.
-- Assumes nothing.
use Rattle.std.specs.Prelude.{List, ◌∷◌, ℕ, ◌+◌, ◌*◌, ◌^◌, ltb}
use Rattle.octets.specs.Octets.{bytes, pick}

-- x in n bytes, below the two bits that are the number top.
abbrev pub topped : (top n bits x : ℕ) → List ℕ
topped top n bits x = bytes n (top * 2 ^ bits + x)

unfoldable pub varint : ℕ → List ℕ
varint x =
    pick (ltb x (2 ^ 6)) (topped 0 1 6 x)
    (pick (ltb x (2 ^ 14)) (topped 1 2 14 x)
    (pick (ltb x (2 ^ 30)) (topped 2 4 30 x)
    (pick (ltb x (2 ^ 62)) (topped 3 8 62 x)
    (255 ∷ bytes 8 x))))

-- The most bytes of one.
abbrev pub varint_most : ℕ
varint_most = 9

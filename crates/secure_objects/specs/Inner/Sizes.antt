-- SPDX-License-Identifier: MIT
-- Cited by inner contracts alone: sizes of the code's arrays. Assumes nothing.
use Rattle.std.specs.Prelude.{List, ℕ, ◌+◌, ◌*◌, length}
use Rattle.secure_objects.specs.Derivation.{key_id_size, number_size}
use Rattle.secure_objects.specs.Objects.{name_most}
use Rattle.secure_objects.specs.Varint.{varint_most}

-- The bytes of a label, and of the longest text of one.
abbrev pub label_size : (text name : List ℕ) → ℕ
label_size text name = length text + (length name + (number_size + key_id_size))

abbrev pub text_most : ℕ
text_most = 34

-- The three numbers in front of the associated data have at most so many bytes.
abbrev pub numbers_most : ℕ
numbers_most = 3 * varint_most

-- The part of the associated data before the properties has at most so many.
abbrev pub head_most : ℕ
head_most = numbers_most + name_most

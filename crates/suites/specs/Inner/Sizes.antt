-- SPDX-License-Identifier: MIT
-- Inner: sizes of the code's arrays that its contracts cite. Assumes nothing.
use Rattle.std.specs.Prelude.{List, ℕ, ◌+◌, length}
use Rattle.suites.specs.declared.sizes.Suite.TheVariants.{Gcm128}
use Rattle.suites.specs.Suites.{Nt}
use Rattle.suites.specs.Derivation.{kid_size, number_size}

-- The longest tag.
abbrev pub max_nt : ℕ
max_nt = Nt Gcm128

-- The bytes of a label, and of the longest text of one.
abbrev pub label_size : List ℕ → ℕ
label_size text = length text + (kid_size + number_size)

abbrev pub max_text : ℕ
max_text = 32

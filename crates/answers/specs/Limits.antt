-- SPDX-License-Identifier: MIT
-- How long the inputs of a call may be. Assumes nothing.
use Rattle.std.specs.Prelude.{Bool, not, ℕ, leb}
use Rattle.octets.specs.Octets.{both}

-- A base key has this many bytes at least, and this many at most.
abbrev pub base_key_least : ℕ
base_key_least = 16

abbrev pub base_key_most : ℕ
base_key_most = 64

abbrev pub max_plaintext : ℕ
max_plaintext = 32768

abbrev pub max_metadata : ℕ
max_metadata = 1024

-- A plaintext of that length, or metadata of that length, is too long.
unfoldable pub too_long : ℕ → ℕ → Bool
too_long plaintext metadata = not (both (leb plaintext max_plaintext) (leb metadata max_metadata))

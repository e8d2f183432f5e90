-- SPDX-License-Identifier: MIT
-- What the tag of the suites of counter mode is computed over: RFC 9605, section 4.5.1. Assumes nothing.
use Rattle.std.specs.Prelude.{List, ◌++◌, ℕ, length}
use Rattle.octets.specs.Octets.{bytes}

-- The bytes of a length in the tag's input.
abbrev pub length_size : ℕ
length_size = 8

-- 4.5.1: the tag's input: the lengths of the associated data and of the ciphertext, and the tag's, in 8 bytes each; the
-- nonce, the associated data and the ciphertext.
unfoldable pub tag_input : (nt : ℕ) (nonce aad ciphertext : List ℕ) → List ℕ
tag_input nt nonce aad ciphertext =
    bytes length_size (length aad) ++ (bytes length_size (length ciphertext) ++ (bytes length_size nt ++ (nonce ++ (aad ++ ciphertext))))

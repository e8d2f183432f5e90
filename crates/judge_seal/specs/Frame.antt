-- SPDX-License-Identifier: MIT
-- The frame of RFC 9605, section 4.4.3: header, ciphertext, tag. The associated data is the header, then the metadata.
-- Assumes nothing.
use Rattle.std.specs.Prelude.{List, ◌++◌, ℕ}
use Rattle.header.specs.Header.{header}
use Rattle.store.specs.Cipher.{Cipher}

-- With the bytes head as its header.
unfoldable pub frame_with : (cipher : Cipher) (suite : ℕ) (key salt head : List ℕ) (ctr : ℕ) (metadata plaintext : List ℕ) → List ℕ
frame_with cipher suite key salt head ctr metadata plaintext =
    head ++ cipher.encrypt suite key (cipher.nonce salt ctr) (head ++ metadata) plaintext

-- With the header of the KID and the counter as it is written.
unfoldable pub frame : (cipher : Cipher) (suite : ℕ) (key salt : List ℕ) (kid ctr : ℕ) (metadata plaintext : List ℕ) → List ℕ
frame cipher suite key salt kid ctr metadata plaintext = frame_with cipher suite key salt (header kid ctr) ctr metadata plaintext

-- SPDX-License-Identifier: MIT
-- What the store and its calls use of the cipher suites of RFC 9605, as one record of operations.
-- Assumes nothing.
use Rattle.std.specs.Prelude.{List, ℕ}

-- What decryption gives: the plaintext, or that the tag differs.
pub data Decrypted : Type 0 where
  plain : List ℕ → Decrypted
  differs : Decrypted

-- A suite is given by its number, a Key ID and a counter are numbers, everything else is bytes.
pub record Cipher : Type 0 where
  -- sframe_key and sframe_salt of a suite, a base key and a KID (section 4.4.2)
  pub key : (suite : ℕ) (base : List ℕ) (kid : ℕ) → List ℕ
  pub salt : (suite : ℕ) (base : List ℕ) (kid : ℕ) → List ℕ
  -- the nonce of a salt and a counter (section 4.4.3)
  pub nonce : (salt : List ℕ) (ctr : ℕ) → List ℕ
  -- ciphertext and tag of a plaintext, and what they decrypt to; aad is the associated data (section 4.4.3)
  pub encrypt : (suite : ℕ) (key nonce aad plaintext : List ℕ) → List ℕ
  pub decrypt : (suite : ℕ) (key nonce aad sealed : List ℕ) → Decrypted

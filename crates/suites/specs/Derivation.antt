-- SPDX-License-Identifier: MIT
-- Key derivation and the nonce: RFC 9605, sections 4.4.2 and 4.4.3. Assumes nothing.
use Rattle.std.specs.Prelude.{List, [], ◌++◌, ℕ}
use Rattle.octets.specs.Octets.{bytes, xors, ascii}
use Rattle.hmac.specs.Hkdf.{extract, expand}
use Rattle.suites.specs.declared.sizes.Suite.{Suite}
use Rattle.suites.specs.Suites.{number_of, Nk, Nn, hash_of}

-- sframe_secret, from the base key.
unfoldable pub secret : Suite → List ℕ → List ℕ
secret s base = extract (hash_of s) [] base

-- The texts of the two labels, each with its final space.
abbrev pub secret_key : List ℕ
secret_key = ascii "SFrame 1.0 Secret key "

abbrev pub secret_salt : List ℕ
secret_salt = ascii "SFrame 1.0 Secret salt "

-- The bytes of the KID and of the suite's number in a label.
abbrev pub kid_size : ℕ
kid_size = 8

abbrev pub number_size : ℕ
number_size = 2

-- The label of a derivation: its text, the KID in 8 bytes, the suite in 2.
unfoldable pub label : (text : List ℕ) (s : Suite) (kid : ℕ) → List ℕ
label text s kid = text ++ (bytes kid_size kid ++ bytes number_size (number_of s))

-- n bytes, derived from the base key under the label of a text.
unfoldable pub derived : (text : List ℕ) (s : Suite) (base : List ℕ) (kid n : ℕ) → List ℕ
derived text s base kid n = expand (hash_of s) (secret s base) (label text s kid) n

-- sframe_key and sframe_salt.
unfoldable pub sframe_key : (s : Suite) (base : List ℕ) (kid : ℕ) → List ℕ
sframe_key s base kid = derived secret_key s base kid (Nk s)

unfoldable pub sframe_salt : (s : Suite) (base : List ℕ) (kid : ℕ) → List ℕ
sframe_salt s base kid = derived secret_salt s base kid Nn

-- The nonce: the salt XOR the counter in Nn bytes.
unfoldable pub nonce : List ℕ → ℕ → List ℕ
nonce salt ctr = xors salt (bytes Nn ctr)

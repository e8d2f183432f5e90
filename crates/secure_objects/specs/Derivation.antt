-- SPDX-License-Identifier: MIT
-- Key and salt of a track: "Key Derivation" of draft-ietf-moq-secure-objects. moq_secret is HKDF-Extract with an empty salt over
-- the base key, as SFrame's is. Assumes nothing.
use Rattle.std.specs.Prelude.{List, ◌++◌, ℕ}
use Rattle.octets.specs.Octets.{bytes, ascii}
use Rattle.hmac.specs.Hkdf.{expand}
use Rattle.suites.specs.Derivation.{secret}
use Rattle.suites.specs.Suites.{number_of, hash_of, Nk, Nn}
use Rattle.suites.specs.declared.sizes.Suite.{Suite}

-- The texts of the two labels, each with its final space. Only the first names the secure objects: so it stands in the draft.
abbrev pub key_text : List ℕ
key_text = ascii "MOQ 1.0 Secure Objects Secret key "

abbrev pub salt_text : List ℕ
salt_text = ascii "MOQ 1.0 Secret salt "

-- The bytes of the suite's number and of the Key ID in a label.
abbrev pub number_size : ℕ
number_size = 2

abbrev pub key_id_size : ℕ
key_id_size = 8

-- A label: its text, the full track name, the suite, the Key ID. (SFrame's labels have the suite last.)
unfoldable pub label : (text : List ℕ) (s : Suite) (name : List ℕ) (key_id : ℕ) → List ℕ
label text s name key_id = text ++ (name ++ (bytes number_size (number_of s) ++ bytes key_id_size key_id))

-- n bytes, derived from the base key under the label of a text.
unfoldable pub derived : (text : List ℕ) (s : Suite) (base name : List ℕ) (key_id n : ℕ) → List ℕ
derived text s base name key_id n = expand (hash_of s) (secret s base) (label text s name key_id) n

-- moq_key and moq_salt.
unfoldable pub moq_key : (s : Suite) (base name : List ℕ) (key_id : ℕ) → List ℕ
moq_key s base name key_id = derived key_text s base name key_id (Nk s)

unfoldable pub moq_salt : (s : Suite) (base name : List ℕ) (key_id : ℕ) → List ℕ
moq_salt s base name key_id = derived salt_text s base name key_id Nn

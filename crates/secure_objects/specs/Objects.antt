-- SPDX-License-Identifier: MIT
-- A secure object of draft-ietf-moq-secure-objects: what the AEAD is given, and what comes out. The draft's sections have no
-- numbers in the text that decides here; they are named. Assumes nothing.
use Rattle.std.specs.Prelude.{List, ◌++◌, ℕ, ◌+◌, ◌*◌, ◌^◌}
use Rattle.suites.specs.Derivation.{nonce}
use Rattle.aead.specs.Aead.{encrypt, decrypt, Decrypted}
use Rattle.suites.specs.declared.sizes.Suite.{Suite}
use Rattle.secure_objects.specs.Varint.{varint}

-- The longest name.
abbrev pub name_most : ℕ
name_most = 256

-- An Object ID is below this.
abbrev pub object_ceiling : ℕ
object_ceiling = 2 ^ 32

-- "Nonce Formation": the counter is the Group ID in 64 bits, then the Object ID in 32.
unfoldable pub counter : (group object : ℕ) → ℕ
counter group object = group * object_ceiling + object

-- No counter reaches this.
abbrev pub ceiling : ℕ
ceiling = 2 ^ 96

-- SECURE_OBJECT_AAD: Key ID, Group ID and Object ID as variable-length integers, the full track name as it is serialized, the
-- immutable properties as they are serialized.
unfoldable pub aad : (key_id group object : ℕ) (name properties : List ℕ) → List ℕ
aad key_id group object name properties = varint key_id ++ (varint group ++ (varint object ++ (name ++ properties)))

module _ (s : Suite) (key salt : List ℕ) (name : List ℕ) (key_id group object : ℕ) (properties : List ℕ) where
  -- "Encryption": AEAD.Encrypt of the plaintext. The nonce is the salt XOR the counter, as in SFrame.
  unfoldable pub secured : (plaintext : List ℕ) → List ℕ
  secured plaintext = encrypt s key (nonce salt (counter group object)) (aad key_id group object name properties) plaintext

  -- "Decryption": AEAD.Decrypt.
  unfoldable pub unsecured : (sealed : List ℕ) → Decrypted
  unsecured sealed = decrypt s key (nonce salt (counter group object)) (aad key_id group object name properties) sealed

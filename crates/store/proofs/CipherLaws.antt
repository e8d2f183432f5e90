-- SPDX-License-Identifier: MIT
-- What the proofs of the store and its calls use of the cipher suites. sframe's proofs show it of the five suites.
-- Assumes nothing.
use mathlib.Core.Path.{◌≡◌}
use mathlib.Core.Bool.{true}
use mathlib.Core.List.{List}
use Prim.Native.Nat.{ℕ, ◌+◌, ◌^◌, ◌<◌, ◌≤◌}
use lib.ListN.{length}
use Rattle.octets.specs.Octets.{Octets}
use Rattle.store.specs.Cipher.{Cipher, plain}
use Rattle.key_record.specs.Suites.{is_suite, key_size, tag_size, salt_size}

-- A suite's number, key, nonce and associated data as encryption and decryption are given them.
pub record Usable (suite : ℕ) (key nonce aad : List ℕ) : Type 0 where
  pub known : is_suite suite ≡ true
  pub key-length : length key ≡ key_size suite
  pub key-octets : Octets key
  pub nonce-length : length nonce ≡ salt_size
  pub nonce-octets : Octets nonce
  pub aad-octets : Octets aad

pub record Laws (cipher : Cipher) : Type 0 where
  pub key-length : (suite : ℕ) (base : List ℕ) (kid : ℕ) → is_suite suite ≡ true → length (cipher.key suite base kid) ≡ key_size suite
  pub key-octets : (suite : ℕ) (base : List ℕ) (kid : ℕ) → is_suite suite ≡ true → Octets base → Octets (cipher.key suite base kid)
  pub salt-length : (suite : ℕ) (base : List ℕ) (kid : ℕ) → is_suite suite ≡ true → length (cipher.salt suite base kid) ≡ salt_size
  pub salt-octets : (suite : ℕ) (base : List ℕ) (kid : ℕ) → is_suite suite ≡ true → Octets base → Octets (cipher.salt suite base kid)
  pub nonce-length : (salt : List ℕ) (ctr : ℕ) → length salt ≡ salt_size → length (cipher.nonce salt ctr) ≡ salt_size
  pub nonce-octets : (salt : List ℕ) (ctr : ℕ) → length salt ≡ salt_size → Octets salt → Octets (cipher.nonce salt ctr)
  -- one salt gives each counter a nonce of its own
  pub nonce-apart : (salt : List ℕ) (a b : ℕ) → length salt ≡ salt_size → Octets salt → a < 2 ^ 64 → b < 2 ^ 64 → cipher.nonce salt a ≡ cipher.nonce salt b → a ≡ b
  pub encrypt-length : (suite : ℕ) (key nonce aad p : List ℕ) → Usable suite key nonce aad → Octets p
      → length (cipher.encrypt suite key nonce aad p) ≡ length p + tag_size suite
  pub encrypt-octets : (suite : ℕ) (key nonce aad p : List ℕ) → Usable suite key nonce aad → Octets p → Octets (cipher.encrypt suite key nonce aad p)
  pub decrypt-encrypt : (suite : ℕ) (key nonce aad p : List ℕ) → Usable suite key nonce aad → Octets p
      → cipher.decrypt suite key nonce aad (cipher.encrypt suite key nonce aad p) ≡ plain p
  -- what is decrypted is the encryption of what it is decrypted to
  pub decrypt-plain : (suite : ℕ) (key nonce aad c p : List ℕ) → Usable suite key nonce aad → Octets c → tag_size suite ≤ length c
      → cipher.decrypt suite key nonce aad c ≡ plain p → Octets p × (c ≡ cipher.encrypt suite key nonce aad p)

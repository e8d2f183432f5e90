-- SPDX-License-Identifier: MIT
-- The five suites of RFC 9605 as the cipher that the store and its calls use: a suite by its number. A number that is
-- no suite's gives nothing; no record that obeys its row has one.
-- Assumes nothing.
use Rattle.std.specs.Prelude.{List, [], ℕ}
use Rattle.store.specs.Cipher as Store
use Rattle.store.specs.Cipher.{Cipher}
use Rattle.key_record.specs.Suites.{with_suite}
use Rattle.suites.specs.Suites.{suite_of}
use Rattle.suites.specs.Derivation.{sframe_key, sframe_salt, nonce}
use Rattle.aead.specs.Aead as Aead
use Rattle.aead.specs.Aead.{plain, differs}

abbrev pub given : Aead.Decrypted → Store.Decrypted
given (plain p) = Store.plain p
given differs = Store.differs

unfoldable pub key_for : (n : ℕ) (base : List ℕ) (kid : ℕ) → List ℕ
key_for n base kid = with_suite [] (λ s. sframe_key s base kid) (suite_of n)

unfoldable pub salt_for : (n : ℕ) (base : List ℕ) (kid : ℕ) → List ℕ
salt_for n base kid = with_suite [] (λ s. sframe_salt s base kid) (suite_of n)

unfoldable pub encrypt_by : (n : ℕ) (key nonce aad p : List ℕ) → List ℕ
encrypt_by n key nonce aad p = with_suite [] (λ s. Aead.encrypt s key nonce aad p) (suite_of n)

unfoldable pub decrypt_by : (n : ℕ) (key nonce aad c : List ℕ) → Store.Decrypted
decrypt_by n key nonce aad c = with_suite Store.differs (λ s. given (Aead.decrypt s key nonce aad c)) (suite_of n)

abbrev pub sframe : Cipher
sframe = record { key = key_for; salt = salt_for; nonce = nonce; encrypt = encrypt_by; decrypt = decrypt_by }

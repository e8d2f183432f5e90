-- SPDX-License-Identifier: MIT
-- Laws of secure objects, for this crate's proofs and for those above it. Assumes nothing.
use mathlib.Core.Path.{◌≡◌, refl, sym, ◌∙◌, ap, ap₂}
use mathlib.Core.List.{List, [], ◌∷◌, ◌++◌, append_assoc, append-nil}
use Prim.Native.Nat.{ℕ, ◌+◌, ◌*◌, ◌/◌, ◌%◌, ◌^◌, ◌<◌, ◌≤◌}
use native.Mathlib.Nat.{zero-add}
use native.Mathlib.Omega.{arith}
use lib.Arith.{digits_lt, digits_div, digits_mod}
use lib.Dec.{ltb}
use lib.ListN.{length}
use borrow.Author.Tests.{ltb-true, ltb-false, lt-ltb, le-ltb}
use Rattle.octets.specs.Octets.{Octets, bytes}
use Rattle.octets.proofs.Laws.{bytes-length, bytes-add, bytes-mod}
use Rattle.answers.proofs.Basics.{Two, yes', no', two}
use Rattle.suites.specs.Suites.{Nk, Nn, Nt}
use Rattle.suites.specs.Derivation.{nonce}
use Rattle.aead.specs.Aead.{plain}
use Rattle.suites.specs.declared.sizes.Suite.{Suite}
use Rattle.suites.proofs.Laws.{nonce-differs, expanded-length, expanded-octets}
use Rattle.aead.proofs.Laws.{encrypt-size, decrypt-encrypt, decrypt-only, decrypt-octets}
use Rattle.secure_objects.specs.Varint.{varint, varint_most}
use Rattle.secure_objects.specs.Objects.{object_ceiling, counter, ceiling, aad, secured, unsecured}
use Rattle.secure_objects.specs.Derivation.{key_text, salt_text, derived, moq_key, moq_salt}

-- ---- variable-length integers

-- by range
module _ (x : ℕ) where
  pub varint-1 : x < 2 ^ 6 → varint x ≡ bytes 1 x
  unfolding varint
  varint-1 a = rw (lt-ltb x (2 ^ 6) a, zero-add)

  module _ (a : 2 ^ 6 ≤ x) where
    pub varint-2 : x < 2 ^ 14 → varint x ≡ bytes 2 (1 * 2 ^ 14 + x)
    unfolding varint
    varint-2 b = rw (le-ltb x (2 ^ 6) a, lt-ltb x (2 ^ 14) b)

    module _ (b : 2 ^ 14 ≤ x) where
      pub varint-4 : x < 2 ^ 30 → varint x ≡ bytes 4 (2 * 2 ^ 30 + x)
      unfolding varint
      varint-4 c = rw (le-ltb x (2 ^ 6) a, le-ltb x (2 ^ 14) b, lt-ltb x (2 ^ 30) c)

      module _ (c : 2 ^ 30 ≤ x) where
        pub varint-8 : x < 2 ^ 62 → varint x ≡ bytes 8 (3 * 2 ^ 62 + x)
        unfolding varint
        varint-8 d = rw (le-ltb x (2 ^ 6) a, le-ltb x (2 ^ 14) b, le-ltb x (2 ^ 30) c, lt-ltb x (2 ^ 62) d)

        pub varint-9 : 2 ^ 62 ≤ x → varint x ≡ 255 ∷ bytes 8 x
        unfolding varint
        varint-9 d = rw (le-ltb x (2 ^ 6) a, le-ltb x (2 ^ 14) b, le-ltb x (2 ^ 30) c, le-ltb x (2 ^ 62) d)

pub varint-length : (x : ℕ) → length (varint x) ≤ varint_most
varint-length x = by (two (ltb x (2 ^ 6))) (two (ltb x (2 ^ 14))) (two (ltb x (2 ^ 30))) (two (ltb x (2 ^ 62)))
  where
    by : Two (ltb x (2 ^ 6)) → Two (ltb x (2 ^ 14)) → Two (ltb x (2 ^ 30)) → Two (ltb x (2 ^ 62)) → length (varint x) ≤ varint_most
    by (yes' a) b c d = rw (varint-1 x (ltb-true x (2 ^ 6) a), bytes-length) (omega arith)
    by (no' a) (yes' b) c d = rw (varint-2 x (ltb-false x (2 ^ 6) a) (ltb-true x (2 ^ 14) b), bytes-length) (omega arith)
    by (no' a) (no' b) (yes' c) d = rw (varint-4 x (ltb-false x (2 ^ 6) a) (ltb-false x (2 ^ 14) b) (ltb-true x (2 ^ 30) c), bytes-length) (omega arith)
    by (no' a) (no' b) (no' c) (yes' d) =
        rw (varint-8 x (ltb-false x (2 ^ 6) a) (ltb-false x (2 ^ 14) b) (ltb-false x (2 ^ 30) c) (ltb-true x (2 ^ 62) d), bytes-length) (omega arith)
    by (no' a) (no' b) (no' c) (no' d) =
        rw (varint-9 x (ltb-false x (2 ^ 6) a) (ltb-false x (2 ^ 14) b) (ltb-false x (2 ^ 30) c) (ltb-false x (2 ^ 62) d)) (omega (arith, bytes-length 8 x))

-- ---- the counter

module _ (group object : ℕ) (h : object < object_ceiling) where
  -- it is the Group ID in 8 bytes and the Object ID in 4
  pub counter-bytes : bytes Nn (counter group object) ≡ bytes 8 group ++ bytes 4 object
  unfolding counter
  counter-bytes =
      bytes-add 8 4 (group * object_ceiling + object)
      ∙ ap₂ (λ (a b : ℕ). bytes 8 a ++ bytes 4 b) (digits_div group h) refl
      ∙ ap (λ (l : List ℕ). bytes 8 group ++ l) (sym (bytes-mod 4 (group * object_ceiling + object)) ∙ ap (bytes 4) (digits_mod group h))

  pub counter-below : group < 2 ^ 64 → counter group object < ceiling
  unfolding counter
  counter-below g = digits_lt g h

-- different pairs have different counters
pub counter-apart : (g o g' o' : ℕ) → o < object_ceiling → o' < object_ceiling → counter g o ≡ counter g' o' → (g ≡ g') × (o ≡ o')
unfolding counter
counter-apart g o g' o' h h' e = (
  sym (digits_div g h) ∙ ap (λ (x : ℕ). x / object_ceiling) e ∙ digits_div g' h',
  sym (digits_mod g h) ∙ ap (λ (x : ℕ). x % object_ceiling) e ∙ digits_mod g' h',
)

-- under one salt, different counters give different nonces
pub nonces-apart : (t : List ℕ) (a b : ℕ) → length t ≡ Nn → a < ceiling → b < ceiling → nonce t a ≡ nonce t b → a ≡ b
nonces-apart t a b h ha hb e = nonce-differs t a b h ha hb e

-- ---- associated data

-- the properties come last
pub aad-properties : (key_id group object : ℕ) (name properties : List ℕ) → aad key_id group object name [] ++ properties ≡ aad key_id group object name properties
unfolding aad
aad-properties key_id group object name properties =
    simp (append_assoc, append-nil)

-- ---- derivation

derived-length : (t : List ℕ) (s : Suite) (base name : List ℕ) (key_id n : ℕ) → length (derived t s base name key_id n) ≡ n
unfolding derived
derived-length t s base name key_id n = expanded-length s _ _ n

derived-octets : (t : List ℕ) (s : Suite) (base name : List ℕ) (key_id n : ℕ) → Octets (derived t s base name key_id n)
unfolding derived
derived-octets t s base name key_id n = expanded-octets s _ _ n

module _ (s : Suite) (base name : List ℕ) (key_id : ℕ) where
  pub key-length : length (moq_key s base name key_id) ≡ Nk s
  unfolding moq_key
  key-length = derived-length key_text s base name key_id (Nk s)

  pub key-octets : Octets (moq_key s base name key_id)
  unfolding moq_key
  key-octets = derived-octets key_text s base name key_id (Nk s)

  pub salt-length : length (moq_salt s base name key_id) ≡ Nn
  unfolding moq_salt
  salt-length = derived-length salt_text s base name key_id Nn

  pub salt-octets : Octets (moq_salt s base name key_id)
  unfolding moq_salt
  salt-octets = derived-octets salt_text s base name key_id Nn

-- ---- encryption and decryption

module _ (s : Suite) (key salt name : List ℕ) (key_id group object : ℕ) (properties : List ℕ) where
  pub secured-length : (p : List ℕ) → length (secured s key salt name key_id group object properties p) ≡ length p + Nt s
  unfolding secured
  secured-length p = encrypt-size s key _ _ p

  -- an object decrypts to its plaintext
  pub unsecured-secured : (p : List ℕ) → unsecured s key salt name key_id group object properties (secured s key salt name key_id group object properties p) ≡ plain p
  unfolding secured unsecured
  unsecured-secured p = decrypt-encrypt s key _ _ p

  -- and what decrypts is the object of what comes out
  pub unsecured-only : (c p : List ℕ) → unsecured s key salt name key_id group object properties c ≡ plain p → c ≡ secured s key salt name key_id group object properties p
  unfolding secured unsecured
  unsecured-only c p e = decrypt-only s key _ _ c p e

  pub unsecured-octets : (c p : List ℕ) → Octets c → unsecured s key salt name key_id group object properties c ≡ plain p → Octets p
  unfolding unsecured
  unsecured-octets c p o e = decrypt-octets s key _ _ c p o e

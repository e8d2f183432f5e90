-- SPDX-License-Identifier: MIT
-- The five suites have the laws that the store and its calls use of a cipher. Assumes nothing.
use mathlib.Core.Path.{◌≡◌, ap}
use mathlib.Core.Bool.{true}
use mathlib.Core.List.{List}
use Prim.Native.Nat.{ℕ, ◌+◌}
use native.Mathlib.Omega.{arith}
use lib.ListN.{length}
use Rattle.octets.specs.Octets.{Octets}
use Rattle.store.specs.Cipher as Store
use Rattle.key_record.specs.Suites.{is_suite, key_size, tag_size}
use Rattle.store.proofs.CipherLaws.{Laws}
use Rattle.key_record.proofs.Suites.{named, key-named, tag-named}
use Rattle.store.specs.Sframe.{given, key_for, salt_for, encrypt_by, decrypt_by, sframe}
use Rattle.aead.specs.Aead as Aead
use Rattle.aead.specs.Aead.{plain, differs}
use Rattle.suites.proofs.Laws as Suites
use Rattle.aead.proofs.Laws as AeadLaws

given-plain : (d : Aead.Decrypted) (p : List ℕ) → given d ≡ Store.plain p → d ≡ plain p
given-plain (plain q) p e = let r : q ≡ p = cc in ap plain r
given-plain differs p e = let z : ◌≡◌ {A = ℕ} 0 1 = cc in absurd (omega arith)

module _ (n : ℕ) (k : is_suite n ≡ true) where
  key-is : (base : List ℕ) (kid : ℕ) → length (key_for n base kid) ≡ key_size n
  unfolding key_for
  key-is base kid = let m = named n k in rw (m.found, key-named n m.suite m.found) (Suites.key-length m.suite base kid)

  key-bytes : (base : List ℕ) (kid : ℕ) → Octets (key_for n base kid)
  unfolding key_for
  key-bytes base kid = let m = named n k in rw m.found (Suites.key-octets m.suite base kid)

  salt-is : (base : List ℕ) (kid : ℕ) → length (salt_for n base kid) ≡ 12
  unfolding salt_for
  salt-is base kid = let m = named n k in rw m.found (Suites.salt-length m.suite base kid)

  salt-bytes : (base : List ℕ) (kid : ℕ) → Octets (salt_for n base kid)
  unfolding salt_for
  salt-bytes base kid = let m = named n k in rw m.found (Suites.salt-octets m.suite base kid)

  module _ (key nonce aad : List ℕ) where
    encrypt-is : (p : List ℕ) → length (encrypt_by n key nonce aad p) ≡ length p + tag_size n
    unfolding encrypt_by
    encrypt-is p = let m = named n k in rw (m.found, tag-named n m.suite m.found) (AeadLaws.encrypt-size m.suite key nonce aad p)

    encrypt-bytes : (p : List ℕ) → Octets p → Octets (encrypt_by n key nonce aad p)
    unfolding encrypt_by
    encrypt-bytes p o = let m = named n k in rw m.found (AeadLaws.encrypt-bytes m.suite key nonce aad p o)

    back : (p : List ℕ) → decrypt_by n key nonce aad (encrypt_by n key nonce aad p) ≡ Store.plain p
    unfolding encrypt_by decrypt_by
    back p = let m = named n k in rw m.found (ap given (AeadLaws.decrypt-encrypt m.suite key nonce aad p))

    only : (c p : List ℕ) → Octets c → decrypt_by n key nonce aad c ≡ Store.plain p → Octets p × (c ≡ encrypt_by n key nonce aad p)
    unfolding encrypt_by decrypt_by
    only c p o e =
        let m = named n k in
        let d : Aead.decrypt m.suite key nonce aad c ≡ plain p = given-plain _ p (rw m.found at e) in
        (AeadLaws.decrypt-octets m.suite key nonce aad c p o d, rw m.found (AeadLaws.decrypt-only m.suite key nonce aad c p d))

-- the laws, of the suites themselves
pub suites-laws : Laws sframe
suites-laws = record {
  key-length = λ n base kid k. key-is n k base kid;
  key-octets = λ n base kid k o. key-bytes n k base kid;
  salt-length = λ n base kid k. salt-is n k base kid;
  salt-octets = λ n base kid k o. salt-bytes n k base kid;
  nonce-length = λ salt ctr h. Suites.nonce-length salt ctr h;
  nonce-octets = λ salt ctr h o. Suites.nonce-octets salt ctr o;
  nonce-apart = λ salt a b h o ha hb e. Suites.nonce-apart salt a b h ha hb e;
  encrypt-length = λ n key nonce aad p u o. encrypt-is n u.known key nonce aad p;
  encrypt-octets = λ n key nonce aad p u o. encrypt-bytes n u.known key nonce aad p o;
  decrypt-encrypt = λ n key nonce aad p u o. back n u.known key nonce aad p;
  decrypt-plain = λ n key nonce aad c p u o h e. only n u.known key nonce aad c p o e;
}

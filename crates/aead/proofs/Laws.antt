-- SPDX-License-Identifier: MIT
-- Laws of encryption and decryption, once over all five suites, for the proofs of the crates above. Assumes nothing.
use mathlib.Core.Path.{◌≡◌, refl, sym, ◌∙◌, ap, ap₂}
use mathlib.Core.Bool.{Bool, true, false, false≢true}
use mathlib.Core.List.{List, [], ◌++◌}
use Prim.Native.Nat.{ℕ, ◌+◌, ◌-◌, ◌≤◌}
use native.Mathlib.Omega.{arith}
use lib.Dec.{leb}
use lib.ListN.{length, take, drop, length-append, take-append-drop}
use lib.Seq.{take_all, take_at, drop_at, length-take-le, take-append-le, take-take}
use borrow.Author.Tests.{le-leb}
use Rattle.octets.specs.Octets.{Octets, same, pick, both}
use Rattle.octets.proofs.Laws.{same_refl, same-eq, octets-append, octets-take, part-rest}
use Rattle.sha2_common.specs.Sizes.{sha256}
use Rattle.hmac.specs.Hmac.{hmac}
use Rattle.hmac.proofs.Laws.{hmac-length, hmac-octets}
use Rattle.hmac_tag.specs.TagInput.{tag_input}
use Rattle.aes.specs.Aes.{KeySize}
use Rattle.aes.proofs.Laws.{aes-128, aes-256}
use Rattle.gcm.specs.Gcm.{gcm_ciphertext, gcm_encrypt}
use Rattle.gcm.proofs.Laws as GcmLaws
use Rattle.suites.specs.declared.sizes.Suite.{Suite}
use Rattle.suites.specs.declared.sizes.Suite.TheVariants.{Ctr80, Ctr64, Ctr32, Gcm128, Gcm256}
use Rattle.suites.specs.declared.sizes.Mode.{Mode}
use Rattle.suites.specs.declared.sizes.Mode.TheVariants.{CtrHmac, Gcm}
use Rattle.suites.specs.Suites.{Nk, Nt, mode_of, cipher_key_size}
use Rattle.suites.proofs.Laws.{Nt-most, ctr-not-gcm, gcm-sizes, hash-eight}
use Rattle.aead.specs.Aead.{cipher_key, first_count, ctr_tag, tag_in, ciphertext, tag, encrypt, Decrypted, plain, differs, decrypt, room_after}

-- ---- the key

-- AES takes 16 or 32 bytes of the key
pub cipher-key-size : (s : Suite) → (cipher_key_size s ≤ Nk s) × KeySize (cipher_key_size s)
cipher-key-size Ctr80 = (omega arith, aes-128)
cipher-key-size Ctr64 = (omega arith, aes-128)
cipher-key-size Ctr32 = (omega arith, aes-128)
cipher-key-size Gcm128 = (omega arith, aes-128)
cipher-key-size Gcm256 = (omega arith, aes-256)

-- AES takes the whole of a key of GCM
pub whole-key : (s : Suite) (k : List ℕ) → mode_of s ≡ Gcm → length k ≡ Nk s → take (cipher_key_size s) k ≡ k
whole-key Ctr80 k e h = absurd (ctr-not-gcm e)
whole-key Ctr64 k e h = absurd (ctr-not-gcm e)
whole-key Ctr32 k e h = absurd (ctr-not-gcm e)
whole-key Gcm128 k e h = take_all 16 k (omega arith)
whole-key Gcm256 k e h = take_all 32 k (omega arith)

-- ---- encryption

pub ciphertext-length : (s : Suite) (k n p : List ℕ) → length (ciphertext s k n p) ≡ length p
unfolding ciphertext
ciphertext-length s k n p = GcmLaws.ctr-length (cipher_key s k) n (first_count (mode_of s)) p

-- what encrypts also decrypts
pub ciphertext-twice : (s : Suite) (k n p : List ℕ) → ciphertext s k n (ciphertext s k n p) ≡ p
unfolding ciphertext
ciphertext-twice s k n p = GcmLaws.ctr-twice (cipher_key s k) n (first_count (mode_of s)) p

pub ciphertext-octets : (s : Suite) (k n p : List ℕ) → Octets p → Octets (ciphertext s k n p)
unfolding ciphertext
ciphertext-octets s k n p o = GcmLaws.ctr-octets (cipher_key s k) n (first_count (mode_of s)) p o

hmac-tag-length : (nt : ℕ) (k n a c : List ℕ) → nt ≤ 32 → length (ctr_tag nt k n a c) ≡ nt
unfolding ctr_tag
hmac-tag-length nt k n a c h = length-take-le nt _ (rw (hmac-length sha256 (hash-eight Ctr80)) h)

pub tag-length : (s : Suite) (k n a c : List ℕ) → length (tag s k n a c) ≡ Nt s
unfolding tag
tag-length s k n a c = by (mode_of s) refl
  where
    by : (m : Mode) → mode_of s ≡ m → length (tag_in (mode_of s) (Nt s) k n a c) ≡ Nt s
    by CtrHmac e = rw e (hmac-tag-length (Nt s) k n a c (omega (arith, Nt-most s)))
    by Gcm e = rw e (GcmLaws.tag-length k n a c ∙ sym (gcm-sizes s e))

hmac-tag-octets : (nt : ℕ) (k n a c : List ℕ) → Octets (ctr_tag nt k n a c)
unfolding ctr_tag
hmac-tag-octets nt k n a c = octets-take nt _ (hmac-octets sha256 _ _)

pub tag-octets : (s : Suite) (k n a c : List ℕ) → Octets (tag s k n a c)
unfolding tag
tag-octets s k n a c = by (mode_of s)
  where
    by : (m : Mode) → Octets (tag_in m (Nt s) k n a c)
    by CtrHmac = hmac-tag-octets (Nt s) k n a c
    by Gcm = GcmLaws.tag-octets k n a c

-- the first nt bytes of the first 16 of an HMAC
pub ctr-tag-made : (nt : ℕ) (k n a c w t z : List ℕ) → nt ≤ 16 → length w ≡ 32 → w ≡ hmac sha256 (take (length k - 16) (drop 16 k)) (tag_input nt n a c)
    → t ≡ take 16 w ++ z → take nt t ≡ ctr_tag nt k n a c
unfolding ctr_tag
ctr-tag-made nt k n a c w t z h l e q =
    ap (take nt) q
    ∙ take-append-le nt (take 16 w) z (rw (length-take-le 16 w (omega arith)) h)
    ∙ take-take nt 16 w h
    ∙ ap (take nt) (e ∙ ap (λ (x : List ℕ). hmac sha256 x (tag_input nt n a c)) (part-rest 16 k))

pub encrypt-size : (s : Suite) (k n a p : List ℕ) → length (encrypt s k n a p) ≡ length p + Nt s
unfolding encrypt
encrypt-size s k n a p = rw (length-append, ciphertext-length, tag-length)

pub encrypt-bytes : (s : Suite) (k n a p : List ℕ) → Octets p → Octets (encrypt s k n a p)
unfolding encrypt
encrypt-bytes s k n a p o = octets-append (ciphertext s k n p) _ (ciphertext-octets s k n p o) (tag-octets s k n a _)

-- with a suite of GCM it is GCM's own encryption
pub encrypt-gcm : (s : Suite) (k n a p : List ℕ) → mode_of s ≡ Gcm → length k ≡ Nk s → encrypt s k n a p ≡ gcm_encrypt k n a p
unfolding encrypt ciphertext tag gcm_encrypt gcm_ciphertext
encrypt-gcm s k n a p e h = rw (whole-key s k e h, e)

-- ---- decryption

-- bytes that are a ciphertext and its tag are decrypted
decrypt-whole : (s : Suite) (k n a c : List ℕ) → decrypt s k n a (c ++ tag s k n a c) ≡ plain (ciphertext s k n c)
unfolding decrypt
decrypt-whole s k n a c =
    let t = tag s k n a c in
    let l : length (c ++ t) ≡ length c + Nt s = rw (length-append, tag-length) in
    let m : length (c ++ t) - Nt s ≡ length c = omega arith in
    rw (m, take_at c t (length c) refl, drop_at c t (length c) refl, same_refl t, le-leb (Nt s) (length (c ++ t)) (omega arith))

-- decryption of an encryption gives the plaintext back
pub decrypt-encrypt : (s : Suite) (k n a p : List ℕ) → decrypt s k n a (encrypt s k n a p) ≡ plain p
unfolding encrypt
decrypt-encrypt s k n a p = decrypt-whole s k n a (ciphertext s k n p) ∙ ap plain (ciphertext-twice s k n p)

pick-plain : (t : Bool) (a b p : List ℕ) → pick t (plain a) differs ≡ plain p → (t ≡ true) × (a ≡ p)
pick-plain true a b p e = (refl, cc)
pick-plain false a b p e = let z : ◌≡◌ {A = ℕ} 0 1 = cc in absurd (omega arith)

both_true : (a b : Bool) → both a b ≡ true → (a ≡ true) × (b ≡ true)
both_true true b e = (refl, e)
both_true false b e = absurd (false≢true e)

-- and what is decrypted is the encryption of what comes out
pub decrypt-only : (s : Suite) (k n a l p : List ℕ) → decrypt s k n a l ≡ plain p → l ≡ encrypt s k n a p
unfolding decrypt encrypt
decrypt-only s k n a l p e =
    let m = length l - Nt s in
    let r = pick-plain _ (ciphertext s k n (take m l)) [] p e in
    let b = both_true (leb (Nt s) (length l)) (same (drop m l) (tag s k n a (take m l))) r.0 in
    let t : drop m l ≡ tag s k n a (take m l) = same-eq _ _ b.1 in
    let c : take m l ≡ ciphertext s k n p = sym (ciphertext-twice s k n (take m l)) ∙ ap (ciphertext s k n) r.1 in
    sym (take-append-drop m l) ∙ ap₂ ◌++◌ c (t ∙ ap (tag s k n a) c)

-- a plaintext that comes out is bytes
pub decrypt-octets : (s : Suite) (k n a l p : List ℕ) → Octets l → decrypt s k n a l ≡ plain p → Octets p
unfolding decrypt
decrypt-octets s k n a l p o e =
    let m = length l - Nt s in
    let r = pick-plain (both (leb (Nt s) (length l)) (same (drop m l) (tag s k n a (take m l)))) (ciphertext s k n (take m l)) [] p e in
    rw r.1 at (ciphertext-octets s k n (take m l) (octets-take m l o))

-- a tag that differs leaves the room as it was
pub room-left : (d : Decrypted) (room : List ℕ) → d ≡ differs → room_after d room ≡ room
room-left d room e = rw e

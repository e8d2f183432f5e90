-- SPDX-License-Identifier: MIT
-- AEAD encryption and decryption of each suite: RFC 9605, sections 4.4.3, 4.4.4 and 4.5. Assumes nothing.
use Rattle.std.specs.Prelude.{Bool, true, false, List, ◌++◌, ℕ, ◌-◌, leb, length, take, drop}
use Rattle.octets.specs.Octets.{pick, both, same}
use Rattle.sha2_common.specs.Sizes.{sha256}
use Rattle.hmac.specs.Hmac.{hmac}
use Rattle.hmac_tag.specs.TagInput.{tag_input}
use Rattle.gcm.specs.Counter.{ctr}
use Rattle.gcm.specs.Gcm.{gcm_tag}
use Rattle.suites.specs.declared.sizes.Suite.{Suite}
use Rattle.suites.specs.declared.sizes.Mode.{Mode}
use Rattle.suites.specs.declared.sizes.Mode.TheVariants.{CtrHmac, Gcm}
use Rattle.suites.specs.Suites.{Nka, Nt, mode_of, cipher_key_size}

-- The part of the key that AES takes, and the part that HMAC takes (4.5.1).
abbrev pub cipher_key : Suite → List ℕ → List ℕ
cipher_key s key = take (cipher_key_size s) key

abbrev pub auth_key : List ℕ → List ℕ
auth_key key = drop Nka key

-- The first block count. 4.5.1: the nonce, then 00000000. 4.5 with SP 800-38D §7.1: GCM's data start at 2.
abbrev pub first_count : Mode → ℕ
first_count CtrHmac = 0
first_count Gcm = 2

-- The ciphertext: AES in counter mode. It is a XOR with a key stream, and so its own inverse.
unfoldable pub ciphertext : (s : Suite) (key nonce plaintext : List ℕ) → List ℕ
ciphertext s key nonce plaintext = ctr (cipher_key s key) nonce (first_count (mode_of s)) plaintext

-- 4.5.1: the first Nt bytes of the HMAC.
unfoldable pub ctr_tag : (nt : ℕ) (key nonce aad ciphertext : List ℕ) → List ℕ
ctr_tag nt key nonce aad ciphertext = take nt (hmac sha256 (auth_key key) (tag_input nt nonce aad ciphertext))

-- The tag of a suite: with HMAC, or GCM's own.
abbrev pub tag_in : (mode : Mode) (nt : ℕ) (key nonce aad ciphertext : List ℕ) → List ℕ
tag_in CtrHmac nt key nonce aad c = ctr_tag nt key nonce aad c
tag_in Gcm nt key nonce aad c = gcm_tag key nonce aad c

unfoldable pub tag : (s : Suite) (key nonce aad ciphertext : List ℕ) → List ℕ
tag s key nonce aad c = tag_in (mode_of s) (Nt s) key nonce aad c

-- 4.4.3: AEAD.Encrypt, the ciphertext and then the tag.
unfoldable pub encrypt : (s : Suite) (key nonce aad plaintext : List ℕ) → List ℕ
encrypt s key nonce aad plaintext =
    let c = ciphertext s key nonce plaintext in
    c ++ tag s key nonce aad c

-- What decryption gives: the plaintext, or that the tag differs.
pub data Decrypted : Type 0 where
  plain : List ℕ → Decrypted
  differs : Decrypted

-- 4.4.4: AEAD.Decrypt. The last Nt bytes are the tag; they have to be that of the bytes before them.
unfoldable pub decrypt : (s : Suite) (key nonce aad sealed : List ℕ) → Decrypted
decrypt s key nonce aad sealed =
    let n = length sealed - Nt s in
    let c = take n sealed in
    pick (both (leb (Nt s) (length sealed)) (same (drop n sealed) (tag s key nonce aad c)))
    (plain (ciphertext s key nonce c))
    differs

-- What the code answers for each, and what the room then holds: a tag that differs leaves it as it was.
abbrev pub is_plain : Decrypted → Bool
is_plain (plain p) = true
is_plain differs = false

abbrev pub room_after : Decrypted → List ℕ → List ℕ
room_after (plain p) room = p ++ drop (length p) room
room_after differs room = room

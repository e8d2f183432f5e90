-- SPDX-License-Identifier: MIT
-- GCM (SP 800-38D §7.1) with a nonce of 12 bytes and a tag of 16.
-- Assumes nothing.
use Rattle.std.specs.Prelude.{List, ◌++◌, ℕ, ◌*◌, length, replicate}
use Rattle.std.specs.Int.Bits.{bit_xor}
use Rattle.octets.specs.Octets.{number, bytes, xors}
use Rattle.aes.specs.Aes.{block_size, encrypt}
use Rattle.gcm.specs.Counter.{counter_block, ctr}
use Rattle.ghash.specs.Ghash.{pair, product, absorb}

-- Step 1: the hash key, the encryption of the block of zeros.
unfoldable pub hash_key : List ℕ → ℕ
hash_key key = number block_size (encrypt key (replicate block_size 0))

-- Step 5: GHASH over the associated data, the ciphertext, and the block of their lengths in bits.
unfoldable pub hash : (h : ℕ) (aad ciphertext : List ℕ) → ℕ
hash h aad ciphertext =
    product (bit_xor (absorb h (absorb h 0 aad) ciphertext) (pair (8 * length aad) (8 * length ciphertext))) h

-- The bytes of a tag: a whole block.
abbrev pub tag_size : ℕ
tag_size = block_size

-- Steps 2 and 6: the tag. Block count 1 masks it.
unfoldable pub gcm_tag : (key nonce aad ciphertext : List ℕ) → List ℕ
gcm_tag key nonce aad ciphertext =
    xors (bytes tag_size (hash (hash_key key) aad ciphertext)) (encrypt key (counter_block nonce 1))

-- Step 3: the ciphertext. The data start at block count 2.
unfoldable pub gcm_ciphertext : (key nonce plaintext : List ℕ) → List ℕ
gcm_ciphertext key nonce plaintext = ctr key nonce 2 plaintext

-- Step 7: the ciphertext, then the tag.
unfoldable pub gcm_encrypt : (key nonce aad plaintext : List ℕ) → List ℕ
gcm_encrypt key nonce aad plaintext =
    gcm_ciphertext key nonce plaintext ++ gcm_tag key nonce aad (gcm_ciphertext key nonce plaintext)

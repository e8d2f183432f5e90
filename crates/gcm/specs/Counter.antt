-- SPDX-License-Identifier: MIT
-- Counter mode (SP 800-38A §6.5) over counter blocks of a 12-byte nonce and a 32-bit block count, as AES-CTR of RFC 9605
-- and GCM (SP 800-38D §6.5) both have them.
-- Assumes nothing.
use Rattle.std.specs.Prelude.{List, [], ◌++◌, ℕ, zero, suc, ◌+◌, length, drop}
use Rattle.octets.specs.Octets.{bytes, xors}
use Rattle.aes.specs.Aes.{blocks, encrypt}

-- The bytes of a nonce.
abbrev pub nonce_size : ℕ
nonce_size = 12

-- The counter block: the nonce, then the block count, big-endian.
unfoldable pub counter_block : List ℕ → ℕ → List ℕ
counter_block nonce count = nonce ++ bytes 4 count

-- The key stream: n encrypted counter blocks, from the given block count on.
unfoldable pub key_stream : (key nonce : List ℕ) (count n : ℕ) → List ℕ
key_stream key nonce count zero = []
key_stream key nonce count (suc n) = key_stream key nonce count n ++ encrypt key (counter_block nonce (count + n))

-- Encryption and decryption: the bytes XOR the key stream from the given block count on.
unfoldable pub ctr : (key nonce : List ℕ) (count : ℕ) (l : List ℕ) → List ℕ
ctr key nonce count l = xors l (key_stream key nonce count (blocks (length l)))

-- The bytes XOR the key stream that starts at the given block count, from its byte number at on.
unfoldable pub ctr_from : (key nonce : List ℕ) (count at : ℕ) (l : List ℕ) → List ℕ
ctr_from key nonce count at l = xors l (drop at (key_stream key nonce count (blocks (at + length l))))

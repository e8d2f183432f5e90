-- SPDX-License-Identifier: MIT
-- Sealing, whole and in pieces, over any block function E in the place of AES under the key: each definition that makes key stream, mask
-- or hash key, with E where it has AES. key is what HMAC takes its part of.
-- Assumes nothing.
use Rattle.std.specs.Prelude.{List, [], ◌∷◌, ◌++◌, ℕ, zero, suc, ◌+◌, ◌*◌, ◌%◌, length, drop}
use Rattle.std.specs.Int.Bits.{bit_xor}
use Rattle.octets.specs.Octets.{number, bytes, xors, pasted}
use Rattle.aes.specs.Aes.{block_size, blocks, encrypt}
use Rattle.ghash.specs.Ghash.{absorb, product, pair}
use Rattle.gcm.specs.Counter.{counter_block}
use Rattle.gcm.specs.Gcm.{hash, tag_size}
use Rattle.suites.specs.declared.sizes.Suite.{Suite}
use Rattle.suites.specs.declared.sizes.Mode.{Mode}
use Rattle.suites.specs.declared.sizes.Mode.TheVariants.{CtrHmac, Gcm}
use Rattle.suites.specs.Suites.{mode_of, Nt}
use Rattle.aead.specs.Aead.{cipher_key, first_count, ctr_tag}
use Rattle.piece_hash.specs.Held.{kept_block, absorb_whole, left_over, fed_hash, fed_blocks, blocks_of}
use Rattle.piece_line.specs.State.{at_taken, aad_in, taken_in, nonce_in, key_in, hash_in}
use Rattle.piece_line.specs.Line.{hash_after, front, key_field, before, tag_from}
use Rattle.cipher_inputs.specs.Blocks.{zero_block}

-- AES under the part of the key that it takes.
abbrev pub aes : (s : Suite) (key : List ℕ) → List ℕ → List ℕ
aes s key b = encrypt (cipher_key s key) b

module _ (E : List ℕ → List ℕ) where
  -- ---- key stream, hash key and mask

  unfoldable pub stream_by : (nonce : List ℕ) (count n : ℕ) → List ℕ
  stream_by nonce count zero = []
  stream_by nonce count (suc n) = stream_by nonce count n ++ E (counter_block nonce (count + n))

  unfoldable pub hash_key_by : ℕ
  hash_key_by = number block_size (E zero_block)

  unfoldable pub mask_by : (nonce : List ℕ) → List ℕ
  mask_by nonce = E (counter_block nonce 1)

  -- ---- a whole sealing

  unfoldable pub ciphertext_by : (s : Suite) (nonce plaintext : List ℕ) → List ℕ
  ciphertext_by s nonce plaintext = xors plaintext (stream_by nonce (first_count (mode_of s)) (blocks (length plaintext)))

  abbrev pub tag_by : (mode : Mode) (nt : ℕ) (key nonce aad ciphertext : List ℕ) → List ℕ
  tag_by CtrHmac nt key nonce aad c = ctr_tag nt key nonce aad c
  tag_by Gcm nt key nonce aad c = xors (bytes tag_size (hash hash_key_by aad c)) (mask_by nonce)

  unfoldable pub aead_by : (s : Suite) (key nonce aad plaintext : List ℕ) → List ℕ
  aead_by s key nonce aad plaintext =
      let c = ciphertext_by s nonce plaintext in
      c ++ tag_by (mode_of s) (Nt s) key nonce aad c

  -- ---- in pieces: the beginning

  abbrev pub hash_after_by : (mode : Mode) (nt n : ℕ) (key nonce aad c : List ℕ) → List ℕ
  hash_after_by CtrHmac nt n key nonce aad c = hash_after CtrHmac nt n key nonce aad c
  hash_after_by Gcm nt n key nonce aad c = kept_block (absorb_whole hash_key_by (absorb hash_key_by 0 aad) c) (left_over c)

  unfoldable pub begun_by : (kind : ℕ) (suite : Suite) (n : ℕ) (nonce key aad : List ℕ) → List ℕ
  begun_by kind suite n nonce key aad =
      front kind suite (length aad) n
      ++ (nonce ++ (key_field key ++ (bytes 4 0 ++ hash_after_by (mode_of suite) (Nt suite) n key nonce aad [])))

  -- ---- a piece

  unfoldable pub cipher_piece_by : (suite : Suite) (s piece : List ℕ) → List ℕ
  cipher_piece_by suite s piece =
      xors piece (drop (taken_in s) (stream_by (nonce_in s) (first_count (mode_of suite)) (blocks (taken_in s + length piece))))

  abbrev pub hash_more_by : (mode : Mode) (aad taken : ℕ) (b c : List ℕ) → List ℕ
  hash_more_by CtrHmac aad taken b c = fed_hash (before aad + taken) b c
  hash_more_by Gcm aad taken b c = fed_blocks hash_key_by (taken % block_size) b c

  unfoldable pub after_by : (suite : Suite) (s c : List ℕ) → List ℕ
  after_by suite s c =
      pasted s at_taken
      (bytes 4 (taken_in s + length c) ++ hash_more_by (mode_of suite) (aad_in s) (taken_in s) (hash_in s) c)

  -- ---- the end

  abbrev pub tag_from_by : (mode : Mode) (nt : ℕ) (key nonce : List ℕ) (aad taken : ℕ) (b : List ℕ) → List ℕ
  tag_from_by CtrHmac nt key nonce aad taken b = tag_from CtrHmac nt key nonce aad taken b
  tag_from_by Gcm nt key nonce aad taken b =
      xors (bytes tag_size (product (bit_xor (blocks_of hash_key_by (taken % block_size) b) (pair (8 * aad) (8 * taken))) hash_key_by)) (mask_by nonce)

  unfoldable pub tag_in_by : (suite : Suite) (s : List ℕ) → List ℕ
  tag_in_by suite s = tag_from_by (mode_of suite) (Nt suite) (key_in suite s) (nonce_in s) (aad_in s) (taken_in s) (hash_in s)

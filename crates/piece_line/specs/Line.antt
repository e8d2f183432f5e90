-- SPDX-License-Identifier: MIT
-- A line of calls: the state that it begins with, what a piece makes of the state, and the tag: RFC 9605, sections 4.4.3 and 4.5.
-- Assumes nothing.
use Rattle.std.specs.Prelude.{List, [], ◌∷◌, ◌++◌, ℕ, ◌+◌, ◌*◌, ◌-◌, ◌%◌, length, take, replicate}
use Rattle.std.specs.Int.Bits.{bit_xor}
use Rattle.octets.specs.Octets.{bytes, xors, pasted}
use Rattle.sha2_common.specs.Sha2.{hash}
use Rattle.sha2_common.specs.Sizes.{sha256}
use Rattle.sha2_common.specs.Running.{fresh, fed}
use Rattle.hmac.specs.Hmac.{masked, ipad, opad}
use Rattle.hmac_tag.specs.TagInput.{length_size}
use Rattle.aes.specs.Aes.{block_size, encrypt}
use Rattle.ghash.specs.Ghash.{absorb, product, pair}
use Rattle.gcm.specs.Counter.{counter_block}
use Rattle.gcm.specs.Gcm.{hash_key, tag_size}
use Rattle.suites.specs.declared.sizes.Suite.{Suite}
use Rattle.suites.specs.declared.sizes.Mode.{Mode}
use Rattle.suites.specs.declared.sizes.Mode.TheVariants.{CtrHmac, Gcm}
use Rattle.suites.specs.Suites.{number_of, mode_of, Nt}
use Rattle.aead.specs.Aead.{cipher_key, auth_key, first_count}
use Rattle.piece_stream.specs.CounterFrom.{ctr_from}
use Rattle.piece_hash.specs.Held.{kept, fed_hash, digest_of, kept_block, absorb_whole, left_over, fed_blocks, blocks_of}
use Rattle.piece_line.specs.State.{at_taken, key_space, aad_in, taken_in, nonce_in, key_in, hash_in}

-- ---- the beginning

-- 4.5.1: the tag's input up to a ciphertext of n bytes.
unfoldable pub tag_front : (nt n : ℕ) (nonce aad : List ℕ) → List ℕ
tag_front nt n nonce aad = bytes length_size (length aad) ++ (bytes length_size n ++ (bytes length_size nt ++ (nonce ++ aad)))

-- The running hash once the ciphertext c has been taken, of n bytes announced: with HMAC the inner hash of RFC 2104, else GHASH.
abbrev pub hash_after : (mode : Mode) (nt n : ℕ) (key nonce aad c : List ℕ) → List ℕ
hash_after CtrHmac nt n key nonce aad c =
    kept (fed sha256 (fresh sha256) (masked sha256 ipad (auth_key key) ++ (tag_front nt n nonce aad ++ c)))
hash_after Gcm nt n key nonce aad c =
    let h = hash_key key in
    kept_block (absorb_whole h (absorb h 0 aad) c) (left_over c)

-- Kind, suite and counts, at the front of a state.
unfoldable pub front : (kind : ℕ) (suite : Suite) (aad n : ℕ) → List ℕ
front kind suite aad n = kind ∷ number_of suite ∷ (bytes 2 aad ++ bytes 4 n)

-- A key, with zeros to the end of its room.
unfoldable pub key_field : List ℕ → List ℕ
key_field key = key ++ replicate (key_space - length key) 0

-- The state of a line with n bytes announced, once the ciphertext c has been taken.
unfoldable pub state_after : (kind : ℕ) (suite : Suite) (n : ℕ) (nonce key aad c : List ℕ) → List ℕ
state_after kind suite n nonce key aad c =
    front kind suite (length aad) n
    ++ (nonce ++ (key_field key ++ (bytes 4 (length c) ++ hash_after (mode_of suite) (Nt suite) n key nonce aad c)))

-- The state that a beginning writes.
unfoldable pub begun : (kind : ℕ) (suite : Suite) (n : ℕ) (nonce key aad : List ℕ) → List ℕ
begun kind suite n nonce key aad = state_after kind suite n nonce key aad []

-- ---- a piece

-- The bytes that the inner hash has taken before the ciphertext: a block of the key, three lengths, nonce, associated data.
abbrev pub before : ℕ → ℕ
before aad = 64 + 36 + aad

-- The running hash b of a line once c has been taken too.
abbrev pub hash_more : (mode : Mode) (key : List ℕ) (aad taken : ℕ) (b c : List ℕ) → List ℕ
hash_more CtrHmac key aad taken b c = fed_hash (before aad + taken) b c
hash_more Gcm key aad taken b c = fed_blocks (hash_key key) (taken % block_size) b c

-- The state s once the ciphertext c has been taken.
unfoldable pub after : (suite : Suite) (s c : List ℕ) → List ℕ
after suite s c =
    pasted s at_taken
    (bytes 4 (taken_in s + length c) ++ hash_more (mode_of suite) (key_in suite s) (aad_in s) (taken_in s) (hash_in s) c)

-- The ciphertext of a piece: it goes on in the key stream where the last piece ended.
unfoldable pub cipher_piece : (suite : Suite) (s piece : List ℕ) → List ℕ
cipher_piece suite s piece =
    ctr_from (cipher_key suite (key_in suite s)) (nonce_in s) (first_count (mode_of suite)) (taken_in s) piece

-- ---- the end

-- The tag of what a running hash b has taken.
abbrev pub tag_from : (mode : Mode) (nt : ℕ) (key nonce : List ℕ) (aad taken : ℕ) (b : List ℕ) → List ℕ
tag_from CtrHmac nt key nonce aad taken b =
    take nt (hash sha256 (masked sha256 opad (auth_key key) ++ digest_of (before aad + taken) b))
tag_from Gcm nt key nonce aad taken b =
    let h = hash_key key in
    xors (bytes tag_size (product (bit_xor (blocks_of h (taken % block_size) b) (pair (8 * aad) (8 * taken))) h)) (encrypt key (counter_block nonce 1))

unfoldable pub tag_in : (suite : Suite) (s : List ℕ) → List ℕ
tag_in suite s = tag_from (mode_of suite) (Nt suite) (key_in suite s) (nonce_in s) (aad_in s) (taken_in s) (hash_in s)

-- SPDX-License-Identifier: MIT
-- Running hashes held in 96 bytes: a value in 32 bytes, and a room of 64 for the bytes that wait for the rest of their block.
-- Assumes nothing.
use Rattle.std.specs.Prelude.{List, ◌++◌, ℕ, ◌+◌, ◌*◌, ◌/◌, length, take, drop, replicate}
use Rattle.octets.specs.Octets.{number, bytes}
use Rattle.sha2_common.specs.Sha2.{words, joined}
use Rattle.sha2_common.specs.Sizes.{sha256}
use Rattle.sha2_common.specs.Running.{State, room_of, fed, finished}
use Rattle.aes.specs.Aes.{block_size}
use Rattle.ghash.specs.Ghash.{absorb_blocks, absorb}

abbrev pub value_size : ℕ
value_size = 32

abbrev pub room_size : ℕ
room_size = 64

abbrev pub held_size : ℕ
held_size = value_size + room_size

-- The room in such bytes.
abbrev pub room_in : List ℕ → List ℕ
room_in b = take room_size (drop value_size b)

-- ---- SHA-256

-- The running hash that the bytes b hold, fed n bytes so far: eight words, then the room.
abbrev pub held : (n : ℕ) (b : List ℕ) → State
held n b = record { value = words sha256 8 b; room = room_in b; len = n }

-- The bytes that hold a running hash.
unfoldable pub kept : State → List ℕ
kept h = joined sha256 h.value ++ h.room

-- The bytes after c is fed, and the digest.
unfoldable pub fed_hash : (n : ℕ) (b c : List ℕ) → List ℕ
fed_hash n b c = kept (fed sha256 (held n b) c)

unfoldable pub digest_of : (n : ℕ) (b : List ℕ) → List ℕ
digest_of n b = finished sha256 (held n b)

-- ---- GHASH

-- The bytes that hold the value y, and the bytes w that wait.
unfoldable pub kept_block : (y : ℕ) (w : List ℕ) → List ℕ
kept_block y w = bytes block_size y ++ (replicate 16 0 ++ room_of sha256 w)

-- GHASH under h, from y on, over the whole blocks of w; and what is left of w after them.
unfoldable pub absorb_whole : (h y : ℕ) (w : List ℕ) → ℕ
absorb_whole h y w = absorb_blocks h y w (length w / block_size)

unfoldable pub left_over : List ℕ → List ℕ
left_over w = drop (block_size * (length w / block_size)) w

-- The bytes after c is absorbed under h, where n bytes wait.
unfoldable pub fed_blocks : (h n : ℕ) (b c : List ℕ) → List ℕ
fed_blocks h n b c =
    let w = take n (room_in b) ++ c in
    kept_block (absorb_whole h (number block_size b) w) (left_over w)

-- The value once the bytes that wait have been absorbed too, filled up with zeros.
unfoldable pub blocks_of : (h n : ℕ) (b : List ℕ) → ℕ
blocks_of h n b = absorb h (number block_size b) (take n (room_in b))

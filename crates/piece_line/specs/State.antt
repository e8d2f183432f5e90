-- SPDX-License-Identifier: MIT
-- The running state of a frame in pieces, 168 bytes that the caller lends. What changes stands last.
-- Assumes nothing.
use Rattle.std.specs.Prelude.{Option, None, Bool, List, ℕ, ◌+◌, leb, eqb, length, get_or, take, drop}
use Rattle.octets.specs.Octets.{number, pick, both}
use Rattle.header.specs.Header.{max_header}
use Rattle.answers.specs.Limits.{max_plaintext, max_metadata}
use Rattle.suites.specs.declared.sizes.Suite.{Suite}
use Rattle.suites.specs.Suites.{Nk, Nn, suite_of}
use Rattle.piece_hash.specs.Held.{held_size}

-- Where each field starts. The kind of line stands at 0, the suite's number at 1.
abbrev pub at_aad : ℕ
at_aad = 2

abbrev pub at_announced : ℕ
at_announced = 4

abbrev pub at_nonce : ℕ
at_nonce = 8

abbrev pub at_key : ℕ
at_key = 20

abbrev pub at_taken : ℕ
at_taken = 68

abbrev pub at_hash : ℕ
at_hash = 72

abbrev pub state_size : ℕ
state_size = 168

-- The bytes that a key has room in.
abbrev pub key_space : ℕ
key_space = 48

-- The kinds of line.
abbrev pub sealing : ℕ
sealing = 1

abbrev pub checking : ℕ
checking = 2

-- ---- the fields

abbrev pub kind_in : List ℕ → ℕ
kind_in s = get_or s 0 0

abbrev pub suite_in : List ℕ → Option Suite
suite_in s = suite_of (get_or s 1 0)

-- The bytes of associated data, those announced, and those taken so far.
abbrev pub aad_in : List ℕ → ℕ
aad_in s = number 2 (drop at_aad s)

abbrev pub announced_in : List ℕ → ℕ
announced_in s = number 4 (drop at_announced s)

abbrev pub taken_in : List ℕ → ℕ
taken_in s = number 4 (drop at_taken s)

abbrev pub nonce_in : List ℕ → List ℕ
nonce_in s = take Nn (drop at_nonce s)

abbrev pub key_in : Suite → List ℕ → List ℕ
key_in suite s = take (Nk suite) (drop at_key s)

-- The running hash of what the tag covers.
abbrev pub hash_in : List ℕ → List ℕ
hash_in s = take held_size (drop at_hash s)

-- ---- the states that are possible

-- The most bytes of associated data: a header and the metadata. It has one byte at least, that of the header.
abbrev pub max_aad : ℕ
max_aad = max_header + max_metadata

unfoldable pub counts_fit : List ℕ → Bool
counts_fit s =
    both (both (leb 1 (aad_in s)) (leb (aad_in s) max_aad))
    (both (leb (announced_in s) max_plaintext) (leb (taken_in s) (announced_in s)))

unfoldable pub fits : (kind : ℕ) (s : List ℕ) → Bool
fits kind s = both (leb state_size (length s)) (both (eqb (kind_in s) kind) (counts_fit s))

-- The suite of a line of that kind, where the state is possible: long enough, of that kind, of a suite, its counts fitting.
unfoldable pub line_of : (kind : ℕ) (s : List ℕ) → Option Suite
line_of kind s = pick (fits kind s) (suite_in s) None

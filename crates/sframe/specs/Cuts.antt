-- SPDX-License-Identifier: MIT
-- A sealing, and a check, cut into pieces: what the calls of its line leave and give. Assumes nothing.
use Rattle.std.specs.Prelude.{◌≡◌, List, [], ◌∷◌, ◌++◌, ◌↔◌, ℕ, ◌≤◌, length, take}
use Rattle.octets.specs.Octets.{Octets}
use Rattle.answers.specs.Answers.{done, Outcome}
use Rattle.header.specs.Header.{header_of, read_header}
use Rattle.pieces.specs.Calls.{seal_piece, seal_end, check_piece, check_end}
use Rattle.key_record.specs.Record.{ReceivingKey}
use Rattle.key_record.specs.Suites.{tag_size}
use Rattle.store.specs.Sframe.{sframe}
use Rattle.begin_check.specs.Check.{check_begin}
use Rattle.sframe.specs.Promises.{Holds, Encryption}

-- A piece, and the room that it is lent.
pub record Cut : Type 0 where
  pub piece : List ℕ
  pub room : List ℕ

-- The pieces joined in order, and that each has room.
unfoldable pub plaintext_of : List Cut → List ℕ
plaintext_of [] = []
plaintext_of (c ∷ cs) = c.piece ++ plaintext_of cs

abbrev pub Roomy : List Cut → Type 0
Roomy [] = Unit {0}
Roomy (c ∷ cs) = (length c.piece ≤ length c.room) × Roomy cs

-- The state that they leave, and the bytes that they give, one after the other.
unfoldable pub left_by : (state : List ℕ) (cs : List Cut) → List ℕ
left_by state [] = state
left_by state (c ∷ cs) = left_by (seal_piece state c.piece c.room).state cs

unfoldable pub given_by : (state : List ℕ) (cs : List Cut) → List ℕ
given_by state [] = []
given_by state (c ∷ cs) =
    let r = seal_piece state c.piece c.room in
    take r.written r.room ++ given_by r.state cs

-- The frame that a beginning, pieces and an end give.
abbrev pub cut_frame : (begun : Outcome) (cs : List Cut) (room : List ℕ) → List ℕ
cut_frame begun cs room =
    let e = seal_end (left_by begun.state cs) room in
    take begun.written begun.room ++ (given_by begun.state cs ++ take e.written e.room)

-- ---- a check

unfoldable pub joined_all : List (List ℕ) → List ℕ
joined_all [] = []
joined_all (c ∷ cs) = c ++ joined_all cs

unfoldable pub checked_by : (state : List ℕ) (cs : List (List ℕ)) → List ℕ
checked_by state [] = state
checked_by state (c ∷ cs) = checked_by (check_piece state c).state cs

-- A check begun, of a frame whose KID is held for receiving.
pub record CheckBegun (s metadata bytes : List ℕ) (announced : ℕ) (state : List ℕ) (r : ReceivingKey) (ctr n : ℕ) : Type 0 where
  pub held : Holds s r
  pub bytes-octets : Octets bytes
  pub header_is : read_header bytes ≡ header_of (record { 0 = r.kid }) (record { 0 = ctr }) n
  pub begins : (check_begin sframe s metadata bytes announced state).number ≡ done

-- SPDX-License-Identifier: MIT
-- The calls on a running state: number, length, state and room afterwards, for every input. The causes of refusal stand in
-- the order in which they are tried.
-- Assumes nothing.
use Rattle.std.specs.Prelude.{Option, Some, None, Bool, not, List, [], ◌∷◌, ℕ, zero, suc, ◌+◌, ltb, eqb, length}
use Rattle.octets.specs.Octets.{same, pasted}
use Rattle.header.specs.Answers.{room_short}
use Rattle.answers.specs.Answers.{frame_short, tag_differs, state_mismatch, Cause, ◌if◌, first}
use Rattle.suites.specs.declared.sizes.Suite.{Suite}
use Rattle.suites.specs.Suites.{Nt}
use Rattle.piece_line.specs.State.{sealing, checking, announced_in, taken_in, line_of}
use Rattle.piece_line.specs.Line.{after, cipher_piece, tag_in}

-- What a call on a running state answers, and what the lent bytes hold afterwards. A call that has no room is given the empty one.
pub record Result : Type 0 where
  pub number : ℕ
  pub written : ℕ
  pub state : List ℕ
  pub room : List ℕ

-- Nothing has changed.
abbrev pub refusal : (n : ℕ) (state room : List ℕ) → Result
refusal n state room = record { number = n; written = 0; state = state; room = room }

-- A call with the number n on that state and room: where n is 0 it has the result r, else nothing has changed.
unfoldable pub concluded : (n : ℕ) (state room : List ℕ) (r : Result) → Result
concluded zero state room r = r
concluded (suc n) state room r = refusal (suc n) state room

-- A piece of n bytes goes past what was announced; an end comes before all of it was taken.
abbrev pub past : (s : List ℕ) (n : ℕ) → Bool
past s n = ltb (announced_in s) (taken_in s + n)

abbrev pub early : List ℕ → Bool
early s = not (eqb (taken_in s) (announced_in s))

-- ---- sealing

-- Room for n bytes is wanted.
unfoldable pub wanting : (off : Bool) (n room : ℕ) → List Cause
wanting off n room = (state_mismatch if off) ∷ (room_short if ltb room n) ∷ []

abbrev pub seal_piece_in : (line : Option Suite) (s piece room : List ℕ) → Result
seal_piece_in None s piece room = refusal state_mismatch s room
seal_piece_in (Some suite) s piece room =
    let c = cipher_piece suite s piece in
    concluded (first (wanting (past s (length piece)) (length piece) (length room))) s room
    (record { number = 0; written = length piece; state = after suite s c; room = pasted room 0 c })

unfoldable pub seal_piece : (s piece room : List ℕ) → Result
seal_piece s piece room = seal_piece_in (line_of sealing s) s piece room

abbrev pub seal_end_in : (line : Option Suite) (s room : List ℕ) → Result
seal_end_in None s room = refusal state_mismatch s room
seal_end_in (Some suite) s room =
    concluded (first (wanting (early s) (Nt suite) (length room))) s room
    (record { number = 0; written = Nt suite; state = s; room = pasted room 0 (tag_in suite s) })

unfoldable pub seal_end : (s room : List ℕ) → Result
seal_end s room = seal_end_in (line_of sealing s) s room

-- ---- checking

abbrev pub check_piece_in : (line : Option Suite) (s piece : List ℕ) → Result
check_piece_in None s piece = refusal state_mismatch s []
check_piece_in (Some suite) s piece =
    concluded (first ((state_mismatch if past s (length piece)) ∷ [])) s []
    (record { number = 0; written = 0; state = after suite s piece; room = [] })

unfoldable pub check_piece : (s piece : List ℕ) → Result
check_piece s piece = check_piece_in (line_of checking s) s piece

-- The end of a check changes nothing: its answer is a number.
abbrev pub check_end_in : (line : Option Suite) (s tag : List ℕ) → ℕ
check_end_in None s tag = state_mismatch
check_end_in (Some suite) s tag =
    first
    ((state_mismatch if early s)
    ∷ (frame_short if not (eqb (length tag) (Nt suite)))
    ∷ (tag_differs if not (same tag (tag_in suite s)))
    ∷ [])

unfoldable pub check_end : (s tag : List ℕ) → ℕ
check_end s tag = check_end_in (line_of checking s) s tag

-- SPDX-License-Identifier: MIT
-- A call on a running state that is refused changes nothing. Assumes nothing.
use Rattle.suites.specs.declared.sizes.Suite.{Suite}
use Rattle.std.specs.Prelude.{Option, Some, None}
use mathlib.Core.Path.{◌≡◌, refl, sym, ◌∙◌, ap}
use mathlib.Core.List.{List, []}
use Prim.Native.Nat.{ℕ, zero, suc}
use lib.ListN.{length}
use Rattle.octets.specs.Octets.{pasted}
use Rattle.answers.specs.Answers.{state_mismatch, ◌if◌, first}
use Rattle.piece_line.specs.State.{sealing, checking, line_of}
use Rattle.pieces.specs.Calls.{Result, refusal, concluded, seal_piece_in, seal_piece, seal_end_in, seal_end, check_piece_in, check_piece}

concluded-refused : (n : ℕ) (s room : List ℕ) (r : Result) → r.number ≡ 0 → ((concluded n s room r).number ≡ 0 → ⊥) → concluded n s room r ≡ refusal (concluded n s room r).number s room
unfolding concluded
concluded-refused zero s room r z d = absurd (d z)
concluded-refused (suc n) s room r z d = refl

pub piece-refused : (s piece room : List ℕ) → ((seal_piece s piece room).number ≡ 0 → ⊥) → seal_piece s piece room ≡ refusal (seal_piece s piece room).number s room
unfolding seal_piece
piece-refused s piece room d = by (line_of sealing s) d
  where
    by : (f : Option Suite) → ((seal_piece_in f s piece room).number ≡ 0 → ⊥) → seal_piece_in f s piece room ≡ refusal (seal_piece_in f s piece room).number s room
    by None d = refl
    by (Some suite) d = concluded-refused _ s room _ refl d

pub end_refused : (s room : List ℕ) → ((seal_end s room).number ≡ 0 → ⊥) → seal_end s room ≡ refusal (seal_end s room).number s room
unfolding seal_end
end_refused s room d = by (line_of sealing s) d
  where
    by : (f : Option Suite) → ((seal_end_in f s room).number ≡ 0 → ⊥) → seal_end_in f s room ≡ refusal (seal_end_in f s room).number s room
    by None d = refl
    by (Some suite) d = concluded-refused _ s room _ refl d

pub check-refused : (s piece : List ℕ) → ((check_piece s piece).number ≡ 0 → ⊥) → check_piece s piece ≡ refusal (check_piece s piece).number s []
unfolding check_piece
check-refused s piece d = by (line_of checking s) d
  where
    by : (f : Option Suite) → ((check_piece_in f s piece).number ≡ 0 → ⊥) → check_piece_in f s piece ≡ refusal (check_piece_in f s piece).number s []
    by None d = refl
    by (Some suite) d = concluded-refused _ s [] _ refl d

-- SPDX-License-Identifier: MIT
-- The layer's answers: the number of each cause of refusal, and the rule that the first cause that applies is given.
-- Assumes nothing.
use Rattle.std.specs.Prelude.{Bool, List, [], ◌∷◌, ℕ, zero, suc}
use Rattle.octets.specs.Octets.{pick}

abbrev pub done : ℕ
done = 0

abbrev pub store_invalid : ℕ
store_invalid = 1

abbrev pub suite_unknown : ℕ
suite_unknown = 2

abbrev pub base_key_size : ℕ
base_key_size = 3

abbrev pub kid_held : ℕ
kid_held = 4

abbrev pub store_full : ℕ
store_full = 5

abbrev pub kid_missing : ℕ
kid_missing = 6

abbrev pub role_refused : ℕ
role_refused = 7

abbrev pub counter_spent : ℕ
counter_spent = 8

abbrev pub input_too_long : ℕ
input_too_long = 9

-- 10, header_invalid, is the header's.

abbrev pub frame_short : ℕ
frame_short = 11

-- 12, room_short, is the header's.

abbrev pub tag_differs : ℕ
tag_differs = 13

abbrev pub already_opened : ℕ
already_opened = 14

abbrev pub counter_too_old : ℕ
counter_too_old = 15

-- of a frame in pieces: its running state is not possible, or does not allow this call
abbrev pub state_mismatch : ℕ
state_mismatch = 16

abbrev pub sending_barred : ℕ
sending_barred = 17

abbrev pub ratchet_kid_invalid : ℕ
ratchet_kid_invalid = 20

abbrev pub steps_too_many : ℕ
steps_too_many = 21

-- of a group's KID: a part that its bits do not hold, and widths or a KID past 64 bits
abbrev pub group_part_too_large : ℕ
group_part_too_large = 22

abbrev pub group_kid_too_long : ℕ
group_kid_too_long = 23

-- of an object over MoQ: a pair not above the last sealed, and an object number past 32 bits
abbrev pub pair_not_above : ℕ
pair_not_above = 24

abbrev pub object_too_large : ℕ
object_too_large = 25

-- A cause of refusal: its number, and whether it applies.
pub record Cause : Type 0 where
  pub number : ℕ
  pub applies : Bool

infix 10 ◌if◌
abbrev pub ◌if◌ : ℕ → Bool → Cause
◌if◌ n b = record { number = n; applies = b }

-- The number of the first cause that applies; 0 where none does.
unfoldable pub first : List Cause → ℕ
first [] = 0
first (c ∷ cs) = pick c.applies c.number (first cs)

-- What a call answers, and what the lent bytes hold afterwards. A call that has no room, or no running state, is given the empty one.
pub record Outcome : Type 0 where
  pub number : ℕ
  pub written : ℕ
  pub store : List ℕ
  pub room : List ℕ
  pub state : List ℕ

-- A call with the number n on that store, room and running state: where n is 0 it has the outcome o, else nothing has changed.
abbrev pub settled_on : (n : ℕ) (store room state : List ℕ) (o : Outcome) → Outcome
settled_on zero store room state o = o
settled_on (suc n) store room state o = record { number = suc n; written = 0; store = store; room = room; state = state }

-- One without a running state.
unfoldable pub settled : (n : ℕ) (store room : List ℕ) (o : Outcome) → Outcome
settled n store room o = settled_on n store room [] o

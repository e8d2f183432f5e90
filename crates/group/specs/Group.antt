-- SPDX-License-Identifier: MIT
-- KIDs of the members of an MLS group: RFC 9605, section 5.2. Context ID, sender index and the low bits of the epoch, one above the
-- other in a number of 64 bits. S bits are the index's and E bits the epoch's.
-- Assumes nothing.
use Rattle.std.specs.Prelude.{Result, Ok, Err, ◌≡◌, List, [], ◌∷◌, ℕ, zero, suc, ◌+◌, ◌*◌, ◌/◌, ◌%◌, ◌^◌, leb, ltb}
use Rattle.header.specs.declared.Kid.{Kid}
use Rattle.group.specs.declared.Parts.{Parts}
use Rattle.answers.specs.declared.Refusal.{Refusal}
use Rattle.answers.specs.Answers.{group_part_too_large, group_kid_too_long, Cause, ◌if◌, first}

-- All bits of a KID.
abbrev pub kid_bits : ℕ
kid_bits = 64

-- KID = (context << (S + E)) + (index << E) + (epoch % (1 << E))
unfoldable pub group_kid : (S E context index epoch : ℕ) → ℕ
group_kid S E context index epoch = context * 2 ^ (S + E) + index * 2 ^ E + epoch % 2 ^ E

-- The three parts of a KID.
unfoldable pub context_in : (S E kid : ℕ) → ℕ
context_in S E kid = kid / 2 ^ (S + E)

unfoldable pub index_in : (S E kid : ℕ) → ℕ
index_in S E kid = kid / 2 ^ E % 2 ^ S

unfoldable pub epoch_in : (E kid : ℕ) → ℕ
epoch_in E kid = kid % 2 ^ E

-- ---- the calls: the causes of refusal in the order in which they are tried

unfoldable pub pack_causes : (S E context index epoch : ℕ) → List Cause
pack_causes S E context index epoch =
    (group_kid_too_long if ltb kid_bits (S + E))
    ∷ (group_part_too_large if leb (2 ^ S) index)
    ∷ (group_kid_too_long if leb (2 ^ kid_bits) (group_kid S E context index epoch))
    ∷ []

unfoldable pub unpack_causes : (S E : ℕ) → List Cause
unpack_causes S E = (group_kid_too_long if ltb kid_bits (S + E)) ∷ []

-- A number that is asked for: 0 where the call is refused.
abbrev pub given : (number value : ℕ) → ℕ
given zero value = value
given (suc n) value = 0

unfoldable pub pack_number : (S E context index epoch : ℕ) → ℕ
pack_number S E context index epoch = first (pack_causes S E context index epoch)

unfoldable pub packed : (S E context index epoch : ℕ) → ℕ
packed S E context index epoch = given (pack_number S E context index epoch) (group_kid S E context index epoch)

unfoldable pub unpack_number : (S E : ℕ) → ℕ
unpack_number S E = first (unpack_causes S E)

-- What the code hands over: 0 where it refuses.
abbrev pub kid_in : Result Kid Refusal → ℕ
kid_in (Ok kid) = kid.0
kid_in (Err r) = 0

abbrev pub context_of : Result Parts Refusal → ℕ
context_of (Ok p) = p.context
context_of (Err r) = 0

abbrev pub index_of : Result Parts Refusal → ℕ
index_of (Ok p) = p.index
index_of (Err r) = 0

abbrev pub epoch_of : Result Parts Refusal → ℕ
epoch_of (Ok p) = p.epoch
epoch_of (Err r) = 0

-- ---- what is promised of the two

-- Unpacking a number is answered with 0 and gives context, index and the low bits of the epoch.
pub record Unpacked (S E context index epoch kid : ℕ) : Type 0 where
  pub answers : unpack_number S E ≡ 0
  pub its-context : context_in S E kid ≡ context
  pub its-index : index_in S E kid ≡ index
  pub its-epoch : epoch_in E kid ≡ epoch % 2 ^ E

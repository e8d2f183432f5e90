-- SPDX-License-Identifier: MIT
-- The two calls of the ratchet: number, result and room afterwards, for every input. The causes of refusal stand in the order in
-- which they are tried. Assumes nothing.
use Rattle.suites.specs.declared.sizes.Suite.{Suite}
use Rattle.std.specs.Prelude.{Result, Ok, Err, Option, Some, None, Bool, true, false, not, List, [], ◌∷◌, ◌++◌, ℕ, zero, suc, ◌^◌, leb, ltb, length, drop}
use Rattle.header.specs.declared.Kid.{Kid}
use Rattle.answers.specs.declared.Refusal.{Refusal}
use Rattle.octets.specs.Octets.{both}
use Rattle.header.specs.Answers.{room_short}
use Rattle.answers.specs.Answers.{suite_unknown, base_key_size, ratchet_kid_invalid, steps_too_many, Cause, ◌if◌, first, Outcome, settled}
use Rattle.answers.specs.Limits.{base_key_least, base_key_most}
use Rattle.suites.specs.Suites.{suite_of}
use Rattle.ratchet.specs.Ratchet.{walked, ratchet_kid}

-- ---- the walk of a key

-- The most steps of one call.
abbrev pub max_steps : ℕ
max_steps = 64

abbrev pub is_known : Option Suite → Bool
is_known (Some s) = true
is_known None = false

-- The key after the steps; none where the suite is not known.
abbrev pub key_after : (suite : Option Suite) (base : List ℕ) (steps : ℕ) → List ℕ
key_after (Some s) base steps = walked s base steps
key_after None base steps = []

-- base, key and room are lengths: of the base key, of the key after the steps, of the room
unfoldable pub walk_causes : (known : Bool) (base steps key room : ℕ) → List Cause
walk_causes known base steps key room =
    (suite_unknown if not known)
    ∷ (base_key_size if not (both (leb base_key_least base) (leb base base_key_most)))
    ∷ (steps_too_many if ltb max_steps steps)
    ∷ (room_short if ltb room key)
    ∷ []

unfoldable pub walk_with : (suite : Option Suite) (base : List ℕ) (steps : ℕ) (room : List ℕ) → Outcome
walk_with suite base steps room =
    let key = key_after suite base steps in
    settled (first (walk_causes (is_known suite) (length base) steps (length key) (length room))) [] room (record { number = 0; written = length key; store = []; room = key ++ drop (length key) room; state = [] })

-- The key stands at the start of the room. There is no store: it is the empty one.
unfoldable pub walk : (suite : ℕ) (base : List ℕ) (steps : ℕ) (room : List ℕ) → Outcome
walk suite base steps room = walk_with (suite_of suite) base steps room

-- ---- the KID

-- R, the bits of the step in a KID, is 1 at least and this at most.
abbrev pub max_bits : ℕ
max_bits = 16

unfoldable pub kid_causes : (generation step bits : ℕ) → List Cause
kid_causes generation step bits =
    (ratchet_kid_invalid if not (both (leb 1 bits) (leb bits max_bits)))
    ∷ (ratchet_kid_invalid if leb (2 ^ 64) (ratchet_kid generation step bits))
    ∷ []

-- A number that is asked for: 0 where the call is refused.
abbrev pub given : (number value : ℕ) → ℕ
given zero value = value
given (suc n) value = 0

unfoldable pub kid_number : (generation step bits : ℕ) → ℕ
kid_number generation step bits = first (kid_causes generation step bits)

unfoldable pub kid_given : (generation step bits : ℕ) → ℕ
kid_given generation step bits = given (kid_number generation step bits) (ratchet_kid generation step bits)

-- The KID that a call answers with: 0 where it is refused.
abbrev pub kid_in : Result Kid Refusal → ℕ
kid_in (Ok kid) = kid.0
kid_in (Err r) = 0

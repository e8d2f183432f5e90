-- SPDX-License-Identifier: MIT
-- Adding a track: number, length, store and room afterwards, for every input. The causes of refusal stand in the order in which
-- they are tried.
-- Assumes nothing.
use Rattle.suites.specs.declared.sizes.Suite.{Suite}
use Rattle.std.specs.Prelude.{Option, Some, None, Bool, true, false, not, List, [], ◌∷◌, ℕ, leb, ltb, eqb, length}
use Rattle.octets.specs.Octets.{both}
use Rattle.answers.specs.Answers.{store_invalid, suite_unknown, sending_barred, base_key_size, input_too_long, kid_held, store_full, Cause, ◌if◌, first, Outcome, settled}
use Rattle.answers.specs.Limits.{base_key_least, base_key_most}
use Rattle.suites.specs.Suites.{suite_of, number_of}
use Rattle.suites.specs.declared.sizes.Suite.TheVariants.{Ctr32}
use Rattle.secure_objects.specs.Objects.{name_most}
use Rattle.track_record.specs.Record.{TrackId, TrackRecord, empty, is_empty, fresh}
use Rattle.track_record.specs.declared.Role.{Role}
use Rattle.track_record.specs.declared.Role.TheVariants.{Sending, Receiving}
use Rattle.tracks.specs.Calls.{stored}
use Rattle.tracks.specs.Tracks.{encode_all, records, sound}
use Rattle.tracks.specs.Table.{get, fill, full}

abbrev pub is_known : Option Suite → Bool
is_known (Some s) = true
is_known None = false

-- The suite with tags of 4 bytes, which RFC 9605 warns of (7.5): a new track of it is for receiving alone.
abbrev pub receive_only : ℕ
receive_only = number_of Ctr32

unfoldable pub barred : (role : Role) (suite : ℕ) → Bool
barred Sending suite = eqb suite receive_only
barred Receiving suite = false

-- base and name are lengths, held is the record that holds the track
unfoldable pub add_causes : (valid : Bool) (role : Role) (suite base name : ℕ) (held : TrackRecord) (rs : List TrackRecord) → List Cause
add_causes valid role suite base name held rs =
    (store_invalid if not valid)
    ∷ (suite_unknown if not (is_known (suite_of suite)))
    ∷ (sending_barred if barred role suite)
    ∷ (base_key_size if not (both (leb base_key_least base) (leb base base_key_most)))
    ∷ (input_too_long if ltb name_most name)
    ∷ (kid_held if not (is_empty held))
    ∷ (store_full if full rs)
    ∷ []

-- The record of a track just added; there is none with a number that is no suite's.
unfoldable pub added : (role : Role) (suite : Option Suite) (id : TrackId) (base : List ℕ) → TrackRecord
added role (Some s) id base = fresh role s id base
added role None id base = empty

unfoldable pub add_at : (valid : Bool) (rs : List TrackRecord) (s : List ℕ) (role : Role) (id : TrackId) (suite : ℕ) (base : List ℕ) → Outcome
add_at valid rs s role id suite base =
    settled (first (add_causes valid role suite (length base) (length id.name) (get id rs) rs)) s [] (stored (encode_all (fill (added role (suite_of suite) id base) rs)))

-- The lowest-numbered empty record holds the track.
unfoldable pub add : (s : List ℕ) (role : Role) (id : TrackId) (suite : ℕ) (base : List ℕ) → Outcome
add s role id suite base = add_at (sound s) (records s) s role id suite base

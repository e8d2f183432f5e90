-- SPDX-License-Identifier: MIT
-- Sealing an object: number, length, store and room afterwards, for every input. The causes of refusal stand in the order in
-- which they are tried.
-- Assumes nothing.
use Rattle.std.specs.Prelude.{Bool, not, List, [], ◌∷◌, ◌++◌, ℕ, ◌+◌, leb, ltb, length, drop}
use Rattle.header.specs.Answers.{room_short}
use Rattle.answers.specs.Answers.{store_invalid, kid_missing, role_refused, object_too_large, pair_not_above, input_too_long, Cause, ◌if◌, first, Outcome, settled}
use Rattle.answers.specs.Limits.{too_long}
use Rattle.secure_objects.specs.Objects.{object_ceiling, counter, secured}
use Rattle.track_record.specs.Record.{TrackId, TrackRecord, empty, track, is_empty, is_sending, tag_of, floor_of, advanced}
use Rattle.tracks.specs.Tracks.{encode_all, records, sound}
use Rattle.tracks.specs.Table.{get, put}

-- held is the record that holds the track; properties, plaintext and room are lengths
unfoldable pub seal_causes : (valid : Bool) (held : TrackRecord) (group object properties plaintext room : ℕ) → List Cause
seal_causes valid held group object properties plaintext room =
    (store_invalid if not valid)
    ∷ (kid_missing if is_empty held)
    ∷ (role_refused if not (is_sending held))
    ∷ (object_too_large if leb object_ceiling object)
    ∷ (pair_not_above if ltb (counter group object) (floor_of held))
    ∷ (input_too_long if too_long plaintext properties)
    ∷ (room_short if ltb room (plaintext + tag_of held))
    ∷ []

-- The object of a plaintext under a record.
unfoldable pub object_under : (held : TrackRecord) (id : TrackId) (group object : ℕ) (properties plaintext : List ℕ) → List ℕ
object_under empty id group object properties plaintext = []
object_under (track t) id group object properties plaintext =
    secured t.suite t.key t.salt id.name id.key_id group object properties plaintext

-- The object stands at the start of the room, and its pair is the last one sealed.
unfoldable pub seal_at : (valid : Bool) (held : TrackRecord) (rs : List TrackRecord) (s : List ℕ) (id : TrackId) (group object : ℕ) (properties plaintext room : List ℕ) → Outcome
seal_at valid held rs s id group object properties plaintext room =
    let f = object_under held id group object properties plaintext in
    settled (first (seal_causes valid held group object (length properties) (length plaintext) (length room))) s room
    (record { number = 0; written = length f; store = encode_all (put id (advanced (counter group object) held) rs); room = f ++ drop (length f) room; state = [] })

unfoldable pub seal : (s : List ℕ) (id : TrackId) (group object : ℕ) (properties plaintext room : List ℕ) → Outcome
seal s id group object properties plaintext room = seal_at (sound s) (get id (records s)) (records s) s id group object properties plaintext room

-- SPDX-License-Identifier: MIT
-- Opening an object: number, length, store and room afterwards, for every input. The causes of refusal stand in the order in
-- which they are tried.
-- Assumes nothing.
use Rattle.std.specs.Prelude.{Bool, true, false, not, List, [], ◌∷◌, ◌++◌, ℕ, ◌-◌, leb, ltb, length, drop}
use Rattle.header.specs.Answers.{room_short}
use Rattle.answers.specs.Answers.{store_invalid, kid_missing, role_refused, object_too_large, frame_short, input_too_long, tag_differs, Cause, ◌if◌, first, Outcome, settled}
use Rattle.answers.specs.Limits.{too_long}
use Rattle.aead.specs.Aead.{Decrypted, plain, differs}
use Rattle.secure_objects.specs.Objects.{object_ceiling, unsecured}
use Rattle.track_record.specs.Record.{TrackId, TrackRecord, empty, track, is_empty, is_receiving, tag_of}
use Rattle.tracks.specs.Tracks.{records, sound}
use Rattle.tracks.specs.Table.{get}

abbrev pub plain_of : Decrypted → List ℕ
plain_of (plain p) = p
plain_of differs = []

abbrev pub is_differs : Decrypted → Bool
is_differs (plain p) = false
is_differs differs = true

-- held is the record that holds the track, given what the bytes decrypt to; properties, sealed and room are lengths. What stands
-- before the tag counts as plaintext.
unfoldable pub open_causes : (valid : Bool) (held : TrackRecord) (object properties sealed room : ℕ) (given : Decrypted) → List Cause
open_causes valid held object properties sealed room given =
    (store_invalid if not valid)
    ∷ (kid_missing if is_empty held)
    ∷ (role_refused if not (is_receiving held))
    ∷ (object_too_large if leb object_ceiling object)
    ∷ (frame_short if ltb sealed (tag_of held))
    ∷ (input_too_long if too_long (sealed - tag_of held) properties)
    ∷ (room_short if ltb room (sealed - tag_of held))
    ∷ (tag_differs if is_differs given)
    ∷ []

-- What the bytes decrypt to under a record.
unfoldable pub decrypted_under : (held : TrackRecord) (id : TrackId) (group object : ℕ) (properties sealed : List ℕ) → Decrypted
decrypted_under empty id group object properties sealed = differs
decrypted_under (track t) id group object properties sealed =
    unsecured t.suite t.key t.salt id.name id.key_id group object properties sealed

-- The plaintext stands at the start of the room; nothing changes in the store.
unfoldable pub open_at : (valid : Bool) (held : TrackRecord) (s : List ℕ) (id : TrackId) (group object : ℕ) (properties sealed room : List ℕ) → Outcome
open_at valid held s id group object properties sealed room =
    let given = decrypted_under held id group object properties sealed in
    let p = plain_of given in
    settled (first (open_causes valid held object (length properties) (length sealed) (length room) given)) s room
    (record { number = 0; written = length p; store = s; room = p ++ drop (length p) room; state = [] })

unfoldable pub opening : (s : List ℕ) (id : TrackId) (group object : ℕ) (properties sealed room : List ℕ) → Outcome
opening s id group object properties sealed room = open_at (sound s) (get id (records s)) s id group object properties sealed room

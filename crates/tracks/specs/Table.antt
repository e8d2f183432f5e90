-- SPDX-License-Identifier: MIT
-- The track store's records as a table by name and Key ID.
-- Assumes nothing.
use Rattle.std.specs.Prelude.{Bool, true, false, List, [], ◌∷◌}
use Rattle.octets.specs.Octets.{pick, both}
use Rattle.track_record.specs.Record.{TrackId, TrackRecord, empty, track, is_empty, holds}

-- The record that holds a track; the empty one where none does.
unfoldable pub get : TrackId → List TrackRecord → TrackRecord
get id [] = empty
get id (r ∷ rs) = pick (holds id r) r (get id rs)

-- The table with r for the first record that passes the test.
unfoldable pub replace : (test : TrackRecord → Bool) (r : TrackRecord) (rs : List TrackRecord) → List TrackRecord
replace test r [] = []
replace test r (x ∷ xs) = pick (test x) (r ∷ xs) (x ∷ replace test r xs)

-- with r for the record that holds the track
unfoldable pub put : (id : TrackId) (r : TrackRecord) (rs : List TrackRecord) → List TrackRecord
put id r rs = replace (holds id) r rs

-- with r in the lowest-numbered empty record
unfoldable pub fill : TrackRecord → List TrackRecord → List TrackRecord
fill r rs = replace is_empty r rs

-- No record is empty.
unfoldable pub full : List TrackRecord → Bool
full [] = true
full (r ∷ rs) = pick (is_empty r) false (full rs)

-- No record of rs shares name and Key ID of r.
unfoldable pub alone : TrackRecord → List TrackRecord → Bool
alone empty rs = true
alone (track t) rs = is_empty (get t.id rs)

-- No two non-empty records share name and Key ID.
unfoldable pub apart : List TrackRecord → Bool
apart [] = true
apart (r ∷ rs) = both (alone r rs) (apart rs)

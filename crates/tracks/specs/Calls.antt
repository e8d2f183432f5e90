-- SPDX-License-Identifier: MIT
-- Making a track store, removing a track: number, length, store and room afterwards, for every input.
-- The causes of refusal stand in the order in which they are tried.
-- Assumes nothing.
use Rattle.std.specs.Prelude.{Bool, not, List, [], ◌∷◌, ℕ, length, replicate}
use Rattle.answers.specs.Answers.{store_invalid, kid_missing, role_refused, Cause, ◌if◌, first, Outcome, settled}
use Rattle.track_record.specs.Record.{TrackId, TrackRecord, is_empty, is_retired, retired}
use Rattle.tracks.specs.Tracks.{length_right, encode_all, records, sound}
use Rattle.tracks.specs.Table.{get, put}

-- The outcome of a call that succeeds and has no room.
abbrev pub stored : List ℕ → Outcome
stored s = record { number = 0; written = 0; store = s; room = []; state = [] }

-- ---- Make

-- Zeros throughout.
unfoldable pub make : List ℕ → Outcome
make s = settled (first ((store_invalid if not (length_right (length s))) ∷ [])) s [] (stored (replicate (length s) 0))

-- ---- Remove

unfoldable pub remove_causes : (valid : Bool) (held : TrackRecord) → List Cause
remove_causes valid held = (store_invalid if not valid) ∷ (kid_missing if is_empty held) ∷ (role_refused if is_retired held) ∷ []

unfoldable pub remove_at : (valid : Bool) (held : TrackRecord) (rs : List TrackRecord) (s : List ℕ) (id : TrackId) → Outcome
remove_at valid held rs s id = settled (first (remove_causes valid held)) s [] (stored (encode_all (put id (retired held) rs)))

-- The track's record is retired, be it for sending or for receiving.
unfoldable pub remove : (s : List ℕ) (id : TrackId) → Outcome
remove s id = remove_at (sound s) (get id (records s)) (records s) s id

-- SPDX-License-Identifier: MIT
-- Cited by inner contracts alone: a track store's records by number, and their bytes.
-- Assumes nothing.
use Rattle.std.specs.Prelude.{Option, Some, None, ◌≡◌, Bool, true, false, List, ℕ, ◌*◌, ◌/◌, ◌%◌, ◌<◌, length, get_or, take, drop}
use Rattle.track_record.specs.Layout.{record_size, decode}
use Rattle.track_record.specs.Record.{TrackId, TrackRecord, empty, is_empty, holds}
use Rattle.track_record.specs.Inner.Rows.{Row}
use Rattle.tracks.specs.Table.{get, full}
use Rattle.tracks.specs.Tracks.{all_obey, records, sound}

-- Whole records.
abbrev pub Whole : List ℕ → Type 0
Whole s = length s % record_size ≡ 0

-- The bytes where record i of a store stands.
abbrev pub part_at : (s : List ℕ) (i : ℕ) → List ℕ
part_at s i = take record_size (drop (i * record_size) s)

-- Each of a store's records obeys the layout.
abbrev pub rows_obey : List ℕ → Bool
rows_obey s = all_obey (length s / record_size) s

-- A sound store has a record of that number.
abbrev pub Within : List ℕ → ℕ → Type 0
Within s i = (sound s ≡ true) × (i < length (records s))

-- What is found of a track: the number of the record that holds it, or that none does.
abbrev pub FoundIn : (place : Option ℕ) (id : TrackId) (rs : List TrackRecord) → Type 0
FoundIn (Some i) id rs = (i < length rs) × (get id rs ≡ get_or rs i empty) × (holds id (get_or rs i empty) ≡ true)
FoundIn None id rs = get id rs ≡ empty

-- What is found of room for one more: the number of the lowest-numbered empty record, or that there is none.
abbrev pub FreeIn : Option ℕ → List TrackRecord → Type 0
FreeIn (Some i) rs = (i < length rs) × (is_empty (get_or rs i empty) ≡ true) × ((j : ℕ) → j < i → is_empty (get_or rs j empty) ≡ false)
FreeIn None rs = full rs ≡ true

-- The bytes of record i of a store.
abbrev pub RowOf : (s : List ℕ) (i : ℕ) (l : List ℕ) → Type 0
RowOf s i l = Row l × (decode l ≡ get_or (records s) i empty)

-- SPDX-License-Identifier: MIT
-- The track store: its records, and when it is sound.
-- Assumes nothing.
use Rattle.std.specs.Prelude.{Bool, true, List, [], ◌∷◌, ◌++◌, ℕ, zero, suc, ◌*◌, ◌/◌, ◌%◌, leb, eqb, length, take, drop}
use Rattle.octets.specs.Octets.{both}
use Rattle.track_record.specs.Layout.{record_size, encode, decode, obeys}
use Rattle.track_record.specs.Record.{TrackRecord}
use Rattle.tracks.specs.Table.{apart}

-- A track store has 1 to this many records.
abbrev pub max_records : ℕ
max_records = 16

-- Its length: one record to the most, in whole records.
unfoldable pub length_right : ℕ → Bool
length_right n = both (leb record_size n) (both (leb n (max_records * record_size)) (eqb (n % record_size) 0))

-- A track store in bytes.
unfoldable pub encode_all : List TrackRecord → List ℕ
encode_all [] = []
encode_all (r ∷ rs) = encode r ++ encode_all rs

-- The first n records.
unfoldable pub decode_all : ℕ → List ℕ → List TrackRecord
decode_all zero s = []
decode_all (suc n) s = decode (take record_size s) ∷ decode_all n (drop record_size s)

-- Each of the first n records obeys the layout.
unfoldable pub all_obey : ℕ → List ℕ → Bool
all_obey zero s = true
all_obey (suc n) s = both (obeys (take record_size s)) (all_obey n (drop record_size s))

unfoldable pub records : List ℕ → List TrackRecord
records s = decode_all (length s / record_size) s

-- Sound: the length is right, every record obeys the layout, no two non-empty records share name and Key ID.
unfoldable pub sound : List ℕ → Bool
sound s = both (length_right (length s)) (both (all_obey (length s / record_size) s) (apart (records s)))

-- SPDX-License-Identifier: MIT
-- The store's records as a table by Key ID.
-- Assumes nothing.
use Rattle.std.specs.Prelude.{Bool, true, false, List, [], ◌∷◌, ◌++◌, ℕ, suc, length, take}
use Rattle.octets.specs.Octets.{pick, both}
use Rattle.key_record.specs.Record.{KeyRecord, empty, sending, receiving, retired, is_empty, holds, in_order}

-- The record that holds a KID; the empty one where none does.
unfoldable pub get : ℕ → List KeyRecord → KeyRecord
get kid [] = empty
get kid (r ∷ rs) = pick (holds kid r) r (get kid rs)

-- The table with r for the record that holds the KID.
unfoldable pub put : (kid : ℕ) (r : KeyRecord) (rs : List KeyRecord) → List KeyRecord
put kid r [] = []
put kid r (x ∷ xs) = pick (holds kid x) (r ∷ xs) (x ∷ put kid r xs)

-- The table with r at its place. The records behind it move up by one, and the last, an empty one, falls off.
unfoldable pub insert : (r : KeyRecord) (rs : List KeyRecord) → List KeyRecord
insert r [] = []
insert r (x ∷ xs) = pick (in_order r x) (r ∷ take (length xs) (x ∷ xs)) (x ∷ insert r xs)

-- The table without the record that holds the KID. The records behind it move down by one, and an empty one ends the table.
unfoldable pub without : (kid : ℕ) (rs : List KeyRecord) → List KeyRecord
without kid [] = []
without kid (x ∷ xs) = pick (holds kid x) (xs ++ (empty ∷ [])) (x ∷ without kid xs)

-- No record is empty.
unfoldable pub full : List KeyRecord → Bool
full [] = true
full (r ∷ rs) = pick (is_empty r) false (full rs)

-- The records r and rs are in order, each with the next.
unfoldable pub ordered_from : (r : KeyRecord) (rs : List KeyRecord) → Bool
ordered_from r [] = true
ordered_from r (x ∷ xs) = both (in_order r x) (ordered_from x xs)

-- KIDs rise, and the empty records are last.
unfoldable pub ordered : List KeyRecord → Bool
ordered [] = true
ordered (x ∷ xs) = ordered_from x xs

-- No record of rs shares the KID of r.
unfoldable pub alone : KeyRecord → List KeyRecord → Bool
alone empty rs = true
alone (sending r) rs = is_empty (get r.kid rs)
alone (receiving r w) rs = is_empty (get r.kid rs)
alone (retired r) rs = is_empty (get r.kid rs)

-- No two non-empty records share a KID.
unfoldable pub apart : List KeyRecord → Bool
apart [] = true
apart (r ∷ rs) = both (alone r rs) (apart rs)

-- The place of the record that holds a KID: how many stand before it.
unfoldable pub place_of : ℕ → List KeyRecord → ℕ
place_of kid [] = 0
place_of kid (x ∷ xs) = pick (holds kid x) 0 (suc (place_of kid xs))

-- SPDX-License-Identifier: MIT
-- Cited by inner contracts alone: a store's records by number, and their bytes.
-- Assumes nothing.
use Rattle.std.specs.Prelude.{Option, Some, None, ◌≡◌, Bool, true, false, List, [], ◌∷◌, ◌++◌, ℕ, zero, suc, ◌/◌, ◌%◌, ◌<◌, eqb, length, get_or, take, drop}
use Rattle.key_record.specs.Layout.{record_size, decode, obeys}
use Rattle.octets.specs.Octets.{pick, both}
use Rattle.key_record.specs.Record.{KeyRecord, empty, holds, in_order}
use Rattle.key_record.specs.Inner.Rows.{Row, precedes}
use Rattle.store.specs.Store.{records, sound}
use Rattle.store.specs.Table.{get, full}

-- Whole records.
abbrev pub Whole : List ℕ → Type 0
Whole s = length s % record_size ≡ 0

-- A row obeys, and its record is in order behind that of the row before it, if there is one.
unfoldable pub row_sound : (before l : List ℕ) → Bool
row_sound before l = both (obeys l) (pick (eqb (length before) 0) true (in_order (decode before) (decode l)))

-- So do the first n rows of s, behind a row before them: one pass.
unfoldable pub rows_sound : (n : ℕ) (before s : List ℕ) → Bool
rows_sound zero before s = true
rows_sound (suc n) before s = both (row_sound before (take record_size s)) (rows_sound n (take record_size s) (drop record_size s))

-- The place of a KID in order: how many records with lower KIDs stand before it.
unfoldable pub rank : ℕ → List KeyRecord → ℕ
rank kid [] = 0
rank kid (x ∷ xs) = pick (precedes kid x) (suc (rank kid xs)) 0

-- A sound store has a record of that number.
abbrev pub Within : List ℕ → ℕ → Type 0
Within s i = (sound s ≡ true) × (i < length (records s))

-- What is found of a KID: the number of the record that holds it, or that none does.
abbrev pub FoundIn : (place : Option ℕ) (kid : ℕ) (rs : List KeyRecord) → Type 0
FoundIn (Some i) kid rs = (i < length rs) × (get kid rs ≡ get_or rs i empty) × (holds kid (get_or rs i empty) ≡ true)
FoundIn None kid rs = get kid rs ≡ empty

-- The bytes of record i of a store.
abbrev pub RowOf : (s : List ℕ) (i : ℕ) (l : List ℕ) → Type 0
RowOf s i l = Row l × (decode l ≡ get_or (records s) i empty)

-- Place i of a sound store is that of a KID that it does not hold, and there is room.
abbrev pub Insertable : (s : List ℕ) (i kid : ℕ) → Type 0
Insertable s i kid =
    (sound s ≡ true) × (i ≡ rank kid (records s)) × (holds kid (get_or (records s) i empty) ≡ false) × (full (records s) ≡ false)

-- Records without record i, and an empty one behind them.
unfoldable pub closed : ℕ → List KeyRecord → List KeyRecord
closed i rs = take i rs ++ (drop (suc i) rs ++ (empty ∷ []))

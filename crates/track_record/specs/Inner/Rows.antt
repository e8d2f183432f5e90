-- SPDX-License-Identifier: MIT
-- Cited by inner contracts alone: what the functions over one record's bytes answer and write. Assumes nothing.
use Rattle.std.specs.Prelude.{Option, Some, None, ◌≡◌, true, List, [], ℕ, eqb, length, get_or, drop, set, replicate}
use Rattle.octets.specs.Octets.{number, bytes, pasted, pick}
use Rattle.suites.specs.Suites.{number_of, Nn}
use Rattle.suites.specs.declared.sizes.Suite.{Suite}
use Rattle.track_record.specs.Layout.{record_size, flag_at, pair_at, pair_size, mark_of, row, obeys}
use Rattle.track_record.specs.Record.{TrackId, track_id, TrackRecord, empty, track}
use Rattle.track_record.specs.declared.Kind.{Kind}

-- The bytes of one record, which obey the layout.
abbrev pub Row : List ℕ → Type 0
Row l = (length l ≡ record_size) × (obeys l ≡ true)

-- The name and the Key ID; no bytes and 0 where there are none.
abbrev pub id_of : TrackRecord → TrackId
id_of empty = track_id [] 0
id_of (track t) = t.id

-- What a track is for, and its suite.
abbrev pub Held : Type 0
Held = Kind × Suite

-- Those of a record; none where it is empty.
abbrev pub held_of : TrackRecord → Option Held
held_of empty = None
held_of (track t) = Some (t.kind, t.suite)

-- The suite of a record that has one.
abbrev pub suite_in : TrackRecord → Option Suite
suite_in empty = None
suite_in (track t) = Some t.suite

-- A record that nothing has been sealed under, with salt and key still zeros.
abbrev pub start_row : (kind : Kind) (s : Suite) (key_id : ℕ) (name : List ℕ) → List ℕ
start_row kind s key_id name = row (mark_of kind) (number_of s) 0 key_id name (replicate Nn 0) []

-- A record's bytes with a pair written to them.
abbrev pub with_pair : (counter : ℕ) (l : List ℕ) → List ℕ
with_pair counter l = set (pasted l pair_at (bytes pair_size counter)) flag_at 1

-- A record's bytes with the last pair of another, where that has one.
unfoldable pub with_last : (l out : List ℕ) → List ℕ
with_last l out = pick (eqb (get_or l flag_at 0) 0) out (with_pair (number pair_size (drop pair_at l)) out)

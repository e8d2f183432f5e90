-- SPDX-License-Identifier: MIT
-- The layout of docs/TRACKS.md: a record's form in bytes, and when bytes obey it. Only this file knows where a field stands.
-- Assumes nothing.
use Rattle.std.specs.Prelude.{Option, Some, None, Bool, true, List, [], ◌∷◌, ◌++◌, ℕ, ◌+◌, ◌-◌, leb, eqb, length, get_or, take, drop, replicate}
use Rattle.octets.specs.Octets.{number, bytes, same, pick, both}
use Rattle.suites.specs.Suites.{suite_of, number_of, Nk, Nn}
use Rattle.suites.specs.declared.sizes.Suite.{Suite}
use Rattle.secure_objects.specs.Objects.{name_most}
use Rattle.track_record.specs.Record.{Track, TrackRecord, empty, track}
use Rattle.track_record.specs.declared.Kind.{Kind}
use Rattle.track_record.specs.declared.Kind.TheVariants.{Sender, Receiver, Retired}

-- ---- sizes and places

abbrev pub record_size : ℕ
record_size = 344

abbrev pub mark_at : ℕ
mark_at = 0

abbrev pub suite_at : ℕ
suite_at = 1

-- whether a pair has been sealed
abbrev pub flag_at : ℕ
flag_at = 2

abbrev pub key_id_at : ℕ
key_id_at = 4

-- the last pair as its counter: group in 8 bytes, object in 4
abbrev pub pair_at : ℕ
pair_at = 12

abbrev pub pair_size : ℕ
pair_size = 12

abbrev pub length_at : ℕ
length_at = 24

abbrev pub salt_at : ℕ
salt_at = 28

abbrev pub key_at : ℕ
key_at = 40

-- what a record has for a key, which is the longest Nk
abbrev pub key_room : ℕ
key_room = 48

abbrev pub name_at : ℕ
name_at = 88

-- ---- the form in bytes

abbrev pub mark_of : Kind → ℕ
mark_of Sender = 1
mark_of Receiver = 2
mark_of Retired = 3

abbrev pub kind_of : ℕ → Kind
kind_of mark = pick (eqb mark 1) Sender (pick (eqb mark 2) Receiver Retired)

abbrev pub is_mark : ℕ → Bool
is_mark mark = both (leb 1 mark) (leb mark 3)

-- Whether a pair has been sealed, by the floor.
abbrev pub flag : ℕ → ℕ
flag floor = pick (eqb floor 0) 0 1

-- l, and zeros up to n bytes.
abbrev pub padded : ℕ → List ℕ → List ℕ
padded n l = l ++ replicate (n - length l) 0

-- Mark, suite, flag, a zero; Key ID; the counter of the last pair, which is one below the floor, or zero; the name's length; two
-- zeros; salt; key and name, each with zeros behind it.
unfoldable pub row : (mark suite floor key_id : ℕ) (name salt key : List ℕ) → List ℕ
row mark suite floor key_id name salt key =
    (mark ∷ suite ∷ flag floor ∷ 0 ∷ [])
    ++ (bytes 8 key_id ++ (bytes pair_size (floor - 1) ++ (bytes 2 (length name) ++ ((0 ∷ 0 ∷ []) ++ (salt ++ (padded key_room key ++ padded name_most name))))))

unfoldable pub encode : TrackRecord → List ℕ
encode empty = replicate record_size 0
encode (track t) = row (mark_of t.kind) (number_of t.suite) t.floor t.id.key_id t.id.name t.salt t.key

-- The floor that a record's bytes give.
unfoldable pub floor_in : List ℕ → ℕ
floor_in l = pick (eqb (get_or l flag_at 0) 0) 0 (number pair_size (drop pair_at l) + 1)

-- A record's bytes as a record of a suite.
unfoldable pub decode_as : Suite → List ℕ → Track
decode_as s l = record {
  kind = kind_of (get_or l mark_at 0);
  suite = s;
  id = record { name = take (number 2 (drop length_at l)) (drop name_at l); key_id = number 8 (drop key_id_at l) };
  floor = floor_in l;
  salt = take Nn (drop salt_at l);
  key = take (Nk s) (drop key_at l);
}

-- A record's bytes as a record: mark, suite and the name's length have to be ones that there are, else they count as empty.
unfoldable pub decode_in : Option Suite → List ℕ → TrackRecord
decode_in (Some s) l = track (decode_as s l)
decode_in None l = empty

unfoldable pub decode : List ℕ → TrackRecord
decode l = pick (both (is_mark (get_or l mark_at 0)) (leb (number 2 (drop length_at l)) name_most)) (decode_in (suite_of (get_or l suite_at 0)) l) empty

-- Under a receiving record nothing is sealed; salt and key of a retired one are zeros.
abbrev pub fits_kind : Kind → Track → Bool
fits_kind Sender t = true
fits_kind Receiver t = eqb t.floor 0
fits_kind Retired t = both (same (replicate Nn 0) t.salt) (same (replicate (Nk t.suite) 0) t.key)

unfoldable pub fits : TrackRecord → Bool
fits empty = true
fits (track t) = fits_kind t.kind t

-- A record's bytes obey the layout: they are those of the record that they are read as, and it fits its kind.
unfoldable pub obeys : List ℕ → Bool
obeys l = both (same (encode (decode l)) l) (fits (decode l))

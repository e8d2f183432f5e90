-- SPDX-License-Identifier: MIT
-- The layout: a record's form in bytes, and when bytes obey it. Only this file knows where a field stands.
-- Assumes nothing.
use Rattle.std.specs.Prelude.{◌≡◌, Bool, true, List, [], ◌∷◌, ◌++◌, ℕ, ◌+◌, ◌-◌, leb, eqb, length, get_or, take, drop, replicate}
use Rattle.octets.specs.Octets.{number, bytes, same, pick, both}
use Rattle.window.specs.Window.{fresh, fits as in_order}
use Rattle.window.specs.declared.Window.{Window}
use Rattle.key_record.specs.Record.{ceiling, KeyRecord, empty, sending, receiving, retired, counter_of}
use Rattle.key_record.specs.Suites.{is_suite, key_size, salt_size}

-- ---- sizes

abbrev pub record_size : ℕ
record_size = 96

-- where its fields stand: the mark, the suite, whether the counters are spent, the version of this layout, the KID, the next
-- counter, the salt, the key, and the replay window's highest counter and mask
abbrev pub mark_at : ℕ
mark_at = 0

abbrev pub suite_at : ℕ
suite_at = 1

abbrev pub spent_at : ℕ
spent_at = 2

abbrev pub version_at : ℕ
version_at = 3

abbrev pub kid_at : ℕ
kid_at = 4

abbrev pub counter_at : ℕ
counter_at = 12

abbrev pub salt_at : ℕ
salt_at = 20

abbrev pub key_at : ℕ
key_at = 32

abbrev pub highest_at : ℕ
highest_at = 80

abbrev pub mask_at : ℕ
mask_at = 88

-- what a record has for a key, which is the longest Nk
abbrev pub key_room : ℕ
key_room = 48

-- ---- the form in bytes

-- the mark
abbrev pub sending_mark : ℕ
sending_mark = 1

abbrev pub receiving_mark : ℕ
receiving_mark = 2

abbrev pub retired_mark : ℕ
retired_mark = 3

-- the version, in every record that is not empty; records of the layout before this one, which had no window, have a 0 there
abbrev pub layout_version : ℕ
layout_version = 1

-- A next counter has two fields: a byte that is 1 when the last counter has been used, else 0, and eight bytes, which then stay
-- at that last one.
unfoldable pub spent_byte : ℕ → ℕ
spent_byte counter = pick (eqb counter ceiling) 1 0

-- A window in bytes: its highest counter, its mask.
unfoldable pub window_bytes : Window → List ℕ
window_bytes w = bytes 8 w.highest ++ bytes 8 w.mask

-- What follows a key: zeros up to the window, then the window.
unfoldable pub ending : (key : List ℕ) (w : Window) → List ℕ
ending key w = replicate (key_room - length key) 0 ++ window_bytes w

-- Mark, suite, spent byte, version, KID, next counter, salt, key, zeros up to the window, window.
unfoldable pub row : (mark suite kid counter : ℕ) (salt key : List ℕ) (w : Window) → List ℕ
row mark suite kid counter salt key w =
    (mark ∷ suite ∷ spent_byte counter ∷ layout_version ∷ []) ++ (bytes 8 kid ++ (bytes 8 (counter - spent_byte counter) ++ (salt ++ (key ++ ending key w))))

unfoldable pub encode : KeyRecord → List ℕ
encode empty = replicate record_size 0
encode (sending r) = row sending_mark r.suite r.kid r.counter r.salt r.key fresh
encode (receiving r w) = row receiving_mark r.suite r.kid 0 r.salt r.key w
encode (retired r) = row retired_mark r.suite r.kid r.counter (replicate salt_size 0) [] fresh

-- The next counter that a record's bytes give.
unfoldable pub counter_in : List ℕ → ℕ
counter_in l = number 8 (drop counter_at l) + get_or l spent_at 0

-- The window that a record's bytes give.
unfoldable pub window_in : List ℕ → Window
window_in l = record { highest = number 8 (drop highest_at l); mask = number 8 (drop mask_at l) }

-- A record's bytes as a record; bytes with no mark that is known count as empty.
unfoldable pub decode : List ℕ → KeyRecord
decode l =
    let mark = get_or l mark_at 0 in
    let suite = get_or l suite_at 0 in
    let kid = number 8 (drop kid_at l) in
    let counter = counter_in l in
    let salt = take salt_size (drop salt_at l) in
    let key = take (key_size suite) (drop key_at l) in
    pick (eqb mark sending_mark) (sending (record { suite = suite; kid = kid; counter = counter; salt = salt; key = key }))
    (pick (eqb mark receiving_mark) (receiving (record { suite = suite; kid = kid; salt = salt; key = key }) (window_in l))
    (pick (eqb mark retired_mark) (retired (record { suite = suite; kid = kid; counter = counter })) empty))

-- A record's values are in range.
unfoldable pub fits : KeyRecord → Bool
fits empty = true
fits (sending r) = both (is_suite r.suite) (leb r.counter ceiling)
fits (receiving r w) = both (is_suite r.suite) (in_order w)
fits (retired r) = both (is_suite r.suite) (leb r.counter ceiling)

-- A record's bytes obey their row: they are those of the record they are read as, and its values are in range.
unfoldable pub obeys : List ℕ → Bool
obeys l = both (same (encode (decode l)) l) (fits (decode l))

-- What the spent byte says of bytes that obey their row: it is 1 just where no counter is left, and the counter's bytes are then
-- the last one; else it is 0, and they are the next counter.
pub record SpentByte (l : List ℕ) : Type 0 where
  pub none_left : eqb (counter_of (decode l)) ceiling ≡ eqb (get_or l spent_at 0) 1
  pub last_one : get_or l spent_at 0 ≡ 1 → number 8 (drop counter_at l) ≡ ceiling - 1
  pub next_one : (get_or l spent_at 0 ≡ 1 → ⊥) → (get_or l spent_at 0 ≡ 0) × (number 8 (drop counter_at l) ≡ counter_of (decode l))

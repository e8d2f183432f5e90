-- SPDX-License-Identifier: MIT
-- Cited by inner contracts alone: what the bytes of one record are tested for, step by step. That this amounts to obeying their row
-- is proved.
-- Assumes nothing.
use Rattle.std.specs.Prelude.{Bool, true, List, ◌∷◌, ◌++◌, ℕ, ◌+◌, ◌-◌, ◌%◌, leb, eqb, length, get_or, take, drop, replicate}
use Rattle.octets.specs.Octets.{number, same, pick, both}
use Rattle.window.specs.Window.{fresh, fits as in_order}
use Rattle.window.specs.declared.Window.{Window}
use Rattle.key_record.specs.Layout.{mark_at, suite_at, spent_at, version_at, counter_at, salt_at, mask_at, sending_mark, receiving_mark, retired_mark, layout_version, window_in, row}
use Rattle.key_record.specs.Record.{ceiling}
use Rattle.key_record.specs.Suites.{is_suite}

-- The mark of a non-empty record.
unfoldable pub holding_mark : ℕ → Bool
holding_mark mark = both (leb sending_mark mark) (leb mark retired_mark)

-- The last counter.
abbrev pub last_counter : ℕ
last_counter = ceiling - 1

-- The two fields of a next counter, by mark: zero where a record is for receiving; else the spent byte is 0, or it is 1 and the
-- other the last counter.
unfoldable pub counter_fits : (mark spent counter : ℕ) → Bool
counter_fits mark spent counter =
    pick (eqb mark receiving_mark) (both (eqb spent 0) (eqb counter 0)) (pick (eqb spent 0) true (both (eqb spent 1) (eqb counter last_counter)))

-- How many bytes are tested for zeros at a time.
abbrev pub block : ℕ
block = 16

-- The n bytes from a place on are zero.
unfoldable pub zero_in : (from n : ℕ) → List ℕ → Bool
zero_in from n l = same (replicate n 0) (take n (drop from l))

-- A record is for receiving, and the last byte of its mask is odd: the highest counter has its bit.
unfoldable pub has_opened : List ℕ → Bool
has_opened l = both (eqb (get_or l mark_at 0) receiving_mark) (eqb (get_or l (mask_at + 7) 0 % 2) 1)

-- A window, by mark: in order where a record is for receiving; else its two fields are zero.
unfoldable pub window_fits : (mark : ℕ) (w : Window) → Bool
window_fits mark w = pick (eqb mark receiving_mark) (in_order w) (both (eqb w.highest 0) (eqb w.mask 0))

-- The suite is one, the version is this layout's, the next counter's two fields fit, the window fits.
unfoldable pub fields_fit : List ℕ → Bool
fields_fit l =
    both (is_suite (get_or l suite_at 0))
    (both (eqb (get_or l version_at 0) layout_version)
    (both (counter_fits (get_or l mark_at 0) (get_or l spent_at 0) (number 8 (drop counter_at l))) (window_fits (get_or l mark_at 0) (window_in l))))

-- A new record's bytes: its counter is 0, and nothing was opened with it.
abbrev pub new_row : ℕ → ℕ → ℕ → List ℕ → List ℕ → List ℕ
new_row mark suite kid salt key = row mark suite kid 0 salt key fresh

-- A sending record's bytes once it is retired: mark, then what stood before the salt, then zeros.
unfoldable pub retired_row : List ℕ → List ℕ
retired_row l = (retired_mark ∷ drop 1 (take salt_at l)) ++ replicate (length l - salt_at) 0

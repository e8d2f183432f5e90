-- SPDX-License-Identifier: MIT
-- The replay window of a receiving key: which of the counters up to the highest that was opened were opened too.
-- Assumes nothing.
use Rattle.std.specs.Prelude.{Bool, true, false, ℕ, ◌+◌, ◌*◌, ◌-◌, ◌/◌, ◌%◌, ◌^◌, leb, ltb, eqb}
use Rattle.std.specs.Int.Count.{ones}
use Rattle.octets.specs.Octets.{pick, both}
use Rattle.window.specs.declared.Window.{Window}

-- how many counters a window reaches back over, the highest among them
abbrev pub span : ℕ
span = 64

-- Bit i of a mask; in a window it is for the counter i below the highest.
unfoldable pub bit : (mask i : ℕ) → ℕ
bit mask i = mask / 2 ^ i % 2

-- No counter was opened yet.
abbrev pub fresh : Window
fresh = record { highest = 0; mask = 0 }

-- A window in order: with no bit set none was opened yet, and the highest is 0; else the highest has its bit, and no bit is for
-- a counter below 0.
unfoldable pub fits : Window → Bool
fits w = pick (eqb w.mask 0) (eqb w.highest 0) (both (eqb (bit w.mask 0) 1) (ltb w.mask (2 ^ (w.highest + 1))))

-- The counter was opened: its bit is set.
unfoldable pub seen : (w : Window) (ctr : ℕ) → Bool
seen w ctr = both (leb ctr w.highest) (both (ltb (w.highest - ctr) span) (eqb (bit w.mask (w.highest - ctr)) 1))

-- The counter lies 64 or more below the highest, so that the window does not tell.
unfoldable pub too_old : (w : Window) (ctr : ℕ) → Bool
too_old w ctr = leb (ctr + span) w.highest

-- The window once a counter is opened that was neither.
unfoldable pub moved : (w : Window) (ctr : ℕ) → Window
moved w ctr =
    pick (ltb w.highest ctr)
    (record { highest = ctr; mask = w.mask * 2 ^ (ctr - w.highest) % 2 ^ span + 1 })
    (record { highest = w.highest; mask = w.mask + 2 ^ (w.highest - ctr) })

-- How many of the last 64 counters were opened.
abbrev pub opened : Window → ℕ
opened w = ones w.mask

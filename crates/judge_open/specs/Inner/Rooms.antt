-- SPDX-License-Identifier: MIT
-- Cited by inner contracts alone: what the room check of opening answers. Assumes nothing.
use Rattle.std.specs.Prelude.{Option, Some, None, ℕ, ltb}
use Rattle.octets.specs.Octets.{pick}

-- The n bytes that a room of that length takes, or none.
unfoldable pub room_for : ℕ → ℕ → Option ℕ
room_for room n = pick (ltb room n) None (Some n)

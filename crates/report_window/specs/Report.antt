-- SPDX-License-Identifier: MIT
-- Reporting how many of the last 64 counters were opened with a receiving key: number, count and store afterwards, for every
-- input. The causes of refusal stand in the order in which they are tried.
-- Assumes nothing.
use Rattle.std.specs.Prelude.{Bool, not, List, [], ◌∷◌, ℕ, eqb}
use Rattle.octets.specs.Octets.{pick}
use Rattle.answers.specs.Answers.{done, store_invalid, kid_missing, role_refused, Cause, ◌if◌, first, Outcome, settled}
use Rattle.window.specs.Window.{opened}
use Rattle.key_record.specs.Record.{KeyRecord, is_empty, is_receiving, window_of}
use Rattle.store.specs.Store.{records, sound, stored}
use Rattle.store.specs.Table.{get}

-- held is the record that holds the KID
unfoldable pub report_causes : (valid : Bool) (held : KeyRecord) → List Cause
report_causes valid held = (store_invalid if not valid) ∷ (kid_missing if is_empty held) ∷ (role_refused if not (is_receiving held)) ∷ []

-- Nothing changes in the store.
unfoldable pub report : (s : List ℕ) (kid : ℕ) → Outcome
report s kid = settled (first (report_causes (sound s) (get kid (records s)))) s [] (stored s)

-- The count that it hands over: the ones in the mask; 0 where it is refused.
unfoldable pub reported : (s : List ℕ) (kid : ℕ) → ℕ
reported s kid = pick (eqb (report s kid).number done) (opened (window_of (get kid (records s)))) 0

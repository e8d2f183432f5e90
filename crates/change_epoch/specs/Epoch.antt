-- SPDX-License-Identifier: MIT
-- A change of epoch in an MLS group: the receiving keys of an epoch go, by the low E bits of their KIDs (RFC 9605, section 5.2).
-- Number and store afterwards, for every input. The causes of refusal stand in the order in which they are tried.
-- Assumes nothing.
use Rattle.std.specs.Prelude.{Bool, not, List, [], ◌∷◌, ◌++◌, ℕ, ◌-◌, ◌^◌, leb, ltb, eqb, length, replicate}
use Rattle.octets.specs.Octets.{pick, both}
use Rattle.answers.specs.Answers.{store_invalid, group_part_too_large, group_kid_too_long, Cause, ◌if◌, first, Outcome, settled}
use Rattle.group.specs.Group.{kid_bits, epoch_in}
use Rattle.key_record.specs.Record.{KeyRecord, empty, is_receiving, kid_of}
use Rattle.store.specs.Store.{encode_all, records, sound, stored}

-- A receiving key of that epoch: its KID has the bits as its low E bits.
unfoldable pub of_epoch : (E bits : ℕ) → KeyRecord → Bool
of_epoch E bits r = both (is_receiving r) (eqb (epoch_in E (kid_of r)) bits)

-- The records that are none, in their order.
unfoldable pub others : (E bits : ℕ) → List KeyRecord → List KeyRecord
others E bits [] = []
others E bits (r ∷ rs) = pick (of_epoch E bits r) (others E bits rs) (r ∷ others E bits rs)

-- The table without the receiving keys of an epoch: the gaps close, and empty records end the table.
unfoldable pub without_epoch : (E bits : ℕ) → List KeyRecord → List KeyRecord
without_epoch E bits rs = others E bits rs ++ replicate (length rs - length (others E bits rs)) empty

unfoldable pub epoch_causes : (valid : Bool) (E bits : ℕ) → List Cause
epoch_causes valid E bits = (store_invalid if not valid) ∷ (group_kid_too_long if ltb kid_bits E) ∷ (group_part_too_large if leb (2 ^ E) bits) ∷ []

unfoldable pub epoch_at : (valid : Bool) (rs : List KeyRecord) (s : List ℕ) (E bits : ℕ) → Outcome
epoch_at valid rs s E bits = settled (first (epoch_causes valid E bits)) s [] (stored (encode_all (without_epoch E bits rs)))

-- 0 also where there are none.
unfoldable pub change_epoch : (s : List ℕ) (E bits : ℕ) → Outcome
change_epoch s E bits = epoch_at (sound s) (records s) s E bits

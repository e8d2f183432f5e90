-- SPDX-License-Identifier: MIT
-- Making a store, removing a key, finding a record: number, length, store and room afterwards, for every input.
-- The causes of refusal stand in the order in which they are tried.
-- Assumes nothing.
use Rattle.std.specs.Prelude.{Bool, not, List, [], ◌∷◌, ℕ, eqb, length, replicate}
use Rattle.octets.specs.Octets.{pick}
use Rattle.answers.specs.Answers.{done, store_invalid, kid_missing, role_refused, Cause, ◌if◌, first, Outcome, settled}
use Rattle.key_record.specs.Record.{KeyRecord, empty, sending, receiving, retired, is_empty, is_retired}
use Rattle.store.specs.Store.{length_right, encode_all, records, sound, stored}
use Rattle.store.specs.Table.{get, put, without, place_of}

-- ---- Make

-- Zeros throughout.
unfoldable pub make : List ℕ → Outcome
make s = settled (first ((store_invalid if not (length_right (length s))) ∷ [])) s [] (stored (replicate (length s) 0))

-- ---- Remove

unfoldable pub remove_causes : Bool → KeyRecord → List Cause
remove_causes valid held = (store_invalid if not valid) ∷ (kid_missing if is_empty held) ∷ (role_refused if is_retired held) ∷ []

-- The table without a key: a receiving one's record goes and the gap closes, a sending one's is retired for good where it stands.
unfoldable pub removed : (held : KeyRecord) (kid : ℕ) (rs : List KeyRecord) → List KeyRecord
removed empty kid rs = rs
removed (sending r) kid rs = put kid (retired (record { suite = r.suite; kid = r.kid; counter = r.counter })) rs
removed (receiving r w) kid rs = without kid rs
removed (retired r) kid rs = rs

unfoldable pub remove_at : (valid : Bool) (rs : List KeyRecord) (s : List ℕ) (kid : ℕ) → Outcome
remove_at valid rs s kid = settled (first (remove_causes valid (get kid rs))) s [] (stored (encode_all (removed (get kid rs) kid rs)))

unfoldable pub remove : (s : List ℕ) (kid : ℕ) → Outcome
remove s kid = remove_at (sound s) (records s) s kid

-- ---- Find

unfoldable pub find_causes : Bool → KeyRecord → List Cause
find_causes valid held = (store_invalid if not valid) ∷ (kid_missing if is_empty held) ∷ []

-- Nothing changes in the store.
unfoldable pub find : (s : List ℕ) (kid : ℕ) → Outcome
find s kid = settled (first (find_causes (sound s) (get kid (records s)))) s [] (stored s)

-- The place that it hands over; 0 where it is refused.
unfoldable pub found : (s : List ℕ) (kid : ℕ) → ℕ
found s kid = pick (eqb (find s kid).number done) (place_of kid (records s)) 0

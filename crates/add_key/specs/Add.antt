-- SPDX-License-Identifier: MIT
-- Adding a key: number, length, store and room afterwards, for every input. The causes of refusal stand in the order in which
-- they are tried.
-- Assumes nothing.
use Rattle.std.specs.Prelude.{Bool, false, not, List, [], ◌∷◌, ℕ, leb, eqb, length}
use Rattle.octets.specs.Octets.{both}
use Rattle.answers.specs.Answers.{store_invalid, suite_unknown, sending_barred, base_key_size, kid_held, store_full, Cause, ◌if◌, first, Outcome, settled}
use Rattle.answers.specs.Limits.{base_key_least, base_key_most}
use Rattle.suites.specs.Suites.{number_of}
use Rattle.suites.specs.declared.sizes.Suite.TheVariants.{Ctr32}
use Rattle.store.specs.Cipher.{Cipher}
use Rattle.key_record.specs.Record.{KeyRecord, sending, receiving, is_empty}
use Rattle.store.specs.Store.{encode_all, records, sound, stored}
use Rattle.key_record.specs.Suites.{is_suite}
use Rattle.window.specs.Window.{fresh}
use Rattle.store.specs.Table.{get, insert, full}
use Rattle.key_record.specs.declared.Role.{Role}
use Rattle.key_record.specs.declared.Role.TheVariants.{Sending, Receiving}

-- The suite with tags of 4 bytes, which RFC 9605 warns of (7.5): a new key of it is for receiving alone.
abbrev pub receive_only : ℕ
receive_only = number_of Ctr32

-- A key of that role and suite is not added. A sending record of that suite which a store already has is not touched by this.
unfoldable pub barred : (role : Role) (suite : ℕ) → Bool
barred Sending suite = eqb suite receive_only
barred Receiving suite = false

-- role and suite are what the key is to be added for, held is the record that holds the KID, base the length of the base key
unfoldable pub add_causes : (valid : Bool) (role : Role) (suite base : ℕ) (held : KeyRecord) (rs : List KeyRecord) → List Cause
add_causes valid role suite base held rs =
    (store_invalid if not valid)
    ∷ (suite_unknown if not (is_suite suite))
    ∷ (sending_barred if barred role suite)
    ∷ (base_key_size if not (both (leb base_key_least base) (leb base base_key_most)))
    ∷ (kid_held if not (is_empty held))
    ∷ (store_full if full rs)
    ∷ []

-- The record of a key just added: counter 0, or nothing opened yet, and the key and salt that RFC 9605 derives.
unfoldable pub added : (cipher : Cipher) (role : Role) (kid suite : ℕ) (base : List ℕ) → KeyRecord
added cipher Sending kid suite base =
    sending (record { suite = suite; kid = kid; counter = 0; salt = cipher.salt suite base kid; key = cipher.key suite base kid })
added cipher Receiving kid suite base = receiving (record { suite = suite; kid = kid; salt = cipher.salt suite base kid; key = cipher.key suite base kid }) fresh

unfoldable pub add_at : (cipher : Cipher) (valid : Bool) (rs : List KeyRecord) (s : List ℕ) (role : Role) (kid suite : ℕ) (base : List ℕ) → Outcome
add_at cipher valid rs s role kid suite base =
    settled (first (add_causes valid role suite (length base) (get kid rs) rs)) s [] (stored (encode_all (insert (added cipher role kid suite base) rs)))

-- The record of the key is inserted at its place.
unfoldable pub add : (cipher : Cipher) (s : List ℕ) (role : Role) (kid suite : ℕ) (base : List ℕ) → Outcome
add cipher s role kid suite base = add_at cipher (sound s) (records s) s role kid suite base

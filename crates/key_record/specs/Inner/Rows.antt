-- SPDX-License-Identifier: MIT
-- Cited by inner contracts alone: what the functions over one record's bytes answer and write, in decoded values.
-- Assumes nothing.
use Rattle.std.specs.Prelude.{Some, ◌≡◌, Bool, true, false, not, List, ℕ, eqb, ltb, length}
use Rattle.octets.specs.Octets.{both}
use Rattle.suites.specs.Suites as Suites
use Rattle.suites.specs.Derivation.{sframe_key, sframe_salt}
use Rattle.suites.specs.declared.sizes.Suite.{Suite}
use Rattle.window.specs.Window.{fresh as unopened}
use Rattle.key_record.specs.Layout.{record_size, sending_mark, receiving_mark, obeys}
use Rattle.key_record.specs.Record.{ceiling, KeyRecord, empty, sending, receiving, retired, is_empty, kid_of, counter_of}
use Rattle.key_record.specs.declared.Kind.{Kind}
use Rattle.key_record.specs.declared.Kind.TheVariants.{Empty, Sender, Receiver, Retired}
use Rattle.key_record.specs.declared.Role.{Role}
use Rattle.key_record.specs.declared.Role.TheVariants.{Sending, Receiving}

-- The bytes of one record, which obey their row.
abbrev pub Row : List ℕ → Type 0
Row l = (length l ≡ record_size) × (obeys l ≡ true)

-- The suite of a number.
abbrev pub Numbered : Suite → ℕ → Type 0
Numbered s n = Suites.suite_of n ≡ Some s

abbrev pub kind_of : KeyRecord → Kind
kind_of empty = Empty
kind_of (sending r) = Sender
kind_of (receiving r w) = Receiver
kind_of (retired r) = Retired

-- A record that has a salt and a key.
abbrev pub has_key : KeyRecord → Bool
has_key empty = false
has_key (sending r) = true
has_key (receiving r w) = true
has_key (retired r) = false

-- Whether a record is a non-empty one with a lower KID.
unfoldable pub precedes : ℕ → KeyRecord → Bool
precedes kid r = both (not (is_empty r)) (ltb (kid_of r) kid)

-- A counter is left.
abbrev pub counter_left : KeyRecord → Bool
counter_left r = not (eqb (counter_of r) ceiling)

-- The mark of a new record.
abbrev pub mark_for : Role → ℕ
mark_for Sending = sending_mark
mark_for Receiving = receiving_mark

-- The record of a new key: what a suite derives from the base key, counter 0; for receiving, nothing opened yet.
abbrev pub fresh : (role : Role) (suite : Suite) (kid : ℕ) (base : List ℕ) → KeyRecord
fresh Sending suite kid base =
    sending (record { suite = Suites.number_of suite; kid = kid; counter = 0; salt = sframe_salt suite base kid; key = sframe_key suite base kid })
fresh Receiving suite kid base =
    receiving (record { suite = Suites.number_of suite; kid = kid; salt = sframe_salt suite base kid; key = sframe_key suite base kid }) unopened

-- What is kept of a sending record that is retired.
abbrev pub kept : KeyRecord → KeyRecord
kept empty = empty
kept (sending r) = retired (record { suite = r.suite; kid = r.kid; counter = r.counter })
kept (receiving r w) = receiving r w
kept (retired r) = retired r

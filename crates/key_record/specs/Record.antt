-- SPDX-License-Identifier: MIT
-- The records of the key store as values, what each gives, and how it changes. Where its bytes stand is Layout.antt's.
-- Assumes nothing.
use Rattle.std.specs.Prelude.{Bool, true, false, not, List, [], ℕ, ◌+◌, ◌^◌, eqb, ltb}
use Rattle.octets.specs.Octets.{pick, both}
use Rattle.window.specs.Window.{fresh, moved}
use Rattle.window.specs.declared.Window.{Window}

-- No counter reaches this. It is the next counter of a key whose last one has been used.
abbrev pub ceiling : ℕ
ceiling = 2 ^ 64

-- ---- records

-- A key for sending, with the counter of the next frame.
pub record SendingKey : Type 0 where
  pub suite : ℕ
  pub kid : ℕ
  pub counter : ℕ
  pub salt : List ℕ
  pub key : List ℕ

-- A key for receiving; what was opened with it is told by the replay window beside it.
pub record ReceivingKey : Type 0 where
  pub suite : ℕ
  pub kid : ℕ
  pub salt : List ℕ
  pub key : List ℕ

-- What is kept of a key for sending that was removed.
pub record RetiredKey : Type 0 where
  pub suite : ℕ
  pub kid : ℕ
  pub counter : ℕ

pub data KeyRecord : Type 0 where
  empty : KeyRecord
  sending : SendingKey → KeyRecord
  receiving : ReceivingKey → Window → KeyRecord
  retired : RetiredKey → KeyRecord

-- ---- what a record gives

abbrev pub is_empty : KeyRecord → Bool
is_empty empty = true
is_empty (sending r) = false
is_empty (receiving r w) = false
is_empty (retired r) = false

abbrev pub is_sending : KeyRecord → Bool
is_sending empty = false
is_sending (sending r) = true
is_sending (receiving r w) = false
is_sending (retired r) = false

abbrev pub is_receiving : KeyRecord → Bool
is_receiving empty = false
is_receiving (sending r) = false
is_receiving (receiving r w) = true
is_receiving (retired r) = false

abbrev pub is_retired : KeyRecord → Bool
is_retired empty = false
is_retired (sending r) = false
is_retired (receiving r w) = false
is_retired (retired r) = true

-- The KID; 0 where there is none.
abbrev pub kid_of : KeyRecord → ℕ
kid_of empty = 0
kid_of (sending r) = r.kid
kid_of (receiving r w) = r.kid
kid_of (retired r) = r.kid

-- Whether a record is a non-empty one with that KID.
unfoldable pub holds : ℕ → KeyRecord → Bool
holds kid empty = false
holds kid (sending r) = eqb r.kid kid
holds kid (receiving r w) = eqb r.kid kid
holds kid (retired r) = eqb r.kid kid

-- Whether next may stand right behind r: it is empty, or both hold KIDs and these rise.
unfoldable pub in_order : (r next : KeyRecord) → Bool
in_order r next = pick (is_empty next) true (both (not (is_empty r)) (ltb (kid_of r) (kid_of next)))

abbrev pub suite_of : KeyRecord → ℕ
suite_of empty = 0
suite_of (sending r) = r.suite
suite_of (receiving r w) = r.suite
suite_of (retired r) = r.suite

abbrev pub salt_of : KeyRecord → List ℕ
salt_of empty = []
salt_of (sending r) = r.salt
salt_of (receiving r w) = r.salt
salt_of (retired r) = []

abbrev pub key_of : KeyRecord → List ℕ
key_of empty = []
key_of (sending r) = r.key
key_of (receiving r w) = r.key
key_of (retired r) = []

-- The next counter; 0 where there is none.
abbrev pub counter_of : KeyRecord → ℕ
counter_of empty = 0
counter_of (sending r) = r.counter
counter_of (receiving r w) = 0
counter_of (retired r) = r.counter

-- The replay window; where there is none, that of a key with which nothing was opened.
abbrev pub window_of : KeyRecord → Window
window_of empty = fresh
window_of (sending r) = fresh
window_of (receiving r w) = w
window_of (retired r) = fresh

-- The record once its next counter is taken.
unfoldable pub advanced : KeyRecord → KeyRecord
advanced empty = empty
advanced (sending r) = sending (record { suite = r.suite; kid = r.kid; counter = r.counter + 1; salt = r.salt; key = r.key })
advanced (receiving r w) = receiving r w
advanced (retired r) = retired r

-- The record once a frame with that counter is opened.
unfoldable pub noted : (ctr : ℕ) → KeyRecord → KeyRecord
noted ctr empty = empty
noted ctr (sending r) = sending r
noted ctr (receiving r w) = receiving r (moved w ctr)
noted ctr (retired r) = retired r

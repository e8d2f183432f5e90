-- SPDX-License-Identifier: MIT
-- The records of the track store as values, what each gives, and how it changes. Where its bytes stand is Layout.antt's.
-- Assumes nothing.
use Rattle.std.specs.Prelude.{Bool, true, false, List, [], ℕ, ◌+◌, eqb, replicate}
use Rattle.octets.specs.Octets.{same, both}
use Rattle.suites.specs.Suites.{Nk, Nn, Nt}
use Rattle.suites.specs.declared.sizes.Suite.{Suite}
use Rattle.secure_objects.specs.Derivation.{moq_key, moq_salt}
use Rattle.track_record.specs.declared.Kind.{Kind}
use Rattle.track_record.specs.declared.Kind.TheVariants.{Sender, Receiver, Retired}
use Rattle.track_record.specs.declared.Role.{Role}
use Rattle.track_record.specs.declared.Role.TheVariants.{Sending, Receiving}

-- What a record is for: a full track name, as it is serialized, and a Key ID.
pub record TrackId : Type 0 where
  pub name : List ℕ
  pub key_id : ℕ

abbrev pub track_id : (name : List ℕ) (key_id : ℕ) → TrackId
track_id name key_id = record { name = name; key_id = key_id }

unfoldable pub same_track : TrackId → TrackId → Bool
same_track a b = both (eqb a.key_id b.key_id) (same a.name b.name)

-- A record that is not empty. No counter below the floor is sealed under it: the floor is 0 while nothing has been sealed, and
-- then one more than the counter of the last pair.
pub record Track : Type 0 where
  pub kind : Kind
  pub suite : Suite
  pub id : TrackId
  pub floor : ℕ
  pub salt : List ℕ
  pub key : List ℕ

pub data TrackRecord : Type 0 where
  empty : TrackRecord
  track : Track → TrackRecord

-- ---- what a record gives

abbrev pub is_empty : TrackRecord → Bool
is_empty empty = true
is_empty (track t) = false

abbrev pub sends : Kind → Bool
sends Sender = true
sends Receiver = false
sends Retired = false

abbrev pub receives : Kind → Bool
receives Sender = false
receives Receiver = true
receives Retired = false

abbrev pub rests : Kind → Bool
rests Sender = false
rests Receiver = false
rests Retired = true

abbrev pub is_sending : TrackRecord → Bool
is_sending empty = false
is_sending (track t) = sends t.kind

abbrev pub is_receiving : TrackRecord → Bool
is_receiving empty = false
is_receiving (track t) = receives t.kind

abbrev pub is_retired : TrackRecord → Bool
is_retired empty = false
is_retired (track t) = rests t.kind

-- Whether a record is a non-empty one with that name and Key ID.
unfoldable pub holds : TrackId → TrackRecord → Bool
holds id empty = false
holds id (track t) = same_track t.id id

-- The bytes of the suite's tag, and the floor; 0 where there is none.
abbrev pub tag_of : TrackRecord → ℕ
tag_of empty = 0
tag_of (track t) = Nt t.suite

abbrev pub floor_of : TrackRecord → ℕ
floor_of empty = 0
floor_of (track t) = t.floor

abbrev pub salt_of : TrackRecord → List ℕ
salt_of empty = []
salt_of (track t) = t.salt

abbrev pub key_of : TrackRecord → List ℕ
key_of empty = []
key_of (track t) = t.key

-- ---- how a record changes

-- The record of a track just added: nothing is sealed, and key and salt are those of the draft.
abbrev pub kind_for : Role → Kind
kind_for Sending = Sender
kind_for Receiving = Receiver

unfoldable pub fresh : (role : Role) (s : Suite) (id : TrackId) (base : List ℕ) → TrackRecord
fresh role s id base =
    track (record {
      kind = kind_for role;
      suite = s;
      id = id;
      floor = 0;
      salt = moq_salt s base id.name id.key_id;
      key = moq_key s base id.name id.key_id;
    })

-- The record once a pair of that counter is sealed: no counter up to it is sealed again.
unfoldable pub advanced : (counter : ℕ) → TrackRecord → TrackRecord
advanced counter empty = empty
advanced counter (track t) = track (record { kind = t.kind; suite = t.suite; id = t.id; floor = counter + 1; salt = t.salt; key = t.key })

-- What is kept of a record that is removed: everything but salt and key, which are zeros.
unfoldable pub retired : TrackRecord → TrackRecord
retired empty = empty
retired (track t) =
    track (record {
      kind = Retired;
      suite = t.suite;
      id = t.id;
      floor = t.floor;
      salt = replicate Nn 0;
      key = replicate (Nk t.suite) 0;
    })

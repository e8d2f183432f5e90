-- SPDX-License-Identifier: MIT
-- What holds after every list of calls on a track store: the words of it, and the whole of it.
-- Assumes nothing.
use Rattle.std.specs.Prelude.{Some, ◌≡◌, Bool, true, false, List, [], ◌∷◌, ◌++◌, ◌↔◌, ℕ, ◌-◌, ◌<◌, ◌≤◌, length, get_or, take, drop}
use Rattle.octets.specs.Octets.{Octets, pick, both}
use Rattle.answers.specs.Answers.{done, Outcome}
use Rattle.answers.specs.Limits.{max_plaintext, max_metadata}
use Rattle.suites.specs.Suites.{suite_of, Nt}
use Rattle.suites.specs.Derivation.{nonce}
use Rattle.suites.specs.declared.sizes.Suite.{Suite}
use Rattle.secure_objects.specs.Derivation.{moq_key, moq_salt}
use Rattle.secure_objects.specs.Objects.{object_ceiling, counter, secured}
use Rattle.track_record.specs.Record.{TrackId, same_track, Track, empty, track}
use Rattle.track_record.specs.declared.Kind.TheVariants.{Receiver}
use Rattle.track_record.specs.declared.Role.{Role}
use Rattle.track_record.specs.declared.Role.TheVariants.{Sending, Receiving}
use Rattle.tracks.specs.Tracks.{records, sound}
use Rattle.open_object.specs.Open.{opening}
use Rattle.moq.specs.History.{Call, room_of, Adding, Sealing, Event, added, sealed, other}

-- The Adds for sending of a track that answered 0, the newest first.
abbrev pub is_sender : (id : TrackId) (a : Adding) (role : Role) → Bool
is_sender id a Sending = same_track a.id id
is_sender id a Receiving = false

unfoldable pub senders : TrackId → List Event → List Adding
senders id [] = []
senders id (added a ∷ log) = pick (is_sender id a a.role) (a ∷ senders id log) (senders id log)
senders id (sealed x ∷ log) = senders id log
senders id (other ∷ log) = senders id log

-- "Opened to it": done, with the plaintext's length, and the plaintext at the front of the room.
pub record OpenedTo (plaintext : List ℕ) (o : Outcome) : Type 0 where
  pub answers : o.number ≡ done
  pub writes : o.written ≡ length plaintext
  pub starts : take (length plaintext) o.room ≡ plaintext

-- A refusal: length 0, every lent byte stays.
pub record Unchanged (c : Call) (s : List ℕ) (o : Outcome) : Type 0 where
  pub nothing_written : o.written ≡ 0
  pub store-stays : o.store ≡ s
  pub room-stays : o.room ≡ room_of c

-- A sound track store holds a track for receiving: the record stands in it at some place.
pub record Holds (s : List ℕ) (suite : Suite) (id : TrackId) (salt key : List ℕ) : Type 0 where
  pub octets : Octets s
  pub is-sound : sound s ≡ true
  pub place : ℕ
  pub holds-it : get_or (records s) place empty ≡ track (record { kind = Receiver; suite = suite; id = id; floor = 0; salt = salt; key = key })

-- ---- opening

module _ (suite : Suite) (id : TrackId) (salt key : List ℕ) (group object : ℕ) (properties : List ℕ) where
  -- The bytes are the draft's encryption of some plaintext under a track's key and salt, with that pair and those properties.
  pub record Encryption (bytes : List ℕ) : Type 0 where
    pub plaintext : List ℕ
    pub octets : Octets plaintext
    pub is-object : bytes ≡ secured suite key salt id.name id.key_id group object properties plaintext

  -- Where the store is sound and holds the track for receiving, the object number has 32 bits, and sizes and room suffice ..
  pub record Openable (s bytes room : List ℕ) : Type 0 where
    pub held : Holds s suite id salt key
    pub bytes-octets : Octets bytes
    pub object-below : object < object_ceiling
    pub plaintext-most : length bytes - Nt suite ≤ max_plaintext
    pub properties-most : length properties ≤ max_metadata
    pub room-enough : length bytes - Nt suite ≤ length room

  -- .. opening succeeds exactly when the bytes are such an encryption, and yields that plaintext; the room beyond it stays.
  pub record OpensExactly (s bytes room : List ℕ) : Type 0 where
    pub exactly : ((opening s id group object properties bytes room).number ≡ done) ↔ Encryption bytes
    pub yields : (e : Encryption bytes) → OpenedTo e.plaintext (opening s id group object properties bytes room)
    pub beyond : (e : Encryption bytes) → (opening s id group object properties bytes room).room ≡ e.plaintext ++ drop (length e.plaintext) room

-- ---- every list of calls

-- The key and the salt that the draft derives from an Add's base key, name, Key ID and suite.
abbrev pub key_from : Suite → Adding → List ℕ
key_from s a = moq_key s a.base a.id.name a.id.key_id

abbrev pub salt_from : Suite → Adding → List ℕ
salt_from s a = moq_salt s a.base a.id.name a.id.key_id

-- The nonce of a sealed object under an Add's salt.
abbrev pub nonce_of : Suite → Adding → Sealing → List ℕ
nonce_of s a x = nonce (salt_from s a) (counter x.group x.object)

-- One sealed object, with the events before it.
pub record Object (x : Sealing) (earlier : List Event) : Type 0 where
  -- its pair fits the counter
  pub object-below : x.object < object_ceiling
  -- its track has had exactly one Add for sending that answered 0 earlier
  pub add : Adding
  pub only : senders x.id earlier ≡ add ∷ []
  pub its-track : add.id ≡ x.id
  pub suite : Suite
  pub its-suite : suite_of add.suite ≡ Some suite
  -- it was sealed under that Add's suite, and the key and salt derived from it: it is the draft's object
  pub sealed-under : x.bytes ≡ secured suite (key_from suite add) (salt_from suite add) x.id.name x.id.key_id x.group x.object x.properties x.plaintext
  -- every sound store that holds that track, suite, key and salt for receiving opens it under its name, Key ID and pair, given its
  -- properties and "room for its plaintext"
  pub opens : (s room : List ℕ) → Holds s suite x.id (salt_from suite add) (key_from suite add) → length x.plaintext ≤ length room
      → OpenedTo x.plaintext (opening s x.id x.group x.object x.properties x.bytes room)

-- Two sealed objects, each with the events before it.
pub record Pair (x : Sealing) (before-x : List Event) (y : Sealing) (before-y : List Event) : Type 0 where
  -- under one name and Key ID they do not have the same pair
  pub pairs-apart : x.id ≡ y.id → x.group ≡ y.group → x.object ≡ y.object → ⊥
  -- and do not use one nonce
  pub nonces-apart : x.id ≡ y.id → (a b : Adding) (s t : Suite) → senders x.id before-x ≡ a ∷ [] → senders y.id before-y ≡ b ∷ [] → suite_of a.suite ≡ Some s → suite_of b.suite ≡ Some t
      → nonce_of s a x ≡ nonce_of t b y → ⊥

-- The whole claim, of all the events of a list.
pub record Kept (log : List Event) : Type 0 where
  pub every-object : (later earlier : List Event) (x : Sealing) → log ≡ later ++ (sealed x ∷ earlier) → Object x earlier
  pub every-pair : (later between earlier : List Event) (x y : Sealing) → log ≡ later ++ (sealed x ∷ (between ++ (sealed y ∷ earlier)))
      → Pair x (between ++ (sealed y ∷ earlier)) y earlier

-- "A removed track is never added again", and no track is added while it is there: of one name and Key ID at most one Add answers 0.
-- The events stand the newest first, so b came before a.
abbrev pub NeverAgain : List Event → Type 0
NeverAgain log = (later between earlier : List Event) (a b : Adding) → log ≡ later ++ (added a ∷ (between ++ (added b ∷ earlier))) → a.id ≡ b.id → ⊥

-- SPDX-License-Identifier: MIT
-- A track store from making to making: a list of calls on the store that a Make leaves, and what it yields.
-- Assumes nothing.
use Rattle.std.specs.Prelude.{List, [], ◌∷◌, ℕ, ◌^◌, ◌<◌, eqb, take}
use Rattle.octets.specs.Octets.{Octets, pick}
use Rattle.answers.specs.Answers.{Outcome}
use Rattle.track_record.specs.Record.{TrackId}
use Rattle.track_record.specs.declared.Role.{Role}
use Rattle.tracks.specs.Calls.{make, remove}
use Rattle.add_track.specs.Add.{add}
use Rattle.seal_object.specs.Seal.{seal}
use Rattle.open_object.specs.Open.{opening}

-- A call with its inputs and its room.
pub data Call : Type 0 where
  Add : (role : Role) (id : TrackId) (suite : ℕ) (base : List ℕ) → Call
  Remove : (id : TrackId) → Call
  Seal : (id : TrackId) (group object : ℕ) (properties plaintext room : List ℕ) → Call
  Open : (id : TrackId) (group object : ℕ) (properties bytes room : List ℕ) → Call

-- A name and a Key ID as the types of the code admit them: bytes, and 64 bits.
abbrev pub TypedId : TrackId → Type 0
TypedId id = Octets id.name × (id.key_id < 2 ^ 64)

-- The inputs are what the types of the code admit: groups have 64 bits, and so do objects. Object numbers of more than 32 bits are
-- refused.
abbrev pub Typed : Call → Type 0
Typed (Add role id suite base) = TypedId id × Octets base
Typed (Remove id) = TypedId id
Typed (Seal id group object properties plaintext room) = TypedId id × (group < 2 ^ 64) × Octets properties × Octets plaintext × Octets room
Typed (Open id group object properties bytes room) = TypedId id × Octets properties × Octets bytes × Octets room

-- The room that a call is lent.
abbrev pub room_of : Call → List ℕ
room_of (Add role id suite base) = []
room_of (Remove id) = []
room_of (Seal id group object properties plaintext room) = room
room_of (Open id group object properties bytes room) = room

abbrev pub AllTyped : List Call → Type 0
AllTyped [] = Unit {0}
AllTyped (c ∷ cs) = Typed c × AllTyped cs

-- An Add that answered 0.
pub record Adding : Type 0 where
  pub role : Role
  pub id : TrackId
  pub suite : ℕ
  pub base : List ℕ

-- A Seal that answered 0, with the pair that it was given and the bytes that it wrote as its result: a "sealed object".
pub record Sealing : Type 0 where
  pub id : TrackId
  pub group : ℕ
  pub object : ℕ
  pub properties : List ℕ
  pub plaintext : List ℕ
  pub bytes : List ℕ

-- What a call yields; every refused call, every Remove and every Open is one of the others.
pub data Event : Type 0 where
  added : Adding → Event
  sealed : Sealing → Event
  other : Event

unfoldable pub event : Call → Outcome → Event
event (Add role id suite base) o = pick (eqb o.number 0) (added (record { role = role; id = id; suite = suite; base = base })) other
event (Remove id) o = other
event (Seal id group object properties plaintext room) o =
    pick (eqb o.number 0)
    (sealed (record { id = id; group = group; object = object; properties = properties; plaintext = plaintext; bytes = take o.written o.room }))
    other
event (Open id group object properties bytes room) o = other

-- The store, and the events so far, the newest first.
pub record History : Type 0 where
  pub store : List ℕ
  pub log : List Event

unfoldable pub outcome : Call → List ℕ → Outcome
outcome (Add role id suite base) s = add s role id suite base
outcome (Remove id) s = remove s id
outcome (Seal id group object properties plaintext room) s = seal s id group object properties plaintext room
outcome (Open id group object properties bytes room) s = opening s id group object properties bytes room

unfoldable pub step : Call → History → History
step c h =
    let o = outcome c h.store in
    record { store = o.store; log = event c o ∷ h.log }

-- The calls of a list, the first of them first.
unfoldable pub run : List Call → History → History
run [] h = h
run (c ∷ cs) h = run cs (step c h)

-- What a Make on the bytes s leaves.
unfoldable pub start : List ℕ → History
start s = record { store = (make s).store; log = [] }

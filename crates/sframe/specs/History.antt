-- SPDX-License-Identifier: MIT
-- A store from making to making: a list of calls on the store that a Make leaves, and what it yields.
-- Assumes nothing.
use Rattle.std.specs.Prelude.{Bool, true, false, List, [], ◌∷◌, ◌++◌, ℕ, ◌^◌, ◌<◌, eqb, length, take, drop}
use Rattle.octets.specs.Octets.{Octets, pick}
use Rattle.header.specs.Answers.{read_kid, read_ctr}
use Rattle.header.specs.Header.{read_header}
use Rattle.answers.specs.Answers.{Outcome}
use Rattle.store_calls.specs.Calls.{make, remove, find}
use Rattle.add_key.specs.Add.{add}
use Rattle.store.specs.Cipher.{Cipher}
use Rattle.pieces.specs.Calls.{Result, seal_piece, seal_end, check_piece, check_end}
use Rattle.judge_seal.specs.Seal.{seal}
use Rattle.begin_seal.specs.Begin.{seal_begin}
use Rattle.judge_open.specs.Open.{opening}
use Rattle.begin_check.specs.Check.{check_begin}
use Rattle.report_window.specs.Report.{report}
use Rattle.change_epoch.specs.Epoch.{change_epoch}
use Rattle.key_record.specs.declared.Role.{Role}

-- A call with its inputs and its room. A place is any number: what a call does has no use for it. One sealing in pieces is one line of
-- calls: the name of a line is the number of calls before its Begin, and a Piece or an End is lent the state that the last call of its
-- line left.
pub data Call : Type 0 where
  Add : (role : Role) (kid suite : ℕ) (base : List ℕ) → Call
  Remove : (kid place : ℕ) → Call
  Seal : (kid place : ℕ) (metadata plaintext : List ℕ) (offset : ℕ) (room : List ℕ) → Call
  Open : (place : ℕ) (metadata frame room : List ℕ) → Call
  Report : (kid : ℕ) → Call
  Find : (kid : ℕ) → Call
  ChangeEpoch : (width bits : ℕ) → Call
  Begin : (kid : ℕ) (metadata : List ℕ) (announced : ℕ) (state room : List ℕ) → Call
  Piece : (line : ℕ) (piece room : List ℕ) → Call
  End : (line : ℕ) (room : List ℕ) → Call
  CheckBegin : (metadata header : List ℕ) (announced : ℕ) (state : List ℕ) → Call
  CheckPiece : (state piece : List ℕ) → Call
  CheckEnd : (state tag : List ℕ) → Call

-- The inputs are what the types of the code admit: a KID, a width and the bits of an epoch have 64 bits, everything lent is bytes.
abbrev pub Typed : Call → Type 0
Typed (Add role kid suite base) = (kid < 2 ^ 64) × Octets base
Typed (Remove kid place) = kid < 2 ^ 64
Typed (Seal kid place metadata plaintext offset room) = (kid < 2 ^ 64) × Octets metadata × Octets plaintext × Octets room
Typed (Open place metadata frame room) = Octets metadata × Octets frame × Octets room
Typed (Report kid) = kid < 2 ^ 64
Typed (Find kid) = kid < 2 ^ 64
Typed (ChangeEpoch width bits) = (width < 2 ^ 64) × (bits < 2 ^ 64)
Typed (Begin kid metadata announced state room) = (kid < 2 ^ 64) × Octets metadata × Octets state × Octets room
Typed (Piece line piece room) = Octets piece × Octets room
Typed (End line room) = Octets room
Typed (CheckBegin metadata header announced state) = Octets metadata × Octets header × Octets state
Typed (CheckPiece state piece) = Octets state × Octets piece
Typed (CheckEnd state tag) = Octets state × Octets tag

-- The room that a call is lent.
abbrev pub room_of : Call → List ℕ
room_of (Add role kid suite base) = []
room_of (Remove kid place) = []
room_of (Seal kid place metadata plaintext offset room) = room
room_of (Open place metadata frame room) = room
room_of (Report kid) = []
room_of (Find kid) = []
room_of (ChangeEpoch width bits) = []
room_of (Begin kid metadata announced state room) = room
room_of (Piece line piece room) = room
room_of (End line room) = room
room_of (CheckBegin metadata header announced state) = []
room_of (CheckPiece state piece) = []
room_of (CheckEnd state tag) = []

abbrev pub AllTyped : List Call → Type 0
AllTyped [] = Unit {0}
AllTyped (c ∷ cs) = Typed c × AllTyped cs

-- An Add that answered 0.
pub record Adding : Type 0 where
  pub role : Role
  pub kid : ℕ
  pub suite : ℕ
  pub base : List ℕ

-- A sealing begun: a Seal that answered 0, or a Begin that did, with the calls of its line.
pub record Sealing : Type 0 where
  pub metadata : List ℕ
  -- the plaintext's length as it was announced
  pub announced : ℕ
  -- of a line: the pieces answered 0, joined in order
  pub plaintext : List ℕ
  -- the bytes written as its result, for a Seal those at the offset: a "sealed frame". Of a line: the header, the ciphertext of the
  -- pieces answered 0 and, once its end has answered 0, the tag
  pub frame : List ℕ
  pub finished : Bool
  -- what the last call of its line left; a Seal has none
  pub state : List ℕ

-- An Open that answered 0, by the KID and the counter that its frame's header gives.
pub record Opening : Type 0 where
  pub kid : ℕ
  pub ctr : ℕ

-- What a call yields; every refused call, every Remove, Report, Find and ChangeEpoch is one of the others, and so is every call of a line
-- after its Begin, and every call of a check in pieces.
pub data Event : Type 0 where
  added : Adding → Event
  sealed : Sealing → Event
  opened : Opening → Event
  other : Event

unfoldable pub event : Call → Outcome → Event
event (Add role kid suite base) o = pick (eqb o.number 0) (added (record { role = role; kid = kid; suite = suite; base = base })) other
event (Remove kid place) o = other
event (Seal kid place metadata plaintext offset room) o =
    pick (eqb o.number 0)
    (sealed (record { metadata = metadata; announced = length plaintext; plaintext = plaintext; frame = take o.written (drop offset o.room); finished = true; state = [] }))
    other
event (Open place metadata frame room) o = pick (eqb o.number 0) (opened (record { kid = read_kid (read_header frame); ctr = read_ctr (read_header frame) })) other
event (Report kid) o = other
event (Find kid) o = other
event (ChangeEpoch width bits) o = other
event (Begin kid metadata announced state room) o =
    pick (eqb o.number 0)
    (sealed (record { metadata = metadata; announced = announced; plaintext = []; frame = take o.written o.room; finished = false; state = o.state }))
    other
event (Piece line piece room) o = other
event (End line room) o = other
event (CheckBegin metadata header announced state) o = other
event (CheckPiece state piece) o = other
event (CheckEnd state tag) o = other

-- ---- lines

-- The sealing of the line named n, changed by f. Events stand the newest first, so that as many as stand behind an event came before it.
abbrev pub changed : (Sealing → Sealing) → Event → Event
changed f (added a) = added a
changed f (sealed x) = sealed (f x)
changed f (opened x) = opened x
changed f other = other

unfoldable pub on_line : ℕ → (Sealing → Sealing) → List Event → List Event
on_line n f [] = []
on_line n f (e ∷ log) = pick (eqb (length log) n) (changed f e ∷ log) (e ∷ on_line n f log)

-- The state that the last call of that line left; no bytes where that call began no sealing.
abbrev pub state_in : Event → List ℕ
state_in (added a) = []
state_in (sealed x) = x.state
state_in (opened x) = []
state_in other = []

unfoldable pub state_on : ℕ → List Event → List ℕ
state_on n [] = []
state_on n (e ∷ log) = pick (eqb (length log) n) (state_in e) (state_on n log)

-- A sealing after a piece, and after an end, that answered as o says. An end called again adds nothing.
abbrev pub pieced : (piece : List ℕ) → Outcome → Sealing → Sealing
pieced piece o x =
    pick (eqb o.number 0)
    (record { metadata = x.metadata; announced = x.announced; plaintext = x.plaintext ++ piece; frame = x.frame ++ take o.written o.room; finished = x.finished; state = o.state })
    x

abbrev pub ended : Outcome → Sealing → Sealing
ended o x =
    pick (eqb o.number 0)
    (pick x.finished x
    (record { metadata = x.metadata; announced = x.announced; plaintext = x.plaintext; frame = x.frame ++ take o.written o.room; finished = true; state = o.state }))
    x

-- What a call makes of the events before it.
unfoldable pub onward : Call → Outcome → List Event → List Event
onward (Add role kid suite base) o log = log
onward (Remove kid place) o log = log
onward (Seal kid place metadata plaintext offset room) o log = log
onward (Open place metadata frame room) o log = log
onward (Report kid) o log = log
onward (Find kid) o log = log
onward (ChangeEpoch width bits) o log = log
onward (Begin kid metadata announced state room) o log = log
onward (Piece line piece room) o log = on_line line (pieced piece o) log
onward (End line room) o log = on_line line (ended o) log
onward (CheckBegin metadata header announced state) o log = log
onward (CheckPiece state piece) o log = log
onward (CheckEnd state tag) o log = log

-- The running state that a call is lent.
abbrev pub state_of : Call → List Event → List ℕ
state_of (Add role kid suite base) log = []
state_of (Remove kid place) log = []
state_of (Seal kid place metadata plaintext offset room) log = []
state_of (Open place metadata frame room) log = []
state_of (Report kid) log = []
state_of (Find kid) log = []
state_of (ChangeEpoch width bits) log = []
state_of (Begin kid metadata announced state room) log = state
state_of (Piece line piece room) log = state_on line log
state_of (End line room) log = state_on line log
state_of (CheckBegin metadata header announced state) log = state
state_of (CheckPiece state piece) log = state
state_of (CheckEnd state tag) log = state

-- ---- lists of calls

-- The store, and the events so far, the newest first.
pub record History : Type 0 where
  pub store : List ℕ
  pub log : List Event

-- A call that is lent no store leaves it.
abbrev pub beside : (s : List ℕ) → Result → Outcome
beside s r = record { number = r.number; written = r.written; store = s; room = r.room; state = r.state }

module _ (cipher : Cipher) where
  -- A call on a store, after those events.
  unfoldable pub outcome : Call → (s : List ℕ) (log : List Event) → Outcome
  outcome (Add role kid suite base) s log = add cipher s role kid suite base
  outcome (Remove kid place) s log = remove s kid
  outcome (Seal kid place metadata plaintext offset room) s log = seal cipher s kid metadata plaintext offset room
  outcome (Open place metadata frame room) s log = opening cipher s metadata frame room
  outcome (Report kid) s log = report s kid
  outcome (Find kid) s log = find s kid
  outcome (ChangeEpoch width bits) s log = change_epoch s width bits
  outcome (Begin kid metadata announced state room) s log = seal_begin cipher s kid metadata announced state room
  outcome (Piece line piece room) s log = beside s (seal_piece (state_on line log) piece room)
  outcome (End line room) s log = beside s (seal_end (state_on line log) room)
  outcome (CheckBegin metadata header announced state) s log = check_begin cipher s metadata header announced state
  outcome (CheckPiece state piece) s log = beside s (check_piece state piece)
  outcome (CheckEnd state tag) s log = record { number = check_end state tag; written = 0; store = s; room = []; state = state }

  unfoldable pub step : Call → History → History
  step c h =
      let o = outcome c h.store h.log in
      record { store = o.store; log = event c o ∷ onward c o h.log }

  -- The calls of a list, the first of them first.
  unfoldable pub run : List Call → History → History
  run [] h = h
  run (c ∷ cs) h = run cs (step c h)

-- What a Make on the bytes s leaves.
unfoldable pub start : List ℕ → History
start s = record { store = (make s).store; log = [] }

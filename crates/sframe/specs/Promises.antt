-- SPDX-License-Identifier: MIT
-- What holds after every list of calls: the words of it, and the whole of it.
-- Assumes nothing.
use Rattle.std.specs.Prelude.{◌≡◌, Bool, true, false, List, [], ◌∷◌, ◌++◌, ◌↔◌, ℕ, ◌+◌, ◌-◌, ◌≤◌, eqb, length, get_or, take, drop}
use Rattle.octets.specs.Octets.{Octets, pick}
use Rattle.header.specs.Answers.{read_kid, read_ctr, done, read_number}
use Rattle.header.specs.Header.{header_of, header, read_header}
use Rattle.answers.specs.Answers.{already_opened, counter_too_old, Outcome}
use Rattle.store.specs.Cipher.{Cipher}
use Rattle.key_record.specs.Record.{ReceivingKey, empty, receiving, holds}
use Rattle.store.specs.Store.{encode_all, records, sound}
use Rattle.store.specs.Table.{get, put}
use Rattle.window.specs.Window.{seen, too_old, moved}
use Rattle.window.specs.declared.Window.{Window}
use Rattle.answers.specs.Limits.{max_plaintext, max_metadata}
use Rattle.add_key.specs.Add.{barred}
use Rattle.judge_open.specs.Open.{opening}
use Rattle.judge_seal.specs.Frame.{frame_with, frame}
use Rattle.change_epoch.specs.Epoch.{of_epoch}
use Rattle.key_record.specs.Suites.{tag_size}
use Rattle.sframe.specs.History.{Call, room_of, state_of, Adding, Sealing, Opening, Event, added, sealed, opened, other}
use Rattle.key_record.specs.declared.Role.{Role}
use Rattle.key_record.specs.declared.Role.TheVariants.{Sending, Receiving}

-- A sealed frame "carries" the KID and the counter that its own header gives.
unfoldable pub kid_of : Sealing → ℕ
kid_of x = read_kid (read_header x.frame)

unfoldable pub ctr_of : Sealing → ℕ
ctr_of x = read_ctr (read_header x.frame)

-- It "begins" another that starts with all of its bytes.
abbrev pub Begins : Sealing → Sealing → Type 0
Begins x y = take (length x.frame) y.frame ≡ x.frame

-- The Adds for sending of a KID that answered 0, the newest first.
abbrev pub is_sender : (kid : ℕ) (a : Adding) (role : Role) → Bool
is_sender kid a Sending = eqb a.kid kid
is_sender kid a Receiving = false

unfoldable pub senders : ℕ → List Event → List Adding
senders kid [] = []
senders kid (added a ∷ log) = pick (is_sender kid a a.role) (a ∷ senders kid log) (senders kid log)
senders kid (sealed x ∷ log) = senders kid log
senders kid (opened x ∷ log) = senders kid log
senders kid (other ∷ log) = senders kid log

-- "Opened to it": done, with the plaintext's length, and the plaintext at the front of the room.
pub record OpenedTo (plaintext : List ℕ) (o : Outcome) : Type 0 where
  pub answers : o.number ≡ done
  pub writes : o.written ≡ length plaintext
  pub starts : take (length plaintext) o.room ≡ plaintext

-- A refusal, after those events: length 0, every lent byte stays.
pub record Unchanged (c : Call) (s : List ℕ) (log : List Event) (o : Outcome) : Type 0 where
  pub nothing_written : o.written ≡ 0
  pub store-stays : o.store ≡ s
  pub room-stays : o.room ≡ room_of c
  pub state-stays : o.state ≡ state_of c log

-- A sound store holds a key for receiving: the record stands in it at some place, with a window that may be any.
pub record Holds (s : List ℕ) (r : ReceivingKey) : Type 0 where
  pub octets : Octets s
  pub is-sound : sound s ≡ true
  pub place : ℕ
  pub window : Window
  pub holds-it : get_or (records s) place empty ≡ receiving r window

module _ (cipher : Cipher) where
  -- The key and the salt that RFC 9605 derives from an Add's base key, KID and suite.
  abbrev pub key_from : Adding → List ℕ
  key_from a = cipher.key a.suite a.base a.kid

  abbrev pub salt_from : Adding → List ℕ
  salt_from a = cipher.salt a.suite a.base a.kid

  -- The nonce of a frame under an Add's salt.
  abbrev pub nonce_of : Adding → Sealing → List ℕ
  nonce_of a x = cipher.nonce (salt_from a) (ctr_of x)

  -- ---- opening

  -- The bytes are the RFC's encryption of some plaintext under a key held for receiving, with that counter and that metadata and with
  -- the header that was received, their first n bytes.
  pub record Encryption (r : ReceivingKey) (ctr n : ℕ) (metadata bytes : List ℕ) : Type 0 where
    pub plaintext : List ℕ
    pub octets : Octets plaintext
    pub is-frame : bytes ≡ frame_with cipher r.suite r.key r.salt (take n bytes) ctr metadata plaintext

  -- Where the store is sound and holds the frame's KID for receiving, and sizes and room suffice ..
  pub record Offered (s metadata bytes room : List ℕ) (r : ReceivingKey) (ctr n : ℕ) : Type 0 where
    pub held : Holds s r
    pub metadata-octets : Octets metadata
    pub bytes-octets : Octets bytes
    pub header_is : read_header bytes ≡ header_of (record { 0 = r.kid }) (record { 0 = ctr }) n
    pub plaintext-most : length bytes - n - tag_size r.suite ≤ max_plaintext
    pub metadata-most : length metadata ≤ max_metadata
    pub room-enough : length bytes - n - tag_size r.suite ≤ length room

  -- .. a frame that has a tag is answered with 14 exactly when the held record's window w has seen its counter, and with 15 exactly
  -- when that lies too far below the highest.
  pub record WindowCauses (s metadata bytes room : List ℕ) (w : Window) (ctr : ℕ) : Type 0 where
    pub opened-before : ((opening cipher s metadata bytes room).number ≡ already_opened) ↔ (seen w ctr ≡ true)
    pub too-old : ((opening cipher s metadata bytes room).number ≡ counter_too_old) ↔ (too_old w ctr ≡ true)

  -- Where moreover the window has neither against it ..
  pub record Openable (s metadata bytes room : List ℕ) (r : ReceivingKey) (ctr n : ℕ) : Type 0 where
    pub offered : Offered s metadata bytes room r ctr n
    pub not_seen : seen offered.held.window ctr ≡ false
    pub not-old : too_old offered.held.window ctr ≡ false

  -- .. opening succeeds exactly when the frame is such an encryption, and yields that plaintext; the room beyond it stays, and in the
  -- store nothing changes but the window w of the held record, which has the counter then.
  pub record OpensExactly (s metadata bytes room : List ℕ) (r : ReceivingKey) (w : Window) (ctr n : ℕ) : Type 0 where
    pub exactly : ((opening cipher s metadata bytes room).number ≡ done) ↔ Encryption r ctr n metadata bytes
    pub yields : (e : Encryption r ctr n metadata bytes) → OpenedTo e.plaintext (opening cipher s metadata bytes room)
    pub beyond : (e : Encryption r ctr n metadata bytes) → (opening cipher s metadata bytes room).room ≡ e.plaintext ++ drop (length e.plaintext) room
    pub moves : Encryption r ctr n metadata bytes → (opening cipher s metadata bytes room).store ≡ encode_all (put r.kid (receiving r (moved w ctr)) (records s))

  -- ---- every list of calls

  -- One sealed frame, with the events before it. What is said of the header holds of every sealing begun.
  pub record Frame (x : Sealing) (earlier : List Event) : Type 0 where
    -- it has a header
    pub header_read : read_number (read_header x.frame) ≡ done
    -- its KID has had exactly one Add for sending that answered 0 earlier
    pub add : Adding
    pub only : senders (kid_of x) earlier ≡ add ∷ []
    pub its-kid : add.kid ≡ kid_of x
    -- it was begun under that Add's suite, and the key and salt derived from it: until its end it is the RFC's frame of the plaintext so
    -- far, without the tag
    pub begun-under : x.finished ≡ false
        → x.frame ≡ take (length (header (kid_of x) (ctr_of x)) + length x.plaintext) (frame cipher add.suite (key_from add) (salt_from add) (kid_of x) (ctr_of x) x.metadata x.plaintext)
    -- finished, it is the RFC's frame
    pub sealed-under : x.finished ≡ true → x.frame ≡ frame cipher add.suite (key_from add) (salt_from add) (kid_of x) (ctr_of x) x.metadata x.plaintext
    -- finished, every sound store that holds that KID, suite, key and salt for receiving, with a window that has neither seen its counter
    -- nor lies past it, opens it, given its metadata and "room for its plaintext"
    pub opens : x.finished ≡ true
        → (s room : List ℕ) (h : Holds s (record { suite = add.suite; kid = kid_of x; salt = salt_from add; key = key_from add })) → length x.plaintext ≤ length room
        → seen h.window (ctr_of x) ≡ false → too_old h.window (ctr_of x) ≡ false → OpenedTo x.plaintext (opening cipher s x.metadata x.frame room)

  -- Two sealed frames, each with the events before it.
  pub record Pair (x : Sealing) (before-x : List Event) (y : Sealing) (before-y : List Event) : Type 0 where
    -- they do not carry the same KID and counter
    pub pairs-apart : kid_of x ≡ kid_of y → ctr_of x ≡ ctr_of y → ⊥
    -- under one KID they do not use one nonce
    pub nonces-apart : kid_of x ≡ kid_of y → (a b : Adding) → senders (kid_of x) before-x ≡ a ∷ [] → senders (kid_of y) before-y ≡ b ∷ [] → nonce_of a x ≡ nonce_of b y → ⊥
    -- they are not equal, and neither begins the other
    pub not_equal : x.frame ≡ y.frame → ⊥
    pub not-begins : Begins x y → ⊥
    pub not-begun : Begins y x → ⊥

  -- The whole claim, of all the events of a list.
  pub record Kept (log : List Event) : Type 0 where
    pub every-frame : (later earlier : List Event) (x : Sealing) → log ≡ later ++ (sealed x ∷ earlier) → Frame x earlier
    pub every-pair : (later between earlier : List Event) (x y : Sealing) → log ≡ later ++ (sealed x ∷ (between ++ (sealed y ∷ earlier)))
        → Pair x (between ++ (sealed y ∷ earlier)) y earlier

-- "That KID is never added again": after an Add for sending that answered 0, no Add of its KID answers 0, in either role. The
-- events stand the newest first, so b came before a.
abbrev pub NeverAgain : List Event → Type 0
NeverAgain log = (later between earlier : List Event) (a b : Adding) → log ≡ later ++ (added a ∷ (between ++ (added b ∷ earlier))) → b.role ≡ Sending → a.kid ≡ b.kid → ⊥

-- "None is barred": no Add for sending with the suite of 4-byte tags answered 0, so no frame was sealed under one.
abbrev pub NoneBarred : List Event → Type 0
NoneBarred log = (later earlier : List Event) (a : Adding) → log ≡ later ++ (added a ∷ earlier) → barred a.role a.suite ≡ false

-- An Add of that KID stands among the events.
pub record AddedIn (kid : ℕ) (log : List Event) : Type 0 where
  pub add : Adding
  pub after : List Event
  pub before : List Event
  pub is-there : log ≡ after ++ (added add ∷ before)
  pub its-kid : add.kid ≡ kid

-- "No frame is opened twice": between two Opens that answered 0 with one KID and counter stands an Add of that KID that answered 0.
-- The events stand the newest first, so y came before x.
abbrev pub OpenedOnce : List Event → Type 0
OpenedOnce log = (later between earlier : List Event) (x y : Opening) → log ≡ later ++ (opened x ∷ (between ++ (opened y ∷ earlier))) → x.kid ≡ y.kid → x.ctr ≡ y.ctr → AddedIn x.kid between

-- ---- neighbours in one store

-- Two sound stores with the record of a KID alike, at place i of one and j of the other, whatever the rest of each holds.
pub record Alike (s t : List ℕ) (kid i j : ℕ) : Type 0 where
  pub s-octets : Octets s
  pub s-sound : sound s ≡ true
  pub t-octets : Octets t
  pub t-sound : sound t ≡ true
  pub holds-kid : holds kid (get_or (records s) i empty) ≡ true
  pub alike : get_or (records s) i empty ≡ get_or (records t) j empty

-- No record but the one at that place is another after a call.
pub record OthersStay (s : List ℕ) (o : Outcome) (place : ℕ) : Type 0 where
  pub length-stays : length o.store ≡ length s
  pub others-stay : (j : ℕ) → (j ≡ place → ⊥) → get_or (records o.store) j empty ≡ get_or (records s) j empty

-- One call on both stores: what it answers, writes and makes of the record is alike, and the other records stay.
pub record SameAnswer (s t : List ℕ) (i j : ℕ) (o p : Outcome) : Type 0 where
  pub same_number : o.number ≡ p.number
  pub same_length : o.written ≡ p.written
  pub same-room : o.room ≡ p.room
  pub same-state : o.state ≡ p.state
  pub same-record : get_or (records o.store) i empty ≡ get_or (records p.store) j empty
  pub s-others : OthersStay s o i
  pub t-others : OthersStay t p j

-- ---- a change of epoch

-- "Exactly the receiving keys of that epoch are gone, everything else is as it was": of each KID nothing is held where a receiving key of
-- the epoch was, and else what was, key, counter and window alike.
pub record EpochChanged (s : List ℕ) (width bits : ℕ) (o : Outcome) : Type 0 where
  pub length-stays : length o.store ≡ length s
  pub gone : (kid : ℕ) → of_epoch width bits (get kid (records s)) ≡ true → get kid (records o.store) ≡ empty
  pub stays : (kid : ℕ) → of_epoch width bits (get kid (records s)) ≡ false → get kid (records o.store) ≡ get kid (records s)

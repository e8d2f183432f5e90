-- SPDX-License-Identifier: MIT
-- Opening a frame: number, length, store and room afterwards, for every input. The causes of refusal stand in the order in
-- which they are tried.
-- Assumes nothing.
use Rattle.std.specs.Prelude.{Option, Bool, true, false, not, List, [], ◌∷◌, ◌++◌, ℕ, ◌-◌, ltb, eqb, length, take, drop}
use Rattle.header.specs.Header.{read_header}
use Rattle.header.specs.Answers.{header_invalid, room_short, read_number, read_kid, read_ctr, read_length}
use Rattle.header.specs.declared.Header.{Header}
use Rattle.answers.specs.Answers.{store_invalid, kid_missing, role_refused, input_too_long, frame_short, tag_differs, already_opened, counter_too_old, Cause, ◌if◌, first, Outcome, settled}
use Rattle.answers.specs.Limits.{too_long}
use Rattle.store.specs.Cipher.{Cipher, Decrypted, plain, differs}
use Rattle.key_record.specs.Record.{KeyRecord, is_empty, is_receiving, suite_of, salt_of, key_of, window_of, noted}
use Rattle.store.specs.Store.{encode_all, records, sound}
use Rattle.key_record.specs.Suites.{tag_size}
use Rattle.store.specs.Table.{get, put}
use Rattle.window.specs.Window.{seen, too_old}

abbrev pub plain_of : Decrypted → List ℕ
plain_of (plain p) = p
plain_of differs = []

abbrev pub is_differs : Decrypted → Bool
is_differs (plain p) = false
is_differs differs = true

-- reading is what the frame's header reads as, held the record that holds its KID, given what the frame decrypts to; metadata and
-- room are lengths, and so are behind, what stands behind the header, and plaintext, what stands between header and tag
unfoldable pub open_causes : (valid : Bool) (reading : Option Header) (held : KeyRecord) (metadata behind plaintext room : ℕ) (given : Decrypted) → List Cause
open_causes valid reading held metadata behind plaintext room given =
    (store_invalid if not valid)
    ∷ (header_invalid if eqb (read_number reading) header_invalid)
    ∷ (kid_missing if is_empty held)
    ∷ (role_refused if not (is_receiving held))
    ∷ (frame_short if ltb behind (tag_size (suite_of held)))
    ∷ (input_too_long if too_long plaintext metadata)
    ∷ (room_short if ltb room plaintext)
    ∷ (already_opened if seen (window_of held) (read_ctr reading))
    ∷ (counter_too_old if too_old (window_of held) (read_ctr reading))
    ∷ (tag_differs if is_differs given)
    ∷ []

-- How many bytes stand between header and tag.
unfoldable pub plain_length : (reading : Option Header) (held : KeyRecord) (frame : List ℕ) → ℕ
plain_length reading held frame = length frame - read_length reading - tag_size (suite_of held)

module _ (cipher : Cipher) where
  -- What the bytes after the frame's header decrypt to, under the frame's own counter. The associated data is the frame's own header, then the metadata.
  unfoldable pub decrypted : (reading : Option Header) (held : KeyRecord) (metadata frame : List ℕ) → Decrypted
  decrypted reading held metadata frame =
      cipher.decrypt (suite_of held) (key_of held) (cipher.nonce (salt_of held) (read_ctr reading)) (take (read_length reading) frame ++ metadata) (drop (read_length reading) frame)

  -- The causes of an Open.
  unfoldable pub causes_of_open : (valid : Bool) (reading : Option Header) (held : KeyRecord) (metadata frame room : List ℕ) → List Cause
  causes_of_open valid reading held metadata frame room =
      open_causes valid reading held (length metadata) (length frame - read_length reading) (plain_length reading held frame) (length room) (decrypted reading held metadata frame)

  -- The plaintext stands at the start of the room, and the frame's counter is noted in the window of the record. No other record
  -- changes, and a frame that is not opened changes none.
  unfoldable pub open_at : (valid : Bool) (reading : Option Header) (held : KeyRecord) (rs : List KeyRecord) (s metadata frame room : List ℕ) → Outcome
  open_at valid reading held rs s metadata frame room =
      let p = plain_of (decrypted reading held metadata frame) in
      settled (first (causes_of_open valid reading held metadata frame room)) s room
      (record { number = 0; written = length p; store = encode_all (put (read_kid reading) (noted (read_ctr reading) held) rs); room = p ++ drop (length p) room; state = [] })

  unfoldable pub opening : (s metadata frame room : List ℕ) → Outcome
  opening s metadata frame room =
      let reading = read_header frame in
      open_at (sound s) reading (get (read_kid reading) (records s)) (records s) s metadata frame room

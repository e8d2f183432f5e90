-- SPDX-License-Identifier: MIT
-- Beginning to check a received frame in pieces: number and running state afterwards, for every input. The causes of refusal stand in
-- the order in which they are tried.
-- Assumes nothing.
use Rattle.std.specs.Prelude.{Option, Bool, not, List, [], ◌∷◌, ◌++◌, ℕ, ltb, eqb, length, take}
use Rattle.octets.specs.Octets.{pasted}
use Rattle.header.specs.Header.{read_header}
use Rattle.header.specs.Answers.{header_invalid, room_short, read_number, read_kid, read_ctr, read_length}
use Rattle.header.specs.declared.Header.{Header}
use Rattle.answers.specs.Answers.{store_invalid, kid_missing, role_refused, input_too_long, Cause, ◌if◌, first, Outcome, settled_on}
use Rattle.answers.specs.Limits.{too_long}
use Rattle.piece_line.specs.State.{state_size, checking}
use Rattle.begin_state.specs.Begin.{first_state}
use Rattle.store.specs.Cipher.{Cipher}
use Rattle.key_record.specs.Record.{KeyRecord, is_empty, is_receiving}
use Rattle.store.specs.Store.{records, sound}
use Rattle.store.specs.Table.{get}

-- Those causes of an Open that the header and the lengths tell, then the running state's own length.
-- reading is what the header reads as, held the record that holds its KID; metadata, announced and state are lengths
unfoldable pub check_causes : (valid : Bool) (reading : Option Header) (held : KeyRecord) (metadata announced state : ℕ) → List Cause
check_causes valid reading held metadata announced state =
    (store_invalid if not valid)
    ∷ (header_invalid if eqb (read_number reading) header_invalid)
    ∷ (kid_missing if is_empty held)
    ∷ (role_refused if not (is_receiving held))
    ∷ (input_too_long if too_long announced metadata)
    ∷ (room_short if ltb state state_size)
    ∷ []

module _ (cipher : Cipher) where
  -- The state stands at the front of its own bytes, what is behind it stays. Nothing changes in the store: no window moves. The associated
  -- data is the header as it was received, then the metadata; bytes behind the header are passed over.
  unfoldable pub check_at : (valid : Bool) (reading : Option Header) (held : KeyRecord) (s metadata bytes : List ℕ) (announced : ℕ) (state : List ℕ) → Outcome
  check_at valid reading held s metadata bytes announced state =
      settled_on (first (check_causes valid reading held (length metadata) announced (length state))) s [] state
      (record { number = 0; written = 0; store = s; room = []; state = pasted state 0 (first_state cipher checking held (read_ctr reading) announced (take (read_length reading) bytes ++ metadata)) })

  unfoldable pub check_begin : (s metadata bytes : List ℕ) (announced : ℕ) (state : List ℕ) → Outcome
  check_begin s metadata bytes announced state =
      let reading = read_header bytes in
      check_at (sound s) reading (get (read_kid reading) (records s)) s metadata bytes announced state

-- SPDX-License-Identifier: MIT
-- Beginning to seal in pieces: number, length, store, room and running state afterwards, for every input. The causes of refusal
-- stand in the order in which they are tried.
-- Assumes nothing.
use Rattle.std.specs.Prelude.{Bool, List, [], ◌∷◌, ◌++◌, ℕ, ltb, length}
use Rattle.octets.specs.Octets.{pasted}
use Rattle.header.specs.Header.{header}
use Rattle.header.specs.Answers.{room_short}
use Rattle.answers.specs.Answers.{Cause, ◌if◌, first, Outcome, settled_on}
use Rattle.piece_line.specs.State.{state_size, sealing}
use Rattle.begin_state.specs.Begin.{first_state}
use Rattle.store.specs.Cipher.{Cipher}
use Rattle.key_record.specs.Record.{KeyRecord, counter_of, advanced}
use Rattle.store.specs.Store.{encode_all, records, sound}
use Rattle.store.specs.Table.{get, put}
use Rattle.judge_seal.specs.Seal.{seal_causes}

-- The causes of a Seal, with room for the header alone; then the running state's own length.
-- held is the record that holds the KID; metadata, announced, room and state are lengths
unfoldable pub begin_causes : (valid : Bool) (held : KeyRecord) (kid metadata announced room state : ℕ) → List Cause
begin_causes valid held kid metadata announced room state =
    seal_causes valid held metadata announced (length (header kid (counter_of held))) room ++ ((room_short if ltb state state_size) ∷ [])

module _ (cipher : Cipher) where
  -- The header stands at the front of the room and the state at the front of its own bytes, what is behind them stays, and the counter
  -- is used up, as it is by a Seal. The length that is answered is the header's. The associated data is the header, then the metadata.
  unfoldable pub begin_at : (valid : Bool) (held : KeyRecord) (rs : List KeyRecord) (s : List ℕ) (kid : ℕ) (metadata : List ℕ) (announced : ℕ) (state room : List ℕ) → Outcome
  begin_at valid held rs s kid metadata announced state room =
      let h = header kid (counter_of held) in
      settled_on (first (begin_causes valid held kid (length metadata) announced (length room) (length state))) s room state
      (record {
        number = 0;
        written = length h;
        store = encode_all (put kid (advanced held) rs);
        room = pasted room 0 h;
        state = pasted state 0 (first_state cipher sealing held (counter_of held) announced (h ++ metadata));
      })

  unfoldable pub seal_begin : (s : List ℕ) (kid : ℕ) (metadata : List ℕ) (announced : ℕ) (state room : List ℕ) → Outcome
  seal_begin s kid metadata announced state room = begin_at (sound s) (get kid (records s)) (records s) s kid metadata announced state room

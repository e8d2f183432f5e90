-- SPDX-License-Identifier: MIT
-- Sealing a frame: number, length, store and room afterwards, for every input. The causes of refusal stand in the order in
-- which they are tried.
-- Assumes nothing.
use Rattle.std.specs.Prelude.{Bool, not, List, [], ◌∷◌, ℕ, ◌+◌, ltb, eqb, length}
use Rattle.octets.specs.Octets.{pasted}
use Rattle.header.specs.Header.{header}
use Rattle.header.specs.Answers.{room_short}
use Rattle.answers.specs.Answers.{store_invalid, kid_missing, role_refused, counter_spent, input_too_long, Cause, ◌if◌, first, Outcome, settled}
use Rattle.answers.specs.Limits.{too_long}
use Rattle.store.specs.Cipher.{Cipher}
use Rattle.key_record.specs.Record.{ceiling, KeyRecord, is_empty, is_sending, suite_of, salt_of, key_of, counter_of, advanced}
use Rattle.store.specs.Store.{encode_all, records, sound}
use Rattle.key_record.specs.Suites.{tag_size}
use Rattle.store.specs.Table.{get, put}
use Rattle.judge_seal.specs.Frame.{frame}

-- The length of the frame that a sending record gives next: header, ciphertext, tag.
-- plaintext is a length
unfoldable pub next_length : (held : KeyRecord) (kid plaintext : ℕ) → ℕ
next_length held kid plaintext = length (header kid (counter_of held)) + (plaintext + tag_size (suite_of held))

-- held is the record that holds the KID; metadata, plaintext and room are lengths, needed is what the room must take
unfoldable pub seal_causes : (valid : Bool) (held : KeyRecord) (metadata plaintext needed room : ℕ) → List Cause
seal_causes valid held metadata plaintext needed room =
    (store_invalid if not valid)
    ∷ (kid_missing if is_empty held)
    ∷ (role_refused if not (is_sending held))
    ∷ (counter_spent if eqb (counter_of held) ceiling)
    ∷ (input_too_long if too_long plaintext metadata)
    ∷ (room_short if ltb room needed)
    ∷ []

-- The causes of a Seal: the room must take the offset and the whole frame together.
unfoldable pub causes_of_seal : (valid : Bool) (held : KeyRecord) (kid metadata plaintext offset room : ℕ) → List Cause
causes_of_seal valid held kid metadata plaintext offset room = seal_causes valid held metadata plaintext (offset + next_length held kid plaintext) room

module _ (cipher : Cipher) where
  -- The frame that a sending record gives next.
  unfoldable pub next_frame : (held : KeyRecord) (kid : ℕ) (metadata plaintext : List ℕ) → List ℕ
  next_frame held kid metadata plaintext = frame cipher (suite_of held) (key_of held) (salt_of held) kid (counter_of held) metadata plaintext

  -- The frame stands at the offset in the room, the bytes before it and behind it stay, and the counter is used up. The length that
  -- is answered is the frame's.
  unfoldable pub seal_at : (valid : Bool) (held : KeyRecord) (rs : List KeyRecord) (s : List ℕ) (kid : ℕ) (metadata plaintext : List ℕ) (offset : ℕ) (room : List ℕ) → Outcome
  seal_at valid held rs s kid metadata plaintext offset room =
      let f = next_frame held kid metadata plaintext in
      settled (first (causes_of_seal valid held kid (length metadata) (length plaintext) offset (length room))) s room
      (record { number = 0; written = length f; store = encode_all (put kid (advanced held) rs); room = pasted room offset f; state = [] })

  unfoldable pub seal : (s : List ℕ) (kid : ℕ) (metadata plaintext : List ℕ) (offset : ℕ) (room : List ℕ) → Outcome
  seal s kid metadata plaintext offset room = seal_at (sound s) (get kid (records s)) (records s) s kid metadata plaintext offset room

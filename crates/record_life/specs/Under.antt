-- SPDX-License-Identifier: MIT
-- What a Seal and a Begin make under a record, over any block function in the place of AES: RFC 9605, section 4.4.3. Assumes nothing.
use Rattle.std.specs.Prelude.{List, [], ◌++◌, ℕ}
use Rattle.header.specs.Header.{header}
use Rattle.suites.specs.Suites.{suite_of as named}
use Rattle.suites.specs.Derivation.{nonce}
use Rattle.piece_line.specs.State.{sealing}
use Rattle.key_record.specs.Suites.{with_suite}
use Rattle.key_record.specs.Record.{KeyRecord, suite_of, salt_of, key_of, counter_of}
use Rattle.cipher_inputs.specs.AnyCipher.{aes, aead_by, begun_by}

-- AES under the key of a record.
abbrev pub aes_under : (held : KeyRecord) → List ℕ → List ℕ
aes_under held b = with_suite [] (λ s. aes s (key_of held) b) (named (suite_of held))

module _ (F : List ℕ → List ℕ) where
  -- The next frame, and the state of the next line.
  unfoldable pub next_frame_by : (held : KeyRecord) (kid : ℕ) (metadata plaintext : List ℕ) → List ℕ
  next_frame_by held kid metadata plaintext =
      let h = header kid (counter_of held) in
      h
      ++ with_suite [] (λ s. aead_by F s (key_of held) (nonce (salt_of held) (counter_of held)) (h ++ metadata) plaintext) (named (suite_of held))

  unfoldable pub next_state_by : (held : KeyRecord) (kid : ℕ) (metadata : List ℕ) (n : ℕ) → List ℕ
  next_state_by held kid metadata n =
      with_suite []
      (λ s. begun_by F sealing s n (nonce (salt_of held) (counter_of held)) (key_of held) (header kid (counter_of held) ++ metadata)) (named (suite_of held))

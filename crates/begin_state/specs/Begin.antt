-- SPDX-License-Identifier: MIT
-- The running state that a line of calls begins with under a record of the store. Assumes nothing.
use Rattle.std.specs.Prelude.{List, [], ℕ}
use Rattle.suites.specs.Suites.{suite_of as named}
use Rattle.piece_line.specs.Line.{begun}
use Rattle.store.specs.Cipher.{Cipher}
use Rattle.key_record.specs.Suites.{with_suite}
use Rattle.key_record.specs.Record.{KeyRecord, suite_of, salt_of, key_of}

-- kind is that of the line, aad the associated data, announced the length of plaintext and ciphertext. A number that is no suite's gives
-- nothing; no record that obeys its row has one.
unfoldable pub first_state : (cipher : Cipher) (kind : ℕ) (held : KeyRecord) (ctr announced : ℕ) (aad : List ℕ) → List ℕ
first_state cipher kind held ctr announced aad =
    with_suite [] (λ s. begun kind s announced (cipher.nonce (salt_of held) ctr) (key_of held) aad) (named (suite_of held))

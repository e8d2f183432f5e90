-- SPDX-License-Identifier: MIT
-- The inputs of AES over a list of calls, under one KID: those of each sealing that is begun, at its beginning, with the record that the
-- store holds then, and that of the hash key where the record's life begins. A piece and an end list none.
-- Assumes nothing.
use Rattle.std.specs.Prelude.{Bool, List, [], ◌∷◌, ◌++◌, ℕ, eqb, length}
use Rattle.octets.specs.Octets.{pick, both}
use Rattle.answers.specs.Answers.{Outcome}
use Rattle.suites.specs.Suites.{mode_of, suite_of as named}
use Rattle.key_record.specs.Suites.{with_suite}
use Rattle.key_record.specs.Record.{KeyRecord, empty, sending, receiving, retired, suite_of, salt_of, counter_of}
use Rattle.key_record.specs.declared.Role.{Role}
use Rattle.key_record.specs.declared.Role.TheVariants.{Sending, Receiving}
use Rattle.store.specs.Cipher.{Cipher}
use Rattle.store.specs.Store.{records}
use Rattle.store.specs.Table.{get}
use Rattle.sframe.specs.History.{Call, Add, Remove, Seal, Open, Report, Find, ChangeEpoch, Begin, Piece, End, CheckBegin, CheckPiece, CheckEnd, History, outcome, step}
use Rattle.cipher_inputs.specs.Inputs.{key_inputs, sealing_inputs}

-- The hash key of a suite, by number.
unfoldable pub hash_key_inputs : (suite : ℕ) → List (List ℕ)
hash_key_inputs suite = with_suite [] (λ s. key_inputs (mode_of s)) (named suite)

-- That of a record that a store holds: only a sending one seals.
abbrev pub held_inputs : KeyRecord → List (List ℕ)
held_inputs empty = []
held_inputs (sending r) = hash_key_inputs r.suite
held_inputs (receiving r w) = []
held_inputs (retired r) = []

-- That of a key just added.
abbrev pub added_inputs : (role : Role) (suite : ℕ) → List (List ℕ)
added_inputs Sending suite = hash_key_inputs suite
added_inputs Receiving suite = []

-- What is listed under kid by a call with the KID k that answered n.
abbrev pub listed : (n k kid : ℕ) (l : List (List ℕ)) → List (List ℕ)
listed n k kid l = pick (both (eqb n 0) (eqb k kid)) l []

module _ (cipher : Cipher) where
  -- A sealing of n bytes that is begun under a record.
  unfoldable pub begun_inputs : (held : KeyRecord) (n : ℕ) → List (List ℕ)
  begun_inputs held n =
      with_suite [] (λ s. sealing_inputs (mode_of s) (cipher.nonce (salt_of held) (counter_of held)) n) (named (suite_of held))

  -- A call on the store s that answered the number n.
  unfoldable pub call_inputs : (kid : ℕ) (c : Call) (s : List ℕ) (n : ℕ) → List (List ℕ)
  call_inputs kid (Add role k suite base) s n = listed n k kid (added_inputs role suite)
  call_inputs kid (Remove k place) s n = []
  call_inputs kid (Seal k place metadata plaintext offset room) s n = listed n k kid (begun_inputs (get k (records s)) (length plaintext))
  call_inputs kid (Open place metadata frame room) s n = []
  call_inputs kid (Report k) s n = []
  call_inputs kid (Find k) s n = []
  call_inputs kid (ChangeEpoch width bits) s n = []
  call_inputs kid (Begin k metadata announced state room) s n = listed n k kid (begun_inputs (get k (records s)) announced)
  call_inputs kid (Piece line piece room) s n = []
  call_inputs kid (End line room) s n = []
  call_inputs kid (CheckBegin metadata header announced state) s n = []
  call_inputs kid (CheckPiece state piece) s n = []
  call_inputs kid (CheckEnd state tag) s n = []

  -- The calls of a list, the first of them first.
  unfoldable pub life_inputs : (kid : ℕ) (cs : List Call) (h : History) → List (List ℕ)
  life_inputs kid [] h = []
  life_inputs kid (c ∷ cs) h =
      call_inputs kid c h.store (outcome cipher c h.store h.log).number ++ life_inputs kid cs (step cipher c h)

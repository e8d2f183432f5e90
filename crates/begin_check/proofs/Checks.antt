-- SPDX-License-Identifier: MIT
-- What beginning to check in pieces does. Assumes nothing.
use Rattle.std.specs.Prelude.{Option}
use mathlib.Core.Path.{◌≡◌, refl, ap₂}
use mathlib.Core.Bool.{Bool, true}
use mathlib.Core.List.{List, [], ◌++◌}
use Prim.Native.Nat.{ℕ}
use lib.ListN.{length, take}
use Rattle.octets.specs.Octets.{pasted}
use Rattle.header.specs.Header.{read_header}
use Rattle.header.specs.Answers.{read_kid, read_ctr, read_length}
use Rattle.header.specs.declared.Header.{Header}
use Rattle.answers.specs.Answers.{first, Outcome}
use Rattle.answers.proofs.Basics.{RefusalOn, settled-on-store}
use Rattle.piece_line.specs.State.{checking}
use Rattle.store.specs.Cipher.{Cipher}
use Rattle.key_record.specs.Record.{KeyRecord}
use Rattle.store.specs.Store.{records, sound}
use Rattle.store.specs.Table.{get}
use Rattle.store.proofs.Stores.{Stored, stored-sound, stored-records}
use Rattle.begin_state.specs.Begin.{first_state}
use Rattle.begin_state.proofs.Refused.{refused-on}
use Rattle.begin_check.specs.Check.{check_causes, check_at, check_begin}

-- what a beginning that answers 0 leaves
unfoldable pub success : (cipher : Cipher) (reading : Option Header) (held : KeyRecord) (s metadata bytes : List ℕ) (announced : ℕ) (state : List ℕ) → Outcome
success cipher reading held s metadata bytes announced state =
    record { number = 0; written = 0; store = s; room = []; state = pasted state 0 (first_state cipher checking held (read_ctr reading) announced (take (read_length reading) bytes ++ metadata)) }

-- the store stays, whatever is answered
at_store : (cipher : Cipher) (valid : Bool) (reading : Option Header) (held : KeyRecord) (s metadata bytes : List ℕ) (announced : ℕ) (state : List ℕ) → (check_at cipher valid reading held s metadata bytes announced state).store ≡ s
unfolding check_at success
at_store cipher valid reading held s metadata bytes announced state =
    settled-on-store (first (check_causes valid reading held (length metadata) announced (length state))) s [] state (success cipher reading held s metadata bytes announced state) refl

pub check-store : (cipher : Cipher) (s metadata bytes : List ℕ) (announced : ℕ) (state : List ℕ) → (check_begin cipher s metadata bytes announced state).store ≡ s
unfolding check_begin
check-store cipher s metadata bytes announced state = at_store cipher (sound s) (read_header bytes) (get (read_kid (read_header bytes)) (records s)) s metadata bytes announced state

-- one that is refused changes nothing, on any store
at-refused : (cipher : Cipher) (valid : Bool) (reading : Option Header) (held : KeyRecord) (s metadata bytes : List ℕ) (announced : ℕ) (state : List ℕ)
    → ((check_at cipher valid reading held s metadata bytes announced state).number ≡ 0 → ⊥)
    → RefusalOn (check_at cipher valid reading held s metadata bytes announced state).number s [] state (check_at cipher valid reading held s metadata bytes announced state)
unfolding check_at success
at-refused cipher valid reading held s metadata bytes announced state d =
    refused-on (first (check_causes valid reading held (length metadata) announced (length state))) s [] state (success cipher reading held s metadata bytes announced state) refl d

pub check-begin-refused : (cipher : Cipher) (s metadata bytes : List ℕ) (announced : ℕ) (state : List ℕ) → ((check_begin cipher s metadata bytes announced state).number ≡ 0 → ⊥)
    → RefusalOn (check_begin cipher s metadata bytes announced state).number s [] state (check_begin cipher s metadata bytes announced state)
unfolding check_begin
check-begin-refused cipher s metadata bytes announced state d = at-refused cipher (sound s) (read_header bytes) (get (read_kid (read_header bytes)) (records s)) s metadata bytes announced state d

-- on a store that is a table
module _ (cipher : Cipher) (s : List ℕ) (rs : List KeyRecord) (t : Stored s rs) (metadata bytes : List ℕ) (announced : ℕ) (state : List ℕ) where
  pub check-on : check_begin cipher s metadata bytes announced state ≡ check_at cipher true (read_header bytes) (get (read_kid (read_header bytes)) rs) s metadata bytes announced state
  unfolding check_begin
  check-on =
      ap₂ (λ (v : Bool) (x : List KeyRecord). check_at cipher v (read_header bytes) (get (read_kid (read_header bytes)) x) s metadata bytes announced state) (stored-sound s rs t) (stored-records s rs t)

-- SPDX-License-Identifier: MIT
-- The theorems of the sealing of MoQ objects, over the definitions that its calls are proved to follow. Each statement's words stand in
-- specs/Promises.
-- Assumes nothing.
use mathlib.Core.Path.{◌≡◌}
use mathlib.Core.Bool.{true}
use mathlib.Core.List.{List}
use Prim.Native.Nat.{ℕ}
use Rattle.octets.specs.Octets.{Octets}
use Rattle.suites.specs.declared.sizes.Suite.{Suite}
use Rattle.track_record.specs.Record.{TrackId}
use Rattle.tracks.specs.Calls.{make}
use Rattle.tracks.specs.Tracks.{sound}
use Rattle.moq.specs.History.{Call, Typed, AllTyped, outcome, run, start}
use Rattle.moq.specs.Promises.{Unchanged, Openable, OpensExactly, Kept, NeverAgain}
use Rattle.moq.proofs.Ledger.{run-keeps, start-keeps}
use Rattle.moq.proofs.Objects.{kept, fresh-never}
use Rattle.moq.proofs.Opens.{opens-exactly}
use Rattle.moq.proofs.Soundness.{made-sound, call-sound, refusal-changes-nothing}

-- Every list of calls, refused ones included, on the track store that a Make answering 0 leaves, at any length that it accepts: under one
-- name and Key ID its sealed objects have different pairs and use different nonces, each was sealed under the one Add for sending of its
-- track, and each is opened under its name, Key ID and pair by every sound track store that holds its key.
pub every-track : (s : List ℕ) → (make s).number ≡ 0 → (calls : List Call) → AllTyped calls → Kept (run calls (start s)).log
every-track s made calls typed = let i = run-keeps calls (start s) typed (start-keeps s made) in kept (run calls (start s)).log i.account.objects

-- Over every such list, no track is added twice, whatever became of it in between.
pub added-once : (s : List ℕ) → (make s).number ≡ 0 → (calls : List Call) → AllTyped calls → NeverAgain (run calls (start s)).log
added-once s made calls typed = let i = run-keeps calls (start s) typed (start-keeps s made) in fresh-never (run calls (start s)).log i.account.fresh-adds

-- Opening succeeds exactly when the bytes are the draft's encryption of some plaintext, and yields that plaintext.
pub object-exact : (suite : Suite) (id : TrackId) (salt key : List ℕ) (group object : ℕ) (properties s bytes room : List ℕ)
    → Openable suite id salt key group object properties s bytes room → OpensExactly suite id salt key group object properties s bytes room
object-exact = opens-exactly

-- Every call leaves a sound track store sound.
pub tracks-stay-sound : (c : Call) (s : List ℕ) → Typed c → Octets s → sound s ≡ true → Octets (outcome c s).store × (sound (outcome c s).store ≡ true)
tracks-stay-sound = call-sound

-- A track store that is made is sound.
pub tracks-made : (s : List ℕ) → (make s).number ≡ 0 → Octets (make s).store × (sound (make s).store ≡ true)
tracks-made = made-sound

-- A refused call changes nothing, on any store.
pub tracks-unchanged : (c : Call) (s : List ℕ) → ((outcome c s).number ≡ 0 → ⊥) → Unchanged c s (outcome c s)
tracks-unchanged = refusal-changes-nothing

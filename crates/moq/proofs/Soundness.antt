-- SPDX-License-Identifier: MIT
-- A track store that is made is sound, every call leaves a sound one sound, and a refusal changes nothing. Assumes nothing.
use mathlib.Core.Path.{◌≡◌, refl}
use mathlib.Core.Bool.{true}
use mathlib.Core.List.{List, []}
use Prim.Native.Nat.{ℕ, zero, suc}
use lib.ListN.{replicate}
use Rattle.octets.specs.Octets.{Octets}
use Rattle.answers.specs.Answers.{Outcome, settled}
use Rattle.track_record.specs.Record.{TrackRecord, empty}
use Rattle.tracks.specs.Calls.{make, remove, remove_at}
use Rattle.tracks.specs.Tracks.{records, sound}
use Rattle.tracks.proofs.Changes.{Made, make-stored, RemoveStep, remove-step}
use Rattle.tracks.proofs.Stores.{Stored, sound-stored, stored-sound, stored-octets}
use Rattle.add_track.specs.Add.{add, add_at}
use Rattle.add_track.proofs.Adds.{AddStep, add_step}
use Rattle.seal_object.specs.Seal.{seal, seal_at}
use Rattle.seal_object.proofs.Sealings.{SealStep, seal-step}
use Rattle.open_object.specs.Open.{opening, open_at}
use Rattle.moq.specs.History.{Call, Add, Remove, Seal, Open, Typed, outcome}
use Rattle.moq.specs.Promises.{Unchanged}
use Rattle.moq.proofs.Ledger.{open-store}

-- bytes that are a table are a sound store
sound-bytes : (s : List ℕ) (rs : List TrackRecord) → Stored s rs → Octets s × (sound s ≡ true)
sound-bytes s rs t = (stored-octets s rs t, stored-sound s rs t)

pub made-sound : (s : List ℕ) → (make s).number ≡ 0 → Octets (make s).store × (sound (make s).store ≡ true)
made-sound s e = let m = make-stored s e in sound-bytes (make s).store (replicate m.count empty) m.is-stored

pub call-sound : (c : Call) (s : List ℕ) → Typed c → Octets s → sound s ≡ true → Octets (outcome c s).store × (sound (outcome c s).store ≡ true)
unfolding outcome
call-sound (Add role id suite base) s q o e = by (add s role id suite base) (add_step s (records s) (sound-stored s o e) role id suite base q.0.1 q.0.0)
  where
    by : (x : Outcome) → AddStep s (records s) role id suite base x → Octets x.store × (sound x.store ≡ true)
    by x (AddStep.done f p) = sound-bytes x.store _ p.store_is
    by x (AddStep.refused d p) = rw p (o, e)
call-sound (Remove id) s q o e = by (remove s id) (remove-step s (records s) (sound-stored s o e) id)
  where
    by : (x : Outcome) → RemoveStep s (records s) id x → Octets x.store × (sound x.store ≡ true)
    by x (RemoveStep.done z n c t) = sound-bytes x.store _ t
    by x (RemoveStep.refused d p) = rw p (o, e)
call-sound (Seal id group object properties plaintext room) s q o e =
    by (seal s id group object properties plaintext room) (seal-step s (records s) (sound-stored s o e) id group object properties plaintext room q.1)
  where
    by : (x : Outcome) → SealStep s (records s) id group object properties plaintext x → Octets x.store × (sound x.store ≡ true)
    by x (SealStep.done t p) = sound-bytes x.store _ p.store_is
    by x (SealStep.refused d p) = rw p (o, e)
call-sound (Open id group object properties bytes room) s q o e = rw (open-store s id group object properties bytes room) (o, e)

-- ---- refusals

unchanged : (n : ℕ) (s room : List ℕ) (o : Outcome) → o.number ≡ 0 → ((settled n s room o).number ≡ 0 → ⊥)
    → ((settled n s room o).written ≡ 0) × ((settled n s room o).store ≡ s) × ((settled n s room o).room ≡ room)
unfolding settled
unchanged zero s room o z d = absurd (d z)
unchanged (suc n) s room o z d = (refl, refl, refl)

-- of any store, sound or not
pub refusal-changes-nothing : (c : Call) (s : List ℕ) → ((outcome c s).number ≡ 0 → ⊥) → Unchanged c s (outcome c s)
unfolding outcome add add_at remove remove_at seal seal_at opening open_at
refusal-changes-nothing (Add role id suite base) s d = let u = unchanged _ s [] _ refl d in record { nothing_written = u.0; store-stays = u.1; room-stays = u.2 }
refusal-changes-nothing (Remove id) s d = let u = unchanged _ s [] _ refl d in record { nothing_written = u.0; store-stays = u.1; room-stays = u.2 }
refusal-changes-nothing (Seal id group object properties plaintext room) s d = let u = unchanged _ s room _ refl d in record { nothing_written = u.0; store-stays = u.1; room-stays = u.2 }
refusal-changes-nothing (Open id group object properties bytes room) s d = let u = unchanged _ s room _ refl d in record { nothing_written = u.0; store-stays = u.1; room-stays = u.2 }

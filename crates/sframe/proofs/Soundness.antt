-- SPDX-License-Identifier: MIT
-- A store that is made is sound, every call leaves a sound store sound, and a refusal changes nothing. Assumes nothing.
use mathlib.Core.Path.{◌≡◌, refl, sym, ◌∙◌, ap}
use mathlib.Core.Bool.{Bool, true}
use mathlib.Core.List.{List, []}
use Prim.Native.Nat.{ℕ, zero, suc, ◌/◌}
use lib.ListN.{length, replicate}
use Rattle.octets.specs.Octets.{Octets, pick}
use Rattle.answers.specs.Answers.{Outcome, settled}
use Rattle.answers.proofs.Basics.{RefusalOn}
use Rattle.pieces.specs.Calls.{Result, refusal, seal_piece, seal_end, check_piece}
use Rattle.store_calls.specs.Calls.{make, remove_at, remove, find}
use Rattle.add_key.specs.Add.{add_at, add}
use Rattle.store.specs.Cipher.{Cipher}
use Rattle.key_record.specs.Record.{KeyRecord, empty}
use Rattle.store.specs.Store.{records, sound}
use Rattle.store.specs.Table.{get}
use Rattle.store.proofs.CipherLaws.{Laws}
use Rattle.store_calls.proofs.Keys.{make-stored, RemoveStep, remove-step, find-store}
use Rattle.add_key.proofs.Adds.{AddStep, add_step}
use Rattle.store.proofs.Stores.{Stored, sound-stored, stored-sound, stored-records, stored-octets, stored-lengths}
use Rattle.judge_seal.specs.Seal.{seal_at, seal}
use Rattle.begin_seal.specs.Begin.{seal_begin}
use Rattle.begin_seal.proofs.Begins.{begin-refused, BeginStep, begin-step}
use Rattle.begin_check.proofs.Checks.{check-store, check-begin-refused}
use Rattle.judge_open.specs.Open.{open_at, opening}
use Rattle.judge_open.proofs.Opened.{OpenStep, open_step}
use Rattle.report_window.specs.Report.{report}
use Rattle.header.specs.Answers.{read_kid, read_ctr}
use Rattle.header.specs.Header.{read_header}
use Rattle.change_epoch.specs.Epoch.{without_epoch, epoch_at, change_epoch}
use Rattle.change_epoch.proofs.Epochs.{EpochStep, epoch-step}
use Rattle.sframe.specs.Promises.{Unchanged, EpochChanged}
use Rattle.sframe.specs.History.{Call, Add, Remove, Seal, Open, Report, Find, ChangeEpoch, Begin, Piece, End, CheckBegin, CheckPiece, CheckEnd, Typed, room_of, state_of, Event, state_on, beside, outcome}
use Rattle.report_window.proofs.Reports.{report-store}
use Rattle.sframe.proofs.Refusals.{piece-refused, end_refused, check-refused}
use Rattle.judge_seal.proofs.Seals.{SealStep, seal-step}

-- bytes that are a table are a sound store
sound-bytes : (s : List ℕ) (rs : List KeyRecord) → Stored s rs → Octets s × (sound s ≡ true)
sound-bytes s rs t = (stored-octets s rs t, stored-sound s rs t)

pub made-sound : (s : List ℕ) → (make s).number ≡ 0 → Octets (make s).store × (sound (make s).store ≡ true)
made-sound s e = let m = make-stored s e in sound-bytes (make s).store (replicate m.count empty) m.is-stored

module _ (cipher : Cipher) (laws : Laws cipher) where
  pub call-sound : (c : Call) (s : List ℕ) (log : List Event) → Typed c → Octets s → sound s ≡ true → Octets (outcome cipher c s log).store × (sound (outcome cipher c s log).store ≡ true)
  unfolding outcome
  call-sound (Add role kid suite base) s log q o e = by (add cipher s role kid suite base) (add_step cipher laws s (records s) (sound-stored s o e) role kid suite base q.0 q.1)
    where
      by : (x : Outcome) → AddStep cipher s (records s) role kid suite base x → Octets x.store × (sound x.store ≡ true)
      by x (AddStep.done z k a f c t) = sound-bytes x.store _ t
      by x (AddStep.refused d p) = rw p (o, e)
  call-sound (Remove kid place) s log q o e = by (remove s kid) (remove-step s (records s) (sound-stored s o e) kid)
    where
      by : (x : Outcome) → RemoveStep s (records s) kid x → Octets x.store × (sound x.store ≡ true)
      by x (RemoveStep.freed r w z g c t) = sound-bytes x.store _ t
      by x (RemoveStep.closed r z g c t) = sound-bytes x.store _ t
      by x (RemoveStep.refused d p) = rw p (o, e)
  call-sound (Seal kid place metadata plaintext offset room) s log q o e =
      by (seal cipher s kid metadata plaintext offset room) (seal-step cipher laws s (records s) (sound-stored s o e) kid metadata plaintext offset room)
    where
      by : (x : Outcome) → SealStep cipher s (records s) kid metadata plaintext offset x → Octets x.store × (sound x.store ≡ true)
      by x (SealStep.done r p) = sound-bytes x.store _ p.store_is
      by x (SealStep.refused d p) = rw p (o, e)
  call-sound (Open place metadata bytes room) s log q o e = by (opening cipher s metadata bytes room) (open_step cipher s (records s) (sound-stored s o e) metadata bytes room q.1)
    where
      by : (x : Outcome) → OpenStep s (records s) (read_kid (read_header bytes)) (read_ctr (read_header bytes)) x → Octets x.store × (sound x.store ≡ true)
      by x (OpenStep.done r w p) = sound-bytes x.store _ p.store_is
      by x (OpenStep.refused d p) = rw p (o, e)
  call-sound (Report kid) s log q o e = rw (report-store s kid) (o, e)
  call-sound (Find kid) s log q o e = rw (find-store s kid) (o, e)
  call-sound (ChangeEpoch width bits) s log q o e = by (change_epoch s width bits) (epoch-step width bits s (records s) (sound-stored s o e))
    where
      by : (x : Outcome) → EpochStep width bits s (records s) x → Octets x.store × (sound x.store ≡ true)
      by x (EpochStep.done z c t) = sound-bytes x.store _ t
      by x (EpochStep.refused d p) = rw p (o, e)
  call-sound (Begin kid metadata announced state room) s log q o e =
      by (seal_begin cipher s kid metadata announced state room) (begin-step cipher s (records s) (sound-stored s o e) kid metadata announced state room)
    where
      by : (x : Outcome) → BeginStep cipher s (records s) kid metadata announced state x → Octets x.store × (sound x.store ≡ true)
      by x (BeginStep.done r p) = sound-bytes x.store _ p.store_is
      by x (BeginStep.refused d p) = rw p (o, e)
  call-sound (Piece line piece room) s log q o e = (o, e)
  call-sound (End line room) s log q o e = (o, e)
  call-sound (CheckBegin metadata header announced state) s log q o e = rw (check-store cipher s metadata header announced state) (o, e)
  call-sound (CheckPiece state piece) s log q o e = (o, e)
  call-sound (CheckEnd state tag) s log q o e = (o, e)

-- ---- refusals

-- a call without a running state, one with a running state, and one on a running state alone
refused-settled : (c : Call) (log : List Event) (n : ℕ) (s : List ℕ) (o : Outcome) → state_of c log ≡ [] → o.number ≡ 0 → ((settled n s (room_of c) o).number ≡ 0 → ⊥) → Unchanged c s log (settled n s (room_of c) o)
unfolding settled
refused-settled c log zero s o e z d = absurd (d z)
refused-settled c log (suc n) s o e z d = record { nothing_written = refl; store-stays = refl; room-stays = refl; state-stays = sym e }

refused-on : (c : Call) (log : List Event) (n : ℕ) (s : List ℕ) (o : Outcome) → RefusalOn n s (room_of c) (state_of c log) o → Unchanged c s log o
refused-on c log n s o r = record { nothing_written = r.nothing_written; store-stays = r.store-stays; room-stays = r.room-stays; state-stays = r.state-stays }

refused-beside : (c : Call) (log : List Event) (s : List ℕ) (r : Result) → (r.number ≡ 0 → ⊥) → r ≡ refusal r.number (state_of c log) (room_of c) → Unchanged c s log (beside s r)
refused-beside c log s r d e = record {
  nothing_written = ap (λ (x : Result). x.written) e;
  store-stays = refl;
  room-stays = ap (λ (x : Result). x.room) e;
  state-stays = ap (λ (x : Result). x.state) e;
}

-- of any store, sound or not, after any events
pub refusal-changes-nothing : (cipher : Cipher) (c : Call) (s : List ℕ) (log : List Event) → ((outcome cipher c s log).number ≡ 0 → ⊥) → Unchanged c s log (outcome cipher c s log)
unfolding outcome add add_at remove remove_at seal seal_at opening open_at report find change_epoch epoch_at
refusal-changes-nothing cipher (Add role kid suite base) s log d = refused-settled (Add role kid suite base) log _ s _ refl refl d
refusal-changes-nothing cipher (Remove kid place) s log d = refused-settled (Remove kid place) log _ s _ refl refl d
refusal-changes-nothing cipher (Seal kid place metadata plaintext offset room) s log d = refused-settled (Seal kid place metadata plaintext offset room) log _ s _ refl refl d
refusal-changes-nothing cipher (Open place metadata bytes room) s log d = refused-settled (Open place metadata bytes room) log _ s _ refl refl d
refusal-changes-nothing cipher (Report kid) s log d = refused-settled (Report kid) log _ s _ refl refl d
refusal-changes-nothing cipher (Find kid) s log d = refused-settled (Find kid) log _ s _ refl refl d
refusal-changes-nothing cipher (ChangeEpoch width bits) s log d = refused-settled (ChangeEpoch width bits) log _ s _ refl refl d
refusal-changes-nothing cipher (Begin kid metadata announced state room) s log d = refused-on (Begin kid metadata announced state room) log _ s _ (begin-refused cipher s kid metadata announced state room d)
refusal-changes-nothing cipher (Piece line piece room) s log d = refused-beside (Piece line piece room) log s (seal_piece (state_on line log) piece room) d (piece-refused (state_on line log) piece room d)
refusal-changes-nothing cipher (End line room) s log d = refused-beside (End line room) log s (seal_end (state_on line log) room) d (end_refused (state_on line log) room d)
refusal-changes-nothing cipher (CheckBegin metadata header announced state) s log d = refused-on (CheckBegin metadata header announced state) log _ s _ (check-begin-refused cipher s metadata header announced state d)
refusal-changes-nothing cipher (CheckPiece state piece) s log d = refused-beside (CheckPiece state piece) log s (check_piece state piece) d (check-refused state piece d)
refusal-changes-nothing cipher (CheckEnd state tag) s log d = record { nothing_written = refl; store-stays = refl; room-stays = refl; state-stays = refl }

-- ---- a change of epoch

pub epoch-changes : (s : List ℕ) (width bits : ℕ) → Octets s → sound s ≡ true → (change_epoch s width bits).number ≡ 0 → EpochChanged s width bits (change_epoch s width bits)
epoch-changes s width bits o e z = by (change_epoch s width bits) z (epoch-step width bits s (records s) (sound-stored s o e))
  where
    by : (x : Outcome) → x.number ≡ 0 → EpochStep width bits s (records s) x → EpochChanged s width bits x
    by x z (EpochStep.refused d p) = absurd (d z)
    by x z (EpochStep.done y c t) =
        let r = stored-records x.store (without_epoch width bits (records s)) t in
        record {
          length-stays = stored-lengths x.store s (without_epoch width bits (records s)) (records s) t (sound-stored s o e) c.same_length;
          gone = λ kid h. ap (get kid) r ∙ c.found kid ∙ ap (λ (b : Bool). pick b empty (get kid (records s))) h;
          stays = λ kid h. ap (get kid) r ∙ c.found kid ∙ ap (λ (b : Bool). pick b empty (get kid (records s))) h;
        }

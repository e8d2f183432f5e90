-- SPDX-License-Identifier: MIT
-- Each call, and the record of a KID. Assumes nothing.
use mathlib.Core.Path.{◌≡◌, refl, sym, ◌∙◌, ap}
use mathlib.Core.Bool.{Bool, true, false, false≢true}
use mathlib.Core.List.{List, [], ◌∷◌, ◌++◌}
use Prim.Native.Nat.{ℕ}
use lib.Dec.{eqb}
use lib.ListN.{length}
use borrow.Author.Tests.{eq-eqb, ne_eqb, eqb-true, eqb-false}
use Rattle.octets.specs.Octets.{pick, both}
use Rattle.header.specs.Answers.{read_kid, read_ctr}
use Rattle.header.specs.Header.{read_header}
use Rattle.answers.specs.Answers.{Outcome}
use Rattle.answers.proofs.Basics.{Two, yes', no', two}
use Rattle.key_record.specs.Record.{KeyRecord, SendingKey, ReceivingKey, empty, sending, receiving, retired, is_receiving}
use Rattle.key_record.specs.Inner.Rows.{kept}
use Rattle.key_record.specs.declared.Role.{Role}
use Rattle.key_record.specs.declared.Role.TheVariants.{Sending, Receiving}
use Rattle.window.specs.Window.{moved}
use Rattle.store_calls.specs.Calls.{remove, find}
use Rattle.store.specs.Cipher.{Cipher}
use Rattle.store.specs.Store.{records}
use Rattle.store.specs.Table.{get, put, insert, without}
use Rattle.store.proofs.CipherLaws.{Laws}
use Rattle.store_calls.proofs.Keys.{RemoveStep, remove-step, find-store}
use Rattle.store.proofs.Stores.{Stored, Change, stored-records}
use Rattle.add_key.specs.Add.{add, added as added_record}
use Rattle.add_key.proofs.Adds.{AddStep, add_step}
use Rattle.judge_seal.specs.Seal.{seal}
use Rattle.judge_seal.proofs.Seals.{next, SealStep, seal-step}
use Rattle.begin_seal.specs.Begin.{seal_begin}
use Rattle.begin_seal.proofs.Begins.{BeginStep, begin-step}
use Rattle.begin_check.proofs.Checks.{check-store}
use Rattle.judge_open.specs.Open.{opening}
use Rattle.judge_open.proofs.Opened.{OpenStep, open_step}
use Rattle.report_window.specs.Report.{report}
use Rattle.report_window.proofs.Reports.{report-store}
use Rattle.change_epoch.specs.Epoch.{of_epoch, without_epoch, change_epoch}
use Rattle.change_epoch.proofs.Epochs.{Swept, epoch-receives, EpochStep, epoch-step}
use Rattle.sframe.specs.History.{Call, Add, Remove, Seal, Open, Report, Find, ChangeEpoch, Begin, Piece, End, CheckBegin, CheckPiece, CheckEnd, Typed, Event, outcome}
use Rattle.record_life.specs.Life.{hash_key_inputs, added_inputs, listed, begun_inputs, call_inputs}
use Rattle.record_life.proofs.Lives.{Idle, Moves, same, begins, starts, closes, idles}

-- what a call leaves: the table of its store, and the move of the record of kid
pub record Next (cipher : Cipher) (kid : ℕ) (rs : List KeyRecord) (s : List ℕ) (l : List (List ℕ)) : Type 0 where
  pub table : List KeyRecord
  pub is-stored : Stored s table
  pub moves : Moves cipher (get kid rs) (get kid table) l

-- ---- what is listed

listed-none : (n k kid : ℕ) (l : List (List ℕ)) → (n ≡ 0 → ⊥) → listed n k kid l ≡ []
listed-none n k kid l d = rw (ne_eqb n 0 d)

listed-other : (n k kid : ℕ) (l : List (List ℕ)) → n ≡ 0 → eqb k kid ≡ false → listed n k kid l ≡ []
listed-other n k kid l e t = rw (eq-eqb n 0 e, t)

listed-all : (n k kid : ℕ) (l : List (List ℕ)) → n ≡ 0 → eqb k kid ≡ true → listed n k kid l ≡ l
listed-all n k kid l e t = rw (eq-eqb n 0 e, t)

-- ---- calls that leave the store

module _ (cipher : Cipher) (kid : ℕ) (s : List ℕ) (rs : List KeyRecord) (st : Stored s rs) where
  -- a call after which the store is as it was, and that lists nothing
  stays : (t : List ℕ) (l : List (List ℕ)) → t ≡ s → l ≡ [] → Next cipher kid rs t l
  stays t l e p = record { table = rs; is-stored = rw e st; moves = same refl p }

  -- a call after which the record of k is another
  changes : (t : List ℕ) (k : ℕ) (new : KeyRecord) (rs' : List KeyRecord) (l : List (List ℕ)) → Change k new rs rs' → Stored t rs' → (eqb k kid ≡ false → l ≡ [])
      → (eqb k kid ≡ true → Moves cipher (get k rs) new l) → Next cipher kid rs t l
  changes t k new rs' l c st' none moves = by (two (eqb k kid))
    where
      by : Two (eqb k kid) → Next cipher kid rs t l
      by (yes' b) = let e = eqb-true k kid b in record { table = rs'; is-stored = st'; moves = rw (← e) (rw c.at-kid (moves b)) }
      by (no' b) = record { table = rs'; is-stored = st'; moves = same (c.elsewhere kid (λ e. eqb-false k kid b (sym e))) (none b) }

  swept : (t : List ℕ) (E bits : ℕ) (rs' : List KeyRecord) → Swept E bits rs rs' → Stored t rs' → Next cipher kid rs t []
  swept t E bits rs' c st' = record { table = rs'; is-stored = st'; moves = by (two (of_epoch E bits (get kid rs))) }
    where
      receives-idle : (r : KeyRecord) → is_receiving r ≡ true → Idle r
      receives-idle empty e = tt
      receives-idle (sending r) e = absurd (false≢true e)
      receives-idle (receiving r w) e = tt
      receives-idle (retired r) e = absurd (false≢true e)

      by : Two (of_epoch E bits (get kid rs)) → Moves cipher (get kid rs) (get kid rs') []
      by (yes' b) = idles (receives-idle (get kid rs) (epoch-receives E bits (get kid rs) b)) (rw (c.found kid, b) tt) refl
      by (no' b) = same (c.found kid ∙ rw b) refl

  -- ---- each call

  module _ (laws : Laws cipher) where
    -- the sealing that is begun is listed with the record that is held
    begun-as : (k n : ℕ) (held : KeyRecord) → get k rs ≡ held → begun_inputs cipher (get k (records s)) n ≡ begun_inputs cipher held n
    begun-as k n held e = ap (λ (x : KeyRecord). begun_inputs cipher x n) (ap (get k) (stored-records s rs st) ∙ e)

    added-moves : (role : Role) (k suite : ℕ) (base : List ℕ) → get k rs ≡ empty → (l : List (List ℕ)) → l ≡ added_inputs role suite → Moves cipher (get k rs) (added_record cipher role k suite base) l
    unfolding added_record
    added-moves Sending k suite base e l p = starts (record { suite = suite; kid = k; counter = 0; salt = cipher.salt suite base k; key = cipher.key suite base k }) e refl p
    added-moves Receiving k suite base e l p = idles (rw e tt) tt p

    pub call-moves : (c : Call) (log : List Event) → Typed c → Next cipher kid rs (outcome cipher c s log).store (call_inputs cipher kid c s (outcome cipher c s log).number)
    unfolding outcome call_inputs
    call-moves (Add role k suite base) log q = by (add cipher s role k suite base) (add_step cipher laws s rs st role k suite base q.0 q.1)
      where
        by : (o : Outcome) → AddStep cipher s rs role k suite base o → Next cipher kid rs o.store (listed o.number k kid (added_inputs role suite))
        by o (AddStep.refused d e) = stays o.store _ e (listed-none o.number k kid _ d)
        by o (AddStep.done z known allowed free c t) =
            changes o.store k (added_record cipher role k suite base) (insert (added_record cipher role k suite base) rs) _ c t (listed-other o.number k kid _ z)
            (λ b. added-moves role k suite base free _ (listed-all o.number k kid _ z b))
    call-moves (Remove k place) log q = by (remove s k) (remove-step s rs st k)
      where
        by : (o : Outcome) → RemoveStep s rs k o → Next cipher kid rs o.store []
        by o (RemoveStep.refused d e) = stays o.store [] e refl
        by o (RemoveStep.freed r w z g c t) = changes o.store k empty (without k rs) [] c t (λ b. refl) (λ b. idles (rw g tt) tt refl)
        by o (RemoveStep.closed r z g c t) = changes o.store k (kept (sending r)) (put k (kept (sending r)) rs) [] c t (λ b. refl) (λ b. closes r _ g refl refl)
    call-moves (Seal k place metadata plaintext offset room) log q = by (seal cipher s k metadata plaintext offset room) (seal-step cipher laws s rs st k metadata plaintext offset room)
      where
        by : (o : Outcome) → SealStep cipher s rs k metadata plaintext offset o → Next cipher kid rs o.store (listed o.number k kid (begun_inputs cipher (get k (records s)) (length plaintext)))
        by o (SealStep.refused d e) = stays o.store _ e (listed-none o.number k kid _ d)
        by o (SealStep.done r p) =
            changes o.store k (next r) (put k (next r) rs) _ p.change p.store_is (listed-other o.number k kid _ p.answers)
            (λ b. begins r (length plaintext) p.found refl p.fit p.counter-below p.plaintext-most (listed-all o.number k kid _ p.answers b ∙ begun-as k (length plaintext) (sending r) p.found))
    call-moves (Open place metadata bytes room) log q = by (opening cipher s metadata bytes room) (open_step cipher s rs st metadata bytes room q.1)
      where
        by : (o : Outcome) → OpenStep s rs (read_kid (read_header bytes)) (read_ctr (read_header bytes)) o → Next cipher kid rs o.store []
        by o (OpenStep.refused d e) = stays o.store [] e refl
        by o (OpenStep.done r w p) =
            changes o.store (read_kid (read_header bytes)) (receiving r (moved w (read_ctr (read_header bytes)))) _ [] p.change p.store_is (λ b. refl) (λ b. idles (rw p.found tt) tt refl)
    call-moves (Report k) log q = stays (report s k).store [] (report-store s k) refl
    call-moves (Find k) log q = stays (find s k).store [] (find-store s k) refl
    call-moves (ChangeEpoch width bits) log q = by (change_epoch s width bits) (epoch-step width bits s rs st)
      where
        by : (o : Outcome) → EpochStep width bits s rs o → Next cipher kid rs o.store []
        by o (EpochStep.refused d e) = stays o.store [] e refl
        by o (EpochStep.done z c t) = swept o.store width bits (without_epoch width bits rs) c t
    call-moves (Begin k metadata announced state room) log q = by (seal_begin cipher s k metadata announced state room) (begin-step cipher s rs st k metadata announced state room)
      where
        by : (o : Outcome) → BeginStep cipher s rs k metadata announced state o → Next cipher kid rs o.store (listed o.number k kid (begun_inputs cipher (get k (records s)) announced))
        by o (BeginStep.refused d e) = stays o.store _ e (listed-none o.number k kid _ d)
        by o (BeginStep.done r p) =
            changes o.store k (next r) (put k (next r) rs) _ p.change p.store_is (listed-other o.number k kid _ p.answers)
            (λ b. begins r announced p.found refl p.fit p.counter-below p.announced-most (listed-all o.number k kid _ p.answers b ∙ begun-as k announced (sending r) p.found))
    call-moves (Piece line piece room) log q = stays s [] refl refl
    call-moves (End line room) log q = stays s [] refl refl
    call-moves (CheckBegin metadata header announced state) log q = stays _ [] (check-store cipher s metadata header announced state) refl
    call-moves (CheckPiece state piece) log q = stays s [] refl refl
    call-moves (CheckEnd state tag) log q = stays s [] refl refl

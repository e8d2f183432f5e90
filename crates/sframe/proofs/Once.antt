-- SPDX-License-Identifier: MIT
-- No frame is opened twice under one Add: the window of a receiving record tells every counter that was opened since the record was
-- added, as opened or as too old. Assumes nothing.
use mathlib.Core.Path.{◌≡◌, refl, sym, ◌∙◌, ap}
use mathlib.Core.Bool.{true, false, false≢true}
use mathlib.Core.List.{List, [], ◌∷◌, ◌++◌}
use Prim.Native.Nat.{ℕ}
use lib.Dec.{eqb}
use lib.ListN.{length, replicate}
use borrow.Author.Tests.{eq-eqb, ne_eqb, eqb-true, eqb-false}
use Rattle.octets.specs.Octets.{pick}
use Rattle.header.specs.Answers.{read_kid, read_ctr}
use Rattle.header.specs.Header.{read_header}
use Rattle.answers.proofs.Basics.{Two, yes', no', two}
use Rattle.window.specs.Window.{fits, seen, too_old, moved}
use Rattle.window.specs.declared.Window.{Window}
use Rattle.window.proofs.Laws.{moved-seen, moved-others, moved-old}
use Rattle.key_record.specs.Record.{KeyRecord, empty, sending, receiving, retired}
use Rattle.key_record.specs.Inner.Rows.{kept}
use Rattle.store_calls.specs.Calls.{make, remove}
use Rattle.store.specs.Cipher.{Cipher}
use Rattle.store.specs.Table.{get, put, insert, without}
use Rattle.store.proofs.CipherLaws.{Laws}
use Rattle.store_calls.proofs.Keys.{make-stored, RemoveStep, remove-step, find-store}
use Rattle.store.proofs.Stores.{Stored, Change}
use Rattle.add_key.specs.Add.{add, added as added_record}
use Rattle.add_key.proofs.Adds.{AddStep, add_step}
use Rattle.judge_seal.specs.Seal.{seal}
use Rattle.judge_seal.proofs.Seals.{next, SealStep, seal-step}
use Rattle.begin_seal.specs.Begin.{seal_begin}
use Rattle.begin_seal.proofs.Begins.{BeginStep, begin-step}
use Rattle.begin_check.proofs.Checks.{check-store}
use Rattle.judge_open.specs.Open.{opening}
use Rattle.judge_open.proofs.Opened.{OpenStep, open_step}
use Rattle.change_epoch.specs.Epoch.{of_epoch, without_epoch, change_epoch}
use Rattle.change_epoch.proofs.Epochs.{Swept, EpochStep, epoch-step}
use Rattle.sframe.specs.History.{Call, Add, Remove, Seal, Open, Report, Find, ChangeEpoch, Begin, Piece, End, CheckBegin, CheckPiece, CheckEnd, Typed, AllTyped, Sealing, Opening, Event, added, sealed, opened, other, event, on_line, onward, History, outcome, step, run, start}
use Rattle.sframe.specs.Promises.{AddedIn, OpenedOnce}
use Rattle.sframe.proofs.Ledger.{happened, passed-by}
use Rattle.report_window.proofs.Reports.{report-store}

-- ---- the words of it

-- the counters that were opened under a KID since it was last added, the newest first
pub since : ℕ → List Event → List ℕ
since kid [] = []
since kid (added a ∷ log) = pick (eqb a.kid kid) [] (since kid log)
since kid (sealed x ∷ log) = since kid log
since kid (opened x ∷ log) = pick (eqb x.kid kid) (x.ctr ∷ since kid log) (since kid log)
since kid (other ∷ log) = since kid log

abbrev All : (ℕ → Type 0) → List ℕ → Type 0
All P [] = Unit {0}
All P (c ∷ cs) = P c × All P cs

all_map : (P Q : ℕ → Type 0) → ((c : ℕ) → P c → Q c) → (cs : List ℕ) → All P cs → All Q cs
all_map P Q f [] p = tt
all_map P Q f (c ∷ cs) p = (f c p.0, all_map P Q f cs p.1)

-- a window stops a counter
pub data Stops (w : Window) (ctr : ℕ) : Type 0 where
  as_seen : seen w ctr ≡ true → Stops w ctr
  as-old : too_old w ctr ≡ true → Stops w ctr

-- a record stops a counter: under one that is not for receiving nothing is opened
abbrev Guards : KeyRecord → ℕ → Type 0
Guards empty ctr = Unit {0}
Guards (sending r) ctr = Unit {0}
Guards (receiving r w) ctr = Stops w ctr
Guards (retired r) ctr = Unit {0}

-- what was opened under a KID is stopped by the record that holds it
abbrev Guarded : List KeyRecord → List Event → Type 0
Guarded rs log = (kid : ℕ) → All (Guards (get kid rs)) (since kid log)

-- the counter was not opened since the KID was added
abbrev Unopened : (kid ctr : ℕ) → List Event → Type 0
Unopened kid ctr log = All (λ (c : ℕ). ctr ≡ c → ⊥) (since kid log)

-- of each opened frame and the events before it
abbrev pub EachUnopened : List Event → Type 0
EachUnopened [] = Unit {0}
EachUnopened (added a ∷ log) = EachUnopened log
EachUnopened (sealed x ∷ log) = EachUnopened log
EachUnopened (opened x ∷ log) = Unopened x.kid x.ctr log × EachUnopened log
EachUnopened (other ∷ log) = EachUnopened log

pub record Watch (h : History) : Type 0 where
  pub table : List KeyRecord
  pub is-stored : Stored h.store table
  pub guarded : Guarded table h.log
  pub each : EachUnopened h.log

-- ---- the window

module _ (w : Window) (ctr : ℕ) (f : fits w ≡ true) (new : seen w ctr ≡ false) (young : too_old w ctr ≡ false) where
  stops-on : (c : ℕ) → Stops w c → Stops (moved w ctr) c
  stops-on c (as-old e) = as-old (moved-old w ctr c e)
  stops-on c (as_seen e) = by (two (eqb c ctr)) (two (too_old (moved w ctr) c))
    where
      by : Two (eqb c ctr) → Two (too_old (moved w ctr) c) → Stops (moved w ctr) c
      by (yes' a) b = as_seen (ap (seen (moved w ctr)) (eqb-true c ctr a) ∙ moved-seen w ctr f new young)
      by (no' a) (yes' b) = as-old b
      by (no' a) (no' b) = as_seen (moved-others w ctr f new young c (eqb-false c ctr a) b ∙ e)

  not_stopped : (c : ℕ) → Stops w c → ctr ≡ c → ⊥
  not_stopped c (as_seen e) q = false≢true (sym new ∙ ap (seen w) q ∙ e)
  not_stopped c (as-old e) q = false≢true (sym young ∙ ap (too_old w) q ∙ e)

-- ---- one record changes

module _ (kid : ℕ) (new : KeyRecord) (rs rs' : List KeyRecord) (c : Change kid new rs rs') (log log' : List Event) where
  guarded-change : ((k : ℕ) → (k ≡ kid → ⊥) → since k log' ≡ since k log) → All (Guards new) (since kid log') → Guarded rs log → Guarded rs' log'
  guarded-change p e g k = by (two (eqb k kid))
    where
      by : Two (eqb k kid) → All (Guards (get k rs')) (since k log')
      by (yes' t) = rw (eqb-true k kid t, c.at-kid) e
      by (no' t) = let d = eqb-false k kid t in rw (c.elsewhere k d, p k d) (g k)

none-guarded : (P : ℕ → Type 0) → ((c : ℕ) → P c) → (cs : List ℕ) → All P cs
none-guarded P f [] = tt
none-guarded P f (c ∷ cs) = (f c, none-guarded P f cs)

-- ---- the receiving keys of an epoch go

guarded-swept : (E bits : ℕ) (rs rs' : List KeyRecord) → Swept E bits rs rs' → (log : List Event) → Guarded rs log → Guarded rs' log
guarded-swept E bits rs rs' c log g k = by (two (of_epoch E bits (get k rs)))
  where
    by : Two (of_epoch E bits (get k rs)) → All (Guards (get k rs')) (since k log)
    by (yes' t) = rw (c.found k, t) (none-guarded (Guards empty) (λ c. tt) (since k log))
    by (no' t) = rw (c.found k, t) (g k)

-- ---- lines

since-line : (kid n : ℕ) (f : Sealing → Sealing) (log : List Event) → since kid (on_line n f log) ≡ since kid log
unfolding since on_line
since-line kid n f [] = refl
since-line kid n f (e ∷ log) = by e (two (eqb (length log) n)) (since-line kid n f log)
  where
    by : (e : Event) → Two (eqb (length log) n) → since kid (on_line n f log) ≡ since kid log → since kid (on_line n f (e ∷ log)) ≡ since kid (e ∷ log)
    by (added a) (yes' t) r = rw t
    by (sealed x) (yes' t) r = rw t
    by (opened x) (yes' t) r = rw t
    by other (yes' t) r = rw t
    by (added a) (no' t) r = rw t (ap (λ (l : List ℕ). pick (eqb a.kid kid) [] l) r)
    by (sealed x) (no' t) r = rw t r
    by (opened x) (no' t) r = rw t (ap (λ (l : List ℕ). pick (eqb x.kid kid) (x.ctr ∷ l) l) r)
    by other (no' t) r = rw t r

unopened-line : (n : ℕ) (f : Sealing → Sealing) (log : List Event) → EachUnopened log → EachUnopened (on_line n f log)
unfolding on_line
unopened-line n f [] p = tt
unopened-line n f (e ∷ log) p = by e (two (eqb (length log) n)) p (unopened-line n f log)
  where
    by : (e : Event) → Two (eqb (length log) n) → EachUnopened (e ∷ log) → (EachUnopened log → EachUnopened (on_line n f log)) → EachUnopened (on_line n f (e ∷ log))
    by (added a) (yes' t) p r = rw t p
    by (sealed x) (yes' t) p r = rw t p
    by (opened x) (yes' t) p r = rw t p
    by other (yes' t) p r = rw t p
    by (added a) (no' t) p r = rw t (r p)
    by (sealed x) (no' t) p r = rw t (r p)
    by (opened x) (no' t) p r = rw t (rw (since-line x.kid n f log) p.0, r p.1)
    by other (no' t) p r = rw t (r p)

-- ---- each call

module _ (h : History) (v : Watch h) where
  -- a call of a line
  lines-by : (n : ℕ) (f : Sealing → Sealing) → Watch (record { store = h.store; log = other ∷ on_line n f h.log })
  unfolding since
  lines-by n f = record {
    table = v.table;
    is-stored = v.is-stored;
    guarded = λ k. rw (since-line k n f h.log) (v.guarded k);
    each = unopened-line n f h.log v.each;
  }

  -- a call after which nothing is another
  goes_by : (s : List ℕ) (e : Event) → s ≡ h.store → e ≡ other → Watch (record { store = s; log = e ∷ h.log })
  unfolding since
  goes_by s e q p = record { table = v.table; is-stored = rw q v.is-stored; guarded = rw p v.guarded; each = rw p v.each }

  -- a call after which the record of a KID is another
  puts : (s : List ℕ) (e' e : Event) (kid : ℕ) (new : KeyRecord) (rs' : List KeyRecord) → Change kid new v.table rs' → Stored s rs' → e' ≡ e
      → ((k : ℕ) → (k ≡ kid → ⊥) → since k (e ∷ h.log) ≡ since k h.log) → All (Guards new) (since kid (e ∷ h.log)) → EachUnopened (e ∷ h.log) → Watch (record { store = s; log = e' ∷ h.log })
  puts s e' e kid new rs' c st p q g u = record {
    table = rs';
    is-stored = st;
    guarded = rw p (guarded-change kid new v.table rs' c h.log (e ∷ h.log) q g v.guarded);
    each = rw p u;
  }

module _ (cipher : Cipher) (laws : Laws cipher) where
  watch-step : (c : Call) (h : History) → Typed c → Watch h → Watch (step cipher c h)
  unfolding step outcome event onward since
  watch-step (Add role kid suite base) h q v = by (add_step cipher laws h.store v.table v.is-stored role kid suite base q.0 q.1)
    where
      by : AddStep cipher h.store v.table role kid suite base (add cipher h.store role kid suite base) → Watch (step cipher (Add role kid suite base) h)
      by (AddStep.refused d e) = goes_by h v _ _ e (passed-by _ _ d)
      by (AddStep.done z known allowed free c st) =
          puts h v _ _ (added (record { role = role; kid = kid; suite = suite; base = base })) kid (added_record cipher role kid suite base) (insert (added_record cipher role kid suite base) v.table) c st (happened _ _ z)
          (λ k d. rw (ne_eqb kid k (λ e. d (sym e)))) (rw (eq-eqb kid kid refl) tt) v.each
  watch-step (Remove kid place) h q v = by (remove-step h.store v.table v.is-stored kid)
    where
      by : RemoveStep h.store v.table kid (remove h.store kid) → Watch (step cipher (Remove kid place) h)
      by (RemoveStep.refused d e) = goes_by h v _ _ e refl
      by (RemoveStep.freed r w z g c st) = puts h v _ other other kid empty (without kid v.table) c st refl (λ k d. refl) (none-guarded (Guards empty) (λ c. tt) (since kid h.log)) v.each
      by (RemoveStep.closed r z g c st) =
          puts h v _ other other kid (kept (sending r)) (put kid (kept (sending r)) v.table) c st refl (λ k d. refl) (none-guarded (Guards (kept (sending r))) (λ c. tt) (since kid h.log)) v.each
  watch-step (Seal kid place metadata plaintext offset room) h q v = by (seal-step cipher laws h.store v.table v.is-stored kid metadata plaintext offset room)
    where
      by : SealStep cipher h.store v.table kid metadata plaintext offset (seal cipher h.store kid metadata plaintext offset room) → Watch (step cipher (Seal kid place metadata plaintext offset room) h)
      by (SealStep.refused d e) = goes_by h v _ _ e (passed-by _ _ d)
      by (SealStep.done r p) =
          puts h v _ _ (sealed _) kid (next r) (put kid (next r) v.table) p.change p.store_is (happened _ _ p.answers) (λ k d. refl) (none-guarded (Guards (next r)) (λ c. tt) (since kid h.log)) v.each
  watch-step (Open place metadata bytes room) h q v = by (open_step cipher h.store v.table v.is-stored metadata bytes room q.1)
    where
      by : OpenStep h.store v.table (read_kid (read_header bytes)) (read_ctr (read_header bytes)) (opening cipher h.store metadata bytes room) → Watch (step cipher (Open place metadata bytes room) h)
      by (OpenStep.refused d e) = goes_by h v _ _ e (passed-by _ _ d)
      by (OpenStep.done r w p) =
          let kid = read_kid (read_header bytes) in
          let ctr = read_ctr (read_header bytes) in
          let f = p.in-range.in_order_lem in
          let g : All (Stops w) (since kid h.log) = rw p.found at (v.guarded kid) in
          puts h v _ _ (opened (record { kid = kid; ctr = ctr })) kid (receiving r (moved w ctr)) (put kid (receiving r (moved w ctr)) v.table) p.change p.store_is (happened _ _ p.answers)
          (λ k d. rw (ne_eqb kid k (λ e. d (sym e))))
          (rw (eq-eqb kid kid refl) (as_seen (moved-seen w ctr f p.not_seen p.not-old), all_map (Stops w) (Stops (moved w ctr)) (stops-on w ctr f p.not_seen p.not-old) (since kid h.log) g))
          (all_map (Stops w) (λ (c : ℕ). ctr ≡ c → ⊥) (not_stopped w ctr f p.not_seen p.not-old) (since kid h.log) g, v.each)
  watch-step (Report kid) h q v = goes_by h v _ _ (report-store h.store kid) refl
  watch-step (Find kid) h q v = goes_by h v _ _ (find-store h.store kid) refl
  watch-step (ChangeEpoch width bits) h q v = by (epoch-step width bits h.store v.table v.is-stored)
    where
      by : EpochStep width bits h.store v.table (change_epoch h.store width bits) → Watch (step cipher (ChangeEpoch width bits) h)
      by (EpochStep.refused d e) = goes_by h v _ _ e refl
      by (EpochStep.done z c st) = record { table = without_epoch width bits v.table; is-stored = st; guarded = guarded-swept width bits v.table (without_epoch width bits v.table) c h.log v.guarded; each = v.each }
  watch-step (Begin kid metadata announced state room) h q v = by (begin-step cipher h.store v.table v.is-stored kid metadata announced state room)
    where
      by : BeginStep cipher h.store v.table kid metadata announced state (seal_begin cipher h.store kid metadata announced state room) → Watch (step cipher (Begin kid metadata announced state room) h)
      by (BeginStep.refused d e) = goes_by h v _ _ e (passed-by _ _ d)
      by (BeginStep.done r p) =
          puts h v _ _ (sealed _) kid (next r) (put kid (next r) v.table) p.change p.store_is (happened _ _ p.answers) (λ k d. refl) (none-guarded (Guards (next r)) (λ c. tt) (since kid h.log)) v.each
  watch-step (Piece line piece room) h q v = lines-by h v line _
  watch-step (End line room) h q v = lines-by h v line _
  watch-step (CheckBegin metadata header announced state) h q v = goes_by h v _ _ (check-store cipher h.store metadata header announced state) refl
  watch-step (CheckPiece state piece) h q v = goes_by h v _ _ refl refl
  watch-step (CheckEnd state tag) h q v = goes_by h v _ _ refl refl

  pub run-watch : (cs : List Call) (h : History) → AllTyped cs → Watch h → Watch (run cipher cs h)
  unfolding run
  run-watch [] h q v = v
  run-watch (c ∷ cs) h q v = run-watch cs (step cipher c h) q.1 (watch-step c h q.0 v)

pub start-watch : (s : List ℕ) → (make s).number ≡ 0 → Watch (start s)
unfolding start since
start-watch s e = let m = make-stored s e in record { table = replicate m.count empty; is-stored = m.is-stored; guarded = λ k. tt; each = tt }

-- ---- from there to the claim

later-in : (e : Event) (kid : ℕ) (log : List Event) → AddedIn kid log → AddedIn kid (e ∷ log)
later-in e kid log a = record { add = a.add; after = e ∷ a.after; before = a.before; is-there = ap (λ (l : List Event). e ∷ l) a.is-there; its-kid = a.its-kid }

-- where a counter was opened, and then was not opened since the KID was added, the KID was added in between
added-between : (kid ctr : ℕ) (between earlier : List Event) (y : Opening) → kid ≡ y.kid → ctr ≡ y.ctr → Unopened kid ctr (between ++ (opened y ∷ earlier)) → AddedIn kid between
unfolding since
added-between kid ctr [] earlier y k c u =
    let t : eqb y.kid kid ≡ true = eq-eqb y.kid kid (sym k) in
    let p : All (λ (b : ℕ). ctr ≡ b → ⊥) (y.ctr ∷ since kid earlier) = rw t at u in absurd (p.0 c)
added-between kid ctr (added a ∷ l) earlier y k c u = by (two (eqb a.kid kid)) (added-between kid ctr l earlier y k c)
  where
    by : Two (eqb a.kid kid) → (Unopened kid ctr (l ++ (opened y ∷ earlier)) → AddedIn kid l) → AddedIn kid (added a ∷ l)
    by (yes' t) f = record { add = a; after = []; before = l; is-there = refl; its-kid = eqb-true a.kid kid t }
    by (no' t) f = later-in (added a) kid l (f (rw t at u))
added-between kid ctr (sealed x ∷ l) earlier y k c u = later-in (sealed x) kid l (added-between kid ctr l earlier y k c u)
added-between kid ctr (opened x ∷ l) earlier y k c u = by (two (eqb x.kid kid)) (added-between kid ctr l earlier y k c)
  where
    by : Two (eqb x.kid kid) → (Unopened kid ctr (l ++ (opened y ∷ earlier)) → AddedIn kid l) → AddedIn kid (opened x ∷ l)
    by (yes' t) f =
        let p : All (λ (b : ℕ). ctr ≡ b → ⊥) (x.ctr ∷ since kid (l ++ (opened y ∷ earlier))) = rw t at u in
        later-in (opened x) kid l (f p.1)
    by (no' t) f = later-in (opened x) kid l (f (rw t at u))
added-between kid ctr (other ∷ l) earlier y k c u = later-in other kid l (added-between kid ctr l earlier y k c u)

unopened-at : (later rest : List Event) (x : Opening) → EachUnopened (later ++ (opened x ∷ rest)) → Unopened x.kid x.ctr rest
unopened-at [] rest x u = u.0
unopened-at (added a ∷ later) rest x u = unopened-at later rest x u
unopened-at (sealed y ∷ later) rest x u = unopened-at later rest x u
unopened-at (opened y ∷ later) rest x u = unopened-at later rest x u.1
unopened-at (other ∷ later) rest x u = unopened-at later rest x u

pub once : (log : List Event) → EachUnopened log → OpenedOnce log
once log u later between earlier x y e k c = added-between x.kid x.ctr between earlier y k c (unopened-at later (between ++ (opened y ∷ earlier)) x (rw e at u))

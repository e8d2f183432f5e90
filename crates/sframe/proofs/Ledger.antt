-- SPDX-License-Identifier: MIT
-- What every list of calls keeps true of the store and of the events so far. Assumes nothing.
use mathlib.Core.Path.{◌≡◌, refl, sym, ◌∙◌, ap, subst}
use mathlib.Core.Bool.{Bool, true, false, false≢true}
use mathlib.Core.List.{List, [], ◌∷◌, ◌++◌, append-nil}
use Prim.Native.Nat.{ℕ, ◌/◌, ◌^◌, ◌<◌, ◌≤◌}
use native.Mathlib.Omega.{arith}
use lib.Dec.{eqb}
use lib.ListN.{length, take, drop, replicate}
use borrow.Author.Tests.{eq-eqb, ne_eqb, eqb-true, eqb-false}
use Rattle.octets.specs.Octets.{Octets, pick, pasted}
use Rattle.octets.proofs.Laws.{pasted-front}
use Rattle.suites.specs.Suites.{suite_of}
use Rattle.piece_line.specs.State.{sealing}
use Rattle.piece_line.specs.Line.{state_after, begun}
use Rattle.pieces.specs.Calls.{seal_piece, seal_end}
use Rattle.key_record.proofs.Codec.{Fit}
use Rattle.begin_state.specs.Begin.{first_state}
use Rattle.begin_seal.specs.Begin.{seal_begin}
use Rattle.begin_seal.proofs.Begins.{Begun, BeginStep, begin-step}
use Rattle.begin_check.proofs.Checks.{check-store}
use Rattle.header.specs.Answers.{read_kid, read_ctr}
use Rattle.header.specs.Header.{header, read_header}
use Rattle.answers.specs.Answers.{Outcome}
use Rattle.store_calls.specs.Calls.{make, remove}
use Rattle.add_key.specs.Add.{add, added as added_record}
use Rattle.store.specs.Cipher.{Cipher}
use Rattle.key_record.specs.Record.{ceiling, SendingKey, ReceivingKey, KeyRecord, empty, sending, receiving, retired, is_receiving, counter_of}
use Rattle.store.specs.Table.{get, put, insert, without}
use Rattle.answers.proofs.Basics.{Two, yes', no', two}
use Rattle.store.proofs.CipherLaws.{Laws, Usable}
use Rattle.store_calls.proofs.Keys.{make-stored, RemoveStep, remove-step, find-store}
use Rattle.store.proofs.Empties.{empties-get}
use Rattle.key_record.specs.Inner.Rows.{kept}
use Rattle.add_key.proofs.Adds.{AddStep, add_step}
use Rattle.store.proofs.Stores.{Stored, Change}
use Rattle.answers.specs.Limits.{max_plaintext, max_metadata}
use Rattle.judge_seal.specs.Seal.{seal}
use Rattle.judge_open.specs.Open.{opening}
use Rattle.judge_open.proofs.Opened.{Opened, OpenStep, open_step}
use Rattle.report_window.proofs.Reports.{report-store}
use Rattle.change_epoch.specs.Epoch.{of_epoch, without_epoch, change_epoch}
use Rattle.change_epoch.proofs.Epochs.{Swept, epoch-receives, EpochStep, epoch-step}
use Rattle.window.specs.Window.{moved}
use Rattle.window.specs.declared.Window.{Window}
use Rattle.judge_seal.specs.Frame.{frame_with, frame}
use Rattle.sframe.specs.Promises.{kid_of, ctr_of, senders, key_from, salt_from}
use Rattle.sframe.specs.History.{Call, Add, Remove, Seal, Open, Report, Find, ChangeEpoch, Begin, Piece, End, CheckBegin, CheckPiece, CheckEnd, Typed, AllTyped, Adding, Sealing, Event, added, sealed, opened, other, event, on_line, state_on, pieced, ended, onward, History, beside, outcome, step, run, start}
use Rattle.sframe.proofs.Facts.{Each, each_map, line_state, Lines, LineOf, whole, running, body_for, state_for, Fact, fact-kid, fact-ctr, Below, Proper, usable-for}
use Rattle.sframe.proofs.Lines.{senders-line, line-keeps, Keeps, proper-line, piece-keeps, end-keeps, none}
use Rattle.key_record.specs.Suites.{with_suite, is_suite}
use Rattle.judge_seal.proofs.Seals.{next, Sealed, SealStep, seal-step}
use Rattle.key_record.specs.declared.Role.{Role}
use Rattle.key_record.specs.declared.Role.TheVariants.{Sending, Receiving}

-- ---- the words of it

-- the table's next counter is above a frame's own
abbrev pub Covered : List KeyRecord → Sealing → List Event → Type 0
Covered rs x l = ctr_of x < counter_of (get (kid_of x) rs)

-- the Adds for sending of a KID, beside the record that holds it
pub record Source (cipher : Cipher) (r : SendingKey) (l : List Adding) : Type 0 where
  pub add : Adding
  pub only : l ≡ add ∷ []
  pub kid_is : add.kid ≡ r.kid
  pub suite-is : add.suite ≡ r.suite
  pub salt-is : salt_from cipher add ≡ r.salt
  pub key-is : key_from cipher add ≡ r.key
  pub base-octets : Octets add.base

abbrev pub Entry : Cipher → KeyRecord → List Adding → Type 0
Entry cipher empty l = l ≡ []
Entry cipher (sending r) l = Source cipher r l
Entry cipher (receiving r w) l = l ≡ []
Entry cipher (retired r) l = (a : Adding) × (l ≡ a ∷ [])

pub record Account (cipher : Cipher) (lines : Lines cipher) (rs : List KeyRecord) (log : List Event) : Type 0 where
  pub ledger : (kid : ℕ) → Entry cipher (get kid rs) (senders kid log)
  pub frames : Each (Proper cipher lines) log
  pub covered : Each (Covered rs) log

pub record Inv (cipher : Cipher) (lines : Lines cipher) (h : History) : Type 0 where
  pub table : List KeyRecord
  pub is-stored : Stored h.store table
  pub account : Account cipher lines table h.log

-- ---- one record changes

module _ (cipher : Cipher) (kid : ℕ) (new : KeyRecord) (rs rs' : List KeyRecord) (c : Change kid new rs rs') where
  ledger-change : (log log' : List Event) → ((k : ℕ) → Entry cipher (get k rs) (senders k log)) → ((k : ℕ) → (k ≡ kid → ⊥) → senders k log' ≡ senders k log) → Entry cipher new (senders kid log')
      → (k : ℕ) → Entry cipher (get k rs') (senders k log')
  ledger-change log log' l p e k = by (two (eqb k kid))
    where
      by : Two (eqb k kid) → Entry cipher (get k rs') (senders k log')
      by (yes' t) = rw (eqb-true k kid t, c.at-kid) e
      by (no' t) = let d = eqb-false k kid t in rw (c.elsewhere k d, p k d) (l k)

  counters : counter_of (get kid rs) ≤ counter_of new → (k : ℕ) → counter_of (get k rs) ≤ counter_of (get k rs')
  counters h k = by (two (eqb k kid))
    where
      by : Two (eqb k kid) → counter_of (get k rs) ≤ counter_of (get k rs')
      by (yes' t) = rw (eqb-true k kid t, c.at-kid) h
      by (no' t) = rw (c.elsewhere k (eqb-false k kid t)) (omega arith)

  covered-change : counter_of (get kid rs) ≤ counter_of new → (log : List Event) → Each (Covered rs) log → Each (Covered rs') log
  covered-change h log p = each_map (Covered rs) (Covered rs') (λ x l q. omega (arith, q, counters h (kid_of x))) log p

-- ---- the receiving keys of an epoch go

module _ (cipher : Cipher) (E bits : ℕ) (rs rs' : List KeyRecord) (c : Swept E bits rs rs') (log : List Event) where
  -- a receiving key leaves the account as it is
  received : (r : KeyRecord) (l : List Adding) → is_receiving r ≡ true → Entry cipher r l → (l ≡ []) × (counter_of r ≡ 0)
  received empty l t e = absurd (false≢true t)
  received (sending r) l t e = absurd (false≢true t)
  received (receiving r w) l t e = (e, refl)
  received (retired r) l t e = absurd (false≢true t)

  module _ (ledger : (k : ℕ) → Entry cipher (get k rs) (senders k log)) (k : ℕ) where
    swept-entry : Entry cipher (get k rs') (senders k log)
    swept-entry = by (two (of_epoch E bits (get k rs)))
      where
        by : Two (of_epoch E bits (get k rs)) → Entry cipher (get k rs') (senders k log)
        by (yes' t) = rw (c.found k, t) (received (get k rs) (senders k log) (epoch-receives E bits (get k rs) t) (ledger k)).0
        by (no' t) = rw (c.found k, t) (ledger k)

    swept-counter : counter_of (get k rs) ≤ counter_of (get k rs')
    swept-counter = by (two (of_epoch E bits (get k rs)))
      where
        by : Two (of_epoch E bits (get k rs)) → counter_of (get k rs) ≤ counter_of (get k rs')
        by (yes' t) = omega (arith, (received (get k rs) (senders k log) (epoch-receives E bits (get k rs) t) (ledger k)).1)
        by (no' t) = rw (c.found k, t) (omega arith)

-- ---- each call

senders-other : (kid : ℕ) (log : List Event) → senders kid (other ∷ log) ≡ senders kid log
unfolding senders
senders-other kid log = refl

senders-sealed : (kid : ℕ) (x : Sealing) (log : List Event) → senders kid (sealed x ∷ log) ≡ senders kid log
unfolding senders
senders-sealed kid x log = refl

abbrev sealing_of : (metadata plaintext : List ℕ) (offset : ℕ) → Outcome → Sealing
sealing_of metadata plaintext offset o = record { metadata = metadata; announced = length plaintext; plaintext = plaintext; frame = take o.written (drop offset o.room); finished = true; state = [] }

abbrev begun_of : (metadata : List ℕ) (announced : ℕ) → Outcome → Sealing
begun_of metadata announced o = record { metadata = metadata; announced = announced; plaintext = []; frame = take o.written o.room; finished = false; state = o.state }

abbrev adding_of : Role → ℕ → ℕ → List ℕ → Adding
adding_of role kid suite base = record { role = role; kid = kid; suite = suite; base = base }

-- a call that changes nothing
pass-by : (cipher : Cipher) (lines : Lines cipher) (rs : List KeyRecord) (log : List Event) → Account cipher lines rs log → Account cipher lines rs (other ∷ log)
pass-by cipher lines rs log a = record { ledger = λ k. rw (senders-other k log) (a.ledger k); frames = a.frames; covered = a.covered }

-- a change of epoch
swept-account : (cipher : Cipher) (lines : Lines cipher) (E bits : ℕ) (rs rs' : List KeyRecord) (log : List Event) → Account cipher lines rs log → Swept E bits rs rs' → Account cipher lines rs' (other ∷ log)
swept-account cipher lines E bits rs rs' log a c =
    pass-by cipher lines rs' log (record {
      ledger = swept-entry cipher E bits rs rs' c log a.ledger;
      frames = a.frames;
      covered = each_map (Covered rs) (Covered rs') (λ x l q. omega (arith, q, swept-counter cipher E bits rs rs' c log a.ledger (kid_of x))) log a.covered;
    })

module _ (cipher : Cipher) (laws : Laws cipher) (lines : Lines cipher) (rs : List KeyRecord) (log : List Event) (a : Account cipher lines rs log) (kid : ℕ) where
  -- ---- Add

  module _ (suite : ℕ) (base : List ℕ) (ob : Octets base) (rs' : List KeyRecord) (free : get kid rs ≡ empty) where
    senders-none : senders kid log ≡ []
    senders-none = rw free at (a.ledger kid)

    added-account : (role : Role) → Change kid (added_record cipher role kid suite base) rs rs' → Account cipher lines rs' (added (adding_of role kid suite base) ∷ log)
    unfolding added_record senders
    added-account Sending c = record {
      ledger =
          ledger-change cipher kid (added_record cipher Sending kid suite base) rs rs' c log (added (adding_of Sending kid suite base) ∷ log) a.ledger
          (λ k d. ap (λ (t : Bool). pick t (adding_of Sending kid suite base ∷ senders k log) (senders k log)) (ne_eqb kid k (λ e. d (sym e))))
          (record {
            add = adding_of Sending kid suite base;
            only =
                ap (λ (t : Bool). pick t (adding_of Sending kid suite base ∷ senders kid log) (senders kid log)) (eq-eqb kid kid refl)
                ∙ ap (λ (l : List Adding). adding_of Sending kid suite base ∷ l) senders-none;
            kid_is = refl;
            suite-is = refl;
            salt-is = refl;
            key-is = refl;
            base-octets = ob;
          });
      frames = a.frames;
      covered = covered-change cipher kid (added_record cipher Sending kid suite base) rs rs' c (rw free (omega arith)) log a.covered;
    }
    added-account Receiving c = record {
      ledger =
          ledger-change cipher kid (added_record cipher Receiving kid suite base) rs rs' c log (added (adding_of Receiving kid suite base) ∷ log) a.ledger (λ k d. refl) senders-none;
      frames = a.frames;
      covered = covered-change cipher kid (added_record cipher Receiving kid suite base) rs rs' c (rw free (omega arith)) log a.covered;
    }

  -- ---- Remove

  freed-account : (r : ReceivingKey) (w : Window) (rs' : List KeyRecord) → get kid rs ≡ receiving r w → Change kid empty rs rs' → Account cipher lines rs' (other ∷ log)
  freed-account r w rs' g c =
      pass-by cipher lines rs' log (record {
        ledger = ledger-change cipher kid empty rs rs' c log log a.ledger (λ k d. refl) (rw g at (a.ledger kid));
        frames = a.frames;
        covered = covered-change cipher kid empty rs rs' c (rw g (omega arith)) log a.covered;
      })

  closed-account : (r : SendingKey) (rs' : List KeyRecord) → get kid rs ≡ sending r → Change kid (kept (sending r)) rs rs' → Account cipher lines rs' (other ∷ log)
  closed-account r rs' g c =
      let e : Source cipher r (senders kid log) = rw g at (a.ledger kid) in
      pass-by cipher lines rs' log (record {
        ledger = ledger-change cipher kid (kept (sending r)) rs rs' c log log a.ledger (λ k d. refl) (e.add, e.only);
        frames = a.frames;
        covered = covered-change cipher kid (kept (sending r)) rs rs' c (rw g (omega arith)) log a.covered;
      })

  -- ---- Open

  opened-account : (ctr : ℕ) (o : Outcome) (r : ReceivingKey) (w : Window) → Opened rs kid ctr o r w → Account cipher lines (put kid (receiving r (moved w ctr)) rs) (opened (record { kid = kid; ctr = ctr }) ∷ log)
  unfolding senders
  opened-account ctr o r w p = record {
    ledger =
        ledger-change cipher kid (receiving r (moved w ctr)) rs (put kid (receiving r (moved w ctr)) rs) p.change log (opened (record { kid = kid; ctr = ctr }) ∷ log) a.ledger (λ k d. refl)
        (rw p.found at (a.ledger kid));
    frames = a.frames;
    covered = covered-change cipher kid (receiving r (moved w ctr)) rs (put kid (receiving r (moved w ctr)) rs) p.change (rw p.found (omega arith)) log a.covered;
  }

  -- ---- Seal and Begin

  module _ (r : SendingKey) (found : get kid rs ≡ sending r) (kid_is : r.kid ≡ kid) (fit : Fit (sending r)) (counter-below : r.counter < ceiling) where
    source : Source cipher r (senders kid log)
    source = rw found at (a.ledger kid)

    add-known : is_suite source.add.suite ≡ true
    add-known = ap is_suite source.suite-is ∙ fit.0.known

    -- a sealing that is begun under the record: what stands of it
    record Start (x : Sealing) : Type 0 where
      metadata-octets : Octets x.metadata
      metadata-most : length x.metadata ≤ max_metadata
      plaintext-octets : Octets x.plaintext
      announced-most : x.announced ≤ max_plaintext
      plaintext-most : length x.plaintext ≤ x.announced
      full : x.finished ≡ true → length x.plaintext ≡ x.announced
      frame_is : x.frame ≡ header kid r.counter ++ body_for cipher lines source.add kid r.counter x.metadata x.plaintext x.finished
      tail : List ℕ
      line : LineOf (state_for cipher lines source.add kid r.counter x.announced x.metadata x.plaintext tail) x.state

    module _ (x : Sealing) (q : Start x) where
      start-fact : Fact cipher lines x log
      start-fact = record {
        kid = kid;
        ctr = r.counter;
        add = source.add;
        kid-below = rw kid_is at fit.0.kid-below;
        ctr-below = counter-below;
        only = source.only;
        add-kid = source.kid_is ∙ kid_is;
        known = add-known;
        base-octets = source.base-octets;
        metadata-octets = q.metadata-octets;
        metadata-most = q.metadata-most;
        plaintext-octets = q.plaintext-octets;
        announced-most = q.announced-most;
        plaintext-most = q.plaintext-most;
        full = q.full;
        frame_is = q.frame_is;
        tail = q.tail;
        line = q.line;
      }

      x-kid : kid_of x ≡ kid
      unfolding start-fact
      x-kid = fact-kid cipher lines x log start-fact

      x-ctr : ctr_of x ≡ r.counter
      unfolding start-fact
      x-ctr = fact-ctr cipher lines x log start-fact

      start-below : (y : Sealing) (l : List Event) → Covered rs y l → Below x y l
      start-below y l q e =
          let same-kid : kid_of y ≡ kid = e ∙ x-kid in
          let c : counter_of (get (kid_of y) rs) ≡ r.counter = ap (λ (k : ℕ). counter_of (get k rs)) same-kid ∙ ap counter_of found in
          rw x-ctr (omega (arith, q))

      start-account : Change kid (next r) rs (put kid (next r) rs) → Account cipher lines (put kid (next r) rs) (sealed x ∷ log)
      unfolding senders
      start-account c = record {
        ledger =
            ledger-change cipher kid (next r) rs (put kid (next r) rs) c log (sealed x ∷ log) a.ledger (λ k d. refl)
            (record {
              add = source.add;
              only = source.only;
              kid_is = source.kid_is;
              suite-is = source.suite-is;
              salt-is = source.salt-is;
              key-is = source.key-is;
              base-octets = source.base-octets;
            });
        frames = ((start-fact, each_map (Covered rs) (Below x) start-below log a.covered), a.frames);
        covered = (
          rw (x-kid, x-ctr, c.at-kid) (omega arith),
          covered-change cipher kid (next r) rs (put kid (next r) rs) c (rw found (omega arith)) log a.covered,
        );
      }

  module _ (metadata plaintext : List ℕ) (offset : ℕ) (o : Outcome) (r : SendingKey) (om : Octets metadata) (op : Octets plaintext) (p : Sealed cipher rs kid metadata plaintext offset o r) where
    src : Source cipher r (senders kid log)
    src = source r p.found p.kid_is p.fit p.counter-below

    -- the RFC's frame, as header, ciphertext and tag
    seal-parts : take o.written (drop offset o.room) ≡ header kid r.counter ++ body_for cipher lines src.add kid r.counter metadata plaintext true
    unfolding frame frame_with src source
    seal-parts =
        let u = usable-for cipher laws src.add (add-known r p.found p.kid_is p.fit p.counter-below) src.base-octets kid r.counter metadata (rw p.kid_is at p.fit.0.kid-below) (omega (arith, p.counter-below)) om in
        p.frame_is
        ∙ (λ i. frame cipher (sym src.suite-is i) (sym src.key-is i) (sym src.salt-is i) kid r.counter metadata plaintext)
        ∙ ap (λ (z : List ℕ). header kid r.counter ++ z) (lines.encrypt-is _ _ _ _ plaintext u)

    sealed-account : Account cipher lines (put kid (next r) rs) (sealed (sealing_of metadata plaintext offset o) ∷ log)
    unfolding src
    sealed-account =
        start-account r p.found p.kid_is p.fit p.counter-below (sealing_of metadata plaintext offset o)
        (record {
          metadata-octets = om;
          metadata-most = p.metadata-most;
          plaintext-octets = op;
          announced-most = p.plaintext-most;
          plaintext-most = omega arith;
          full = λ e. refl;
          frame_is = seal-parts;
          tail = [];
          line = whole refl;
        }) p.change

  module _ (metadata : List ℕ) (announced : ℕ) (state : List ℕ) (o : Outcome) (r : SendingKey) (om : Octets metadata) (p : Begun cipher rs kid metadata announced state o r) where
    sr : Source cipher r (senders kid log)
    sr = source r p.found p.kid_is p.fit p.counter-below

    use-of : Usable sr.add.suite (key_from cipher sr.add) (cipher.nonce (salt_from cipher sr.add) r.counter) (header kid r.counter ++ metadata)
    unfolding sr
    use-of = usable-for cipher laws sr.add (add-known r p.found p.kid_is p.fit p.counter-below) sr.base-octets kid r.counter metadata (rw p.kid_is at p.fit.0.kid-below) (omega (arith, p.counter-below)) om

    -- of no plaintext there is no ciphertext
    cut-none : lines.cut sr.add.suite (key_from cipher sr.add) (cipher.nonce (salt_from cipher sr.add) r.counter) [] ≡ []
    cut-none = none _ (lines.cut-length _ _ _ _ [] use-of)

    begin-parts : take o.written o.room ≡ header kid r.counter ++ body_for cipher lines sr.add kid r.counter metadata [] false
    begin-parts = p.header_is ∙ sym (append-nil (header kid r.counter)) ∙ ap (λ (z : List ℕ). header kid r.counter ++ z) (sym (append-nil _ ∙ cut-none))

    abbrev first : List ℕ
    first = first_state cipher sealing (sending r) r.counter announced (header kid r.counter ++ metadata)

    -- the state that it left is that of a line of which nothing has been taken
    begin-state : o.state ≡ state_for cipher lines sr.add kid r.counter announced metadata [] (drop (length first) state)
    unfolding first_state begun line_state
    begin-state =
        p.state-is
        ∙ pasted-front state first
        ∙ (λ i. with_suite [] (λ s. state_after sealing s announced (cipher.nonce (sym sr.salt-is i) r.counter) (sym sr.key-is i) (header kid r.counter ++ metadata) (sym cut-none i)) (suite_of (sym sr.suite-is i)) ++ drop (length first) state)

    begun-account : Account cipher lines (put kid (next r) rs) (sealed (begun_of metadata announced o) ∷ log)
    unfolding sr
    begun-account =
        start-account r p.found p.kid_is p.fit p.counter-below (begun_of metadata announced o)
        (record {
          metadata-octets = om;
          metadata-most = p.metadata-most;
          plaintext-octets = λ i. omega arith;
          announced-most = p.announced-most;
          plaintext-most = omega arith;
          full = λ e. absurd (false≢true e);
          frame_is = begin-parts;
          tail = drop (length first) state;
          line = running begin-state;
        }) p.change

-- ---- lines

module _ (cipher : Cipher) (lines : Lines cipher) (rs : List KeyRecord) (log : List Event) (a : Account cipher lines rs log) (n : ℕ) (f : Sealing → Sealing)
    (keep : (x : Sealing) (l : List Event) → x.state ≡ state_on n log → Fact cipher lines x l → Keeps cipher lines x (f x) l) where
  line-account : Account cipher lines rs (other ∷ on_line n f log)
  line-account =
      pass-by cipher lines rs (on_line n f log) (record {
        ledger = λ k. rw (senders-line k n f log) (a.ledger k);
        frames = proper-line cipher lines n f log keep a.frames;
        covered = line-keeps cipher lines n f (λ (k c : ℕ). c < counter_of (get k rs)) log keep (each_map (Proper cipher lines) (Fact cipher lines) (λ x l q. q.0) log a.frames) a.covered;
      })

-- ---- every list

-- the event of a call is known once it is known whether the call answered 0
pub happened : (n : ℕ) (e : Event) → n ≡ 0 → pick (eqb n 0) e other ≡ e
happened n e z = rw (eq-eqb n 0 z)

pub passed-by : (n : ℕ) (e : Event) → (n ≡ 0 → ⊥) → pick (eqb n 0) e other ≡ other
passed-by n e d = rw (ne_eqb n 0 d)

module _ (cipher : Cipher) (lines : Lines cipher) (h : History) (i : Inv cipher lines h) where
  -- an event that is e, and a store that is rs in bytes
  goes_on : (s : List ℕ) (rs : List KeyRecord) (e' e : Event) → Stored s rs → e' ≡ e → Account cipher lines rs (e ∷ h.log) → Inv cipher lines (record { store = s; log = e' ∷ h.log })
  goes_on s rs e' e st p acc = record { table = rs; is-stored = st; account = rw p acc }

  stays : (s : List ℕ) (e' : Event) → s ≡ h.store → e' ≡ other → Inv cipher lines (record { store = s; log = e' ∷ h.log })
  stays s e' q p = goes_on s i.table e' other (rw q i.is-stored) p (pass-by cipher lines i.table h.log i.account)

module _ (cipher : Cipher) (laws : Laws cipher) (lines : Lines cipher) where
  pub step_keeps : (c : Call) (h : History) → Typed c → Inv cipher lines h → Inv cipher lines (step cipher c h)
  unfolding step outcome event onward
  step_keeps (Add role kid suite base) h q i = by (add_step cipher laws h.store i.table i.is-stored role kid suite base q.0 q.1)
    where
      by : AddStep cipher h.store i.table role kid suite base (add cipher h.store role kid suite base) → Inv cipher lines (step cipher (Add role kid suite base) h)
      by (AddStep.refused d e) = stays cipher lines h i _ _ e (passed-by _ _ d)
      by (AddStep.done z known allowed free c st) =
          goes_on cipher lines h i _ (insert (added_record cipher role kid suite base) i.table) _ (added (adding_of role kid suite base)) st (happened _ _ z)
          (added-account cipher laws lines i.table h.log i.account kid suite base q.1 (insert (added_record cipher role kid suite base) i.table) free role c)
  step_keeps (Remove kid place) h q i = by (remove-step h.store i.table i.is-stored kid)
    where
      by : RemoveStep h.store i.table kid (remove h.store kid) → Inv cipher lines (step cipher (Remove kid place) h)
      by (RemoveStep.refused d e) = stays cipher lines h i _ _ e refl
      by (RemoveStep.freed r w z g c st) =
          goes_on cipher lines h i _ (without kid i.table) other other st refl (freed-account cipher laws lines i.table h.log i.account kid r w (without kid i.table) g c)
      by (RemoveStep.closed r z g c st) =
          goes_on cipher lines h i _ (put kid (kept (sending r)) i.table) other other st refl (closed-account cipher laws lines i.table h.log i.account kid r (put kid (kept (sending r)) i.table) g c)
  step_keeps (Seal kid place metadata plaintext offset room) h q i = by (seal-step cipher laws h.store i.table i.is-stored kid metadata plaintext offset room)
    where
      by : SealStep cipher h.store i.table kid metadata plaintext offset (seal cipher h.store kid metadata plaintext offset room) → Inv cipher lines (step cipher (Seal kid place metadata plaintext offset room) h)
      by (SealStep.refused d e) = stays cipher lines h i _ _ e (passed-by _ _ d)
      by (SealStep.done r p) =
          goes_on cipher lines h i _ (put kid (next r) i.table) _ (sealed (sealing_of metadata plaintext offset (seal cipher h.store kid metadata plaintext offset room))) p.store_is (happened _ _ p.answers)
          (sealed-account cipher laws lines i.table h.log i.account kid metadata plaintext offset (seal cipher h.store kid metadata plaintext offset room) r q.1 q.2 p)
  step_keeps (Open place metadata bytes room) h q i = by (open_step cipher h.store i.table i.is-stored metadata bytes room q.1)
    where
      by : OpenStep h.store i.table (read_kid (read_header bytes)) (read_ctr (read_header bytes)) (opening cipher h.store metadata bytes room) → Inv cipher lines (step cipher (Open place metadata bytes room) h)
      by (OpenStep.refused d e) = stays cipher lines h i _ _ e (passed-by _ _ d)
      by (OpenStep.done r w p) =
          goes_on cipher lines h i _ (put (read_kid (read_header bytes)) (receiving r (moved w (read_ctr (read_header bytes)))) i.table) _ (opened (record { kid = read_kid (read_header bytes); ctr = read_ctr (read_header bytes) })) p.store_is (happened _ _ p.answers)
          (opened-account cipher laws lines i.table h.log i.account (read_kid (read_header bytes)) (read_ctr (read_header bytes)) (opening cipher h.store metadata bytes room) r w p)
  step_keeps (Report kid) h q i = stays cipher lines h i _ _ (report-store h.store kid) refl
  step_keeps (Find kid) h q i = stays cipher lines h i _ _ (find-store h.store kid) refl
  step_keeps (ChangeEpoch width bits) h q i = by (epoch-step width bits h.store i.table i.is-stored)
    where
      by : EpochStep width bits h.store i.table (change_epoch h.store width bits) → Inv cipher lines (step cipher (ChangeEpoch width bits) h)
      by (EpochStep.refused d e) = stays cipher lines h i _ _ e refl
      by (EpochStep.done z c st) = goes_on cipher lines h i _ (without_epoch width bits i.table) other other st refl (swept-account cipher lines width bits i.table (without_epoch width bits i.table) h.log i.account c)
  step_keeps (Begin kid metadata announced state room) h q i = by (begin-step cipher h.store i.table i.is-stored kid metadata announced state room)
    where
      by : BeginStep cipher h.store i.table kid metadata announced state (seal_begin cipher h.store kid metadata announced state room) → Inv cipher lines (step cipher (Begin kid metadata announced state room) h)
      by (BeginStep.refused d e) = stays cipher lines h i _ _ e (passed-by _ _ d)
      by (BeginStep.done r p) =
          goes_on cipher lines h i _ (put kid (next r) i.table) _ (sealed (begun_of metadata announced (seal_begin cipher h.store kid metadata announced state room))) p.store_is (happened _ _ p.answers)
          (begun-account cipher laws lines i.table h.log i.account kid metadata announced state (seal_begin cipher h.store kid metadata announced state room) r q.1 p)
  step_keeps (Piece line piece room) h q i = record {
    table = i.table;
    is-stored = i.is-stored;
    account =
        line-account cipher lines i.table h.log i.account line (pieced piece (beside h.store (seal_piece (state_on line h.log) piece room)))
        (λ x l e f. subst (λ (z : List ℕ). Keeps cipher lines x (pieced piece (beside h.store (seal_piece z piece room)) x) l) e (piece-keeps cipher laws lines x l f h.store piece room q.0));
  }
  step_keeps (End line room) h q i = record {
    table = i.table;
    is-stored = i.is-stored;
    account =
        line-account cipher lines i.table h.log i.account line (ended (beside h.store (seal_end (state_on line h.log) room)))
        (λ x l e f. subst (λ (z : List ℕ). Keeps cipher lines x (ended (beside h.store (seal_end z room)) x) l) e (end-keeps cipher laws lines x l f h.store room));
  }
  step_keeps (CheckBegin metadata header announced state) h q i = stays cipher lines h i _ _ (check-store cipher h.store metadata header announced state) refl
  step_keeps (CheckPiece state piece) h q i = stays cipher lines h i _ _ refl refl
  step_keeps (CheckEnd state tag) h q i = stays cipher lines h i _ _ refl refl

  pub run-keeps : (cs : List Call) (h : History) → AllTyped cs → Inv cipher lines h → Inv cipher lines (run cipher cs h)
  unfolding run
  run-keeps [] h q i = i
  run-keeps (c ∷ cs) h q i = run-keeps cs (step cipher c h) q.1 (step_keeps c h q.0 i)

  pub start-keeps : (s : List ℕ) → (make s).number ≡ 0 → Inv cipher lines (start s)
  unfolding start senders
  start-keeps s e =
      let m = make-stored s e in
      record {
        table = replicate m.count empty;
        is-stored = m.is-stored;
        account = record { ledger = λ k. rw (empties-get k m.count); frames = tt; covered = tt };
      }

-- SPDX-License-Identifier: MIT
-- What every list of calls keeps true of the track store and of the events so far. Assumes nothing.
use Rattle.std.specs.Prelude.{Some}
use mathlib.Core.Path.{◌≡◌, refl, sym, ◌∙◌, ap}
use mathlib.Core.Bool.{Bool, true, false, false≢true}
use mathlib.Core.List.{List, [], ◌∷◌}
use Prim.Native.Nat.{ℕ, ◌+◌, ◌^◌, ◌<◌, ◌≤◌}
use native.Mathlib.Numerals.{add-one}
use native.Mathlib.Omega.{arith}
use lib.Dec.{eqb}
use lib.ListN.{length, take, replicate}
use borrow.Author.Tests.{eq-eqb, ne_eqb}
use Rattle.octets.specs.Octets.{Octets, pick}
use Rattle.answers.specs.Answers.{Outcome}
use Rattle.answers.specs.Limits.{max_plaintext, max_metadata}
use Rattle.answers.proofs.Basics.{Two, yes', no', two, settled-store}
use Rattle.suites.specs.Suites.{suite_of}
use Rattle.suites.specs.declared.sizes.Suite.{Suite}
use Rattle.secure_objects.specs.Objects.{object_ceiling, counter, secured}
use Rattle.track_record.specs.Record.{TrackId, same_track, Track, TrackRecord, empty, track, is_empty, sends, floor_of, fresh, advanced, retired}
use Rattle.track_record.specs.declared.Kind.{Kind}
use Rattle.track_record.specs.declared.Kind.TheVariants.{Sender, Receiver, Retired}
use Rattle.track_record.specs.declared.Role.{Role}
use Rattle.track_record.specs.declared.Role.TheVariants.{Sending, Receiving}
use Rattle.track_record.proofs.Records.{same-track, track-same}
use Rattle.tracks.specs.Calls.{make, remove}
use Rattle.tracks.specs.Table.{get, put, fill}
use Rattle.tracks.proofs.Changes.{empties-get, Made, make-stored, RemoveStep, remove-step}
use Rattle.tracks.proofs.Stores.{Stored, Change}
use Rattle.add_track.specs.Add.{add}
use Rattle.add_track.proofs.Adds.{Added, AddStep, add_step}
use Rattle.seal_object.specs.Seal.{seal}
use Rattle.seal_object.proofs.Sealings.{Sealed, SealStep, seal-step}
use Rattle.open_object.specs.Open.{open_at, opening}
use Rattle.moq.specs.History.{Call, Add, Remove, Seal, Open, Typed, AllTyped, Adding, Sealing, Event, added, sealed, other, event, History, outcome, step, run, start}
use Rattle.moq.specs.Promises.{is_sender, senders, key_from, salt_from}

-- ---- the words of it

-- P of each sealed object and the events before it
abbrev pub Each : (Sealing → List Event → Type 0) → List Event → Type 0
Each P [] = Unit {0}
Each P (added a ∷ log) = Each P log
Each P (sealed x ∷ log) = P x log × Each P log
Each P (other ∷ log) = Each P log

pub each_map : (P Q : Sealing → List Event → Type 0) → ((x : Sealing) (l : List Event) → P x l → Q x l) → (log : List Event) → Each P log → Each Q log
each_map P Q f [] p = tt
each_map P Q f (added a ∷ log) p = each_map P Q f log p
each_map P Q f (sealed x ∷ log) p = (f x log p.0, each_map P Q f log p.1)
each_map P Q f (other ∷ log) p = each_map P Q f log p

-- the counter of a sealed object's pair
abbrev pub ctr_of : Sealing → ℕ
ctr_of x = counter x.group x.object

-- an object that was sealed, and under which Add
pub record Fact (x : Sealing) (earlier : List Event) : Type 0 where
  pub add : Adding
  pub suite : Suite
  pub only : senders x.id earlier ≡ add ∷ []
  pub add-id : add.id ≡ x.id
  pub known : suite_of add.suite ≡ Some suite
  pub group-below : x.group < 2 ^ 64
  pub object-below : x.object < object_ceiling
  pub bytes-is : x.bytes ≡ secured suite (key_from suite add) (salt_from suite add) x.id.name x.id.key_id x.group x.object x.properties x.plaintext
  pub plaintext-octets : Octets x.plaintext
  pub plaintext-most : length x.plaintext ≤ max_plaintext
  pub properties-most : length x.properties ≤ max_metadata

-- a later object under one track has the higher counter
abbrev pub Below : Sealing → Sealing → List Event → Type 0
Below x y l = y.id ≡ x.id → ctr_of y < ctr_of x

abbrev pub Proper : Sealing → List Event → Type 0
Proper x earlier = Fact x earlier × Each (Below x) earlier

-- the record's floor is above an object's own counter
abbrev pub Covered : List TrackRecord → Sealing → List Event → Type 0
Covered rs x l = ctr_of x < floor_of (get x.id rs)

-- the Adds for sending of a track, beside the record that holds it
pub record Source (t : Track) (l : List Adding) : Type 0 where
  pub add : Adding
  pub only : l ≡ add ∷ []
  pub id-is : add.id ≡ t.id
  pub suite-is : suite_of add.suite ≡ Some t.suite
  pub salt-is : salt_from t.suite add ≡ t.salt
  pub key-is : key_from t.suite add ≡ t.key

abbrev pub EntryOf : Kind → Track → List Adding → Type 0
EntryOf Sender t l = Source t l
EntryOf Receiver t l = l ≡ []
EntryOf Retired t l = Unit {0}

abbrev pub Entry : TrackRecord → List Adding → Type 0
Entry empty l = l ≡ []
Entry (track t) l = EntryOf t.kind t l

-- no Add of a track is among the events
abbrev pub Absent : TrackId → List Event → Type 0
Absent id [] = Unit {0}
Absent id (added a ∷ log) = (same_track a.id id ≡ false) × Absent id log
Absent id (sealed x ∷ log) = Absent id log
Absent id (other ∷ log) = Absent id log

-- each Add in a list is the first of its track
abbrev pub Fresh : List Event → Type 0
Fresh [] = Unit {0}
Fresh (added a ∷ log) = Absent a.id log × Fresh log
Fresh (sealed x ∷ log) = Fresh log
Fresh (other ∷ log) = Fresh log

pub record Account (rs : List TrackRecord) (log : List Event) : Type 0 where
  pub ledger : (id : TrackId) → Entry (get id rs) (senders id log)
  pub absent : (id : TrackId) → is_empty (get id rs) ≡ true → Absent id log
  pub fresh-adds : Fresh log
  pub objects : Each Proper log
  pub covered : Each (Covered rs) log

pub record Inv (h : History) : Type 0 where
  pub table : List TrackRecord
  pub is-stored : Stored h.store table
  pub account : Account table h.log

-- ---- one record changes

differ : (a b : TrackId) → same_track a b ≡ false → a ≡ b → ⊥
differ a b t e = false≢true (sym t ∙ ap (λ (x : TrackId). same_track x b) e ∙ track-same b)

not_same : (a b : TrackId) → (b ≡ a → ⊥) → same_track a b ≡ false
not_same a b d = by (two (same_track a b))
  where
    by : Two (same_track a b) → same_track a b ≡ false
    by (yes' t) = absurd (d (sym (same-track a b t)))
    by (no' t) = t

module _ (id : TrackId) (new : TrackRecord) (rs rs' : List TrackRecord) (c : Change id new rs rs') where
  ledger-change : (log log' : List Event) → ((k : TrackId) → Entry (get k rs) (senders k log)) → ((k : TrackId) → (k ≡ id → ⊥) → senders k log' ≡ senders k log) → Entry new (senders id log')
      → (k : TrackId) → Entry (get k rs') (senders k log')
  ledger-change log log' l p e k = by (two (same_track k id))
    where
      by : Two (same_track k id) → Entry (get k rs') (senders k log')
      by (yes' t) = rw (same-track k id t, c.at-id) e
      by (no' t) = let d = differ k id t in rw (c.elsewhere k d, p k d) (l k)

  absent-change : (log : List Event) → is_empty new ≡ false → ((k : TrackId) → is_empty (get k rs) ≡ true → Absent k log) → (k : TrackId) → is_empty (get k rs') ≡ true → (k ≡ id → ⊥) × Absent k log
  absent-change log n l k e = by (two (same_track k id))
    where
      by : Two (same_track k id) → (k ≡ id → ⊥) × Absent k log
      by (yes' t) = absurd (false≢true (sym n ∙ ap is_empty (sym c.at-id) ∙ ap (λ (x : TrackId). is_empty (get x rs')) (sym (same-track k id t)) ∙ e))
      by (no' t) = let d = differ k id t in (d, l k (ap is_empty (sym (c.elsewhere k d)) ∙ e))

  floors : floor_of (get id rs) ≤ floor_of new → (k : TrackId) → floor_of (get k rs) ≤ floor_of (get k rs')
  floors h k = by (two (same_track k id))
    where
      by : Two (same_track k id) → floor_of (get k rs) ≤ floor_of (get k rs')
      by (yes' t) = rw (same-track k id t, c.at-id) h
      by (no' t) = rw (c.elsewhere k (differ k id t)) (omega arith)

  covered-change : floor_of (get id rs) ≤ floor_of new → (log : List Event) → Each (Covered rs) log → Each (Covered rs') log
  covered-change h log p = each_map (Covered rs) (Covered rs') (λ x l q. omega (arith, q, floors h x.id)) log p

-- ---- each call

abbrev sealing_of : (id : TrackId) (group object : ℕ) (properties plaintext : List ℕ) → Outcome → Sealing
sealing_of id group object properties plaintext o =
    record { id = id; group = group; object = object; properties = properties; plaintext = plaintext; bytes = take o.written o.room }

abbrev adding_of : Role → TrackId → ℕ → List ℕ → Adding
adding_of role id suite base = record { role = role; id = id; suite = suite; base = base }

-- a call that changes nothing
pass-by : (rs : List TrackRecord) (log : List Event) → Account rs log → Account rs (other ∷ log)
unfolding senders
pass-by rs log a = record { ledger = a.ledger; absent = a.absent; fresh-adds = a.fresh-adds; objects = a.objects; covered = a.covered }

retired-floor : (r : TrackRecord) → floor_of r ≤ floor_of (retired r)
unfolding retired
retired-floor empty = omega arith
retired-floor (track t) = omega arith

retired-held : (r : TrackRecord) → is_empty r ≡ false → is_empty (retired r) ≡ false
unfolding retired
retired-held empty e = e
retired-held (track t) e = refl

retired-entry : (r : TrackRecord) (l : List Adding) → is_empty r ≡ false → Entry (retired r) l
unfolding retired
retired-entry empty l e = absurd (false≢true (sym e))
retired-entry (track t) l e = tt

module _ (rs : List TrackRecord) (log : List Event) (a : Account rs log) (id : TrackId) where
  -- ---- Add

  module _ (suite : ℕ) (base : List ℕ) (s : Suite) (known : suite_of suite ≡ Some s) (rs' : List TrackRecord) (free : get id rs ≡ empty) where
    senders-none : senders id log ≡ []
    senders-none = rw free at (a.ledger id)

    absent-here : Absent id log
    absent-here = a.absent id (ap is_empty free)

    fresh-held : (role : Role) → is_empty (fresh role s id base) ≡ false
    unfolding fresh
    fresh-held role = refl

    absent-added : (role : Role) → Change id (fresh role s id base) rs rs' → (k : TrackId) → is_empty (get k rs') ≡ true → Absent k (added (adding_of role id suite base) ∷ log)
    absent-added role c k e = let q = absent-change id (fresh role s id base) rs rs' c log (fresh-held role) a.absent k e in (not_same id k q.0, q.1)

    added-account : (role : Role) → Change id (fresh role s id base) rs rs' → Account rs' (added (adding_of role id suite base) ∷ log)
    unfolding fresh senders
    added-account Sending c = record {
      ledger =
          ledger-change id (fresh Sending s id base) rs rs' c log (added (adding_of Sending id suite base) ∷ log) a.ledger
          (λ k d. ap (λ (t : Bool). pick t (adding_of Sending id suite base ∷ senders k log) (senders k log)) (not_same id k d))
          (record {
            add = adding_of Sending id suite base;
            only =
                ap (λ (t : Bool). pick t (adding_of Sending id suite base ∷ senders id log) (senders id log)) (track-same id)
                ∙ ap (λ (l : List Adding). adding_of Sending id suite base ∷ l) senders-none;
            id-is = refl;
            suite-is = known;
            salt-is = refl;
            key-is = refl;
          });
      absent = absent-added Sending c;
      fresh-adds = (absent-here, a.fresh-adds);
      objects = a.objects;
      covered = covered-change id (fresh Sending s id base) rs rs' c (rw free (omega arith)) log a.covered;
    }
    added-account Receiving c = record {
      ledger = ledger-change id (fresh Receiving s id base) rs rs' c log (added (adding_of Receiving id suite base) ∷ log) a.ledger (λ k d. refl) senders-none;
      absent = absent-added Receiving c;
      fresh-adds = (absent-here, a.fresh-adds);
      objects = a.objects;
      covered = covered-change id (fresh Receiving s id base) rs rs' c (rw free (omega arith)) log a.covered;
    }

  -- ---- Remove

  removed-account : (rs' : List TrackRecord) → is_empty (get id rs) ≡ false → Change id (retired (get id rs)) rs rs' → Account rs' (other ∷ log)
  removed-account rs' n c =
      pass-by rs' log (record {
        ledger = ledger-change id (retired (get id rs)) rs rs' c log log a.ledger (λ k d. refl) (retired-entry (get id rs) (senders id log) n);
        absent = λ k e. (absent-change id (retired (get id rs)) rs rs' c log (retired-held (get id rs) n) a.absent k e).1;
        fresh-adds = a.fresh-adds;
        objects = a.objects;
        covered = covered-change id (retired (get id rs)) rs rs' c (retired-floor (get id rs)) log a.covered;
      })

  -- ---- Seal

  source_of : (k : Kind) (t : Track) (l : List Adding) → sends k ≡ true → EntryOf k t l → Source t l
  source_of Sender t l s e = e
  source_of Receiver t l s e = absurd (false≢true s)
  source_of Retired t l s e = absurd (false≢true s)

  entry_of : (k : Kind) (t : Track) (l : List Adding) → sends k ≡ true → Source t l → EntryOf k t l
  entry_of Sender t l s e = e
  entry_of Receiver t l s e = absurd (false≢true s)
  entry_of Retired t l s e = absurd (false≢true s)

  module _ (group object : ℕ) (properties plaintext : List ℕ) (o : Outcome) (t : Track) (below : group < 2 ^ 64) (op : Octets plaintext) (p : Sealed rs id group object properties plaintext o t) where
    source : Source t (senders id log)
    source = source_of t.kind t (senders id log) p.sends (rw p.found at (a.ledger id))

    sealed-fact : Fact (sealing_of id group object properties plaintext o) log
    sealed-fact = record {
      add = source.add;
      suite = t.suite;
      only = source.only;
      add-id = source.id-is ∙ p.id-is;
      known = source.suite-is;
      group-below = below;
      object-below = p.object-below;
      bytes-is = p.object-is ∙ (λ i. secured t.suite (sym source.key-is i) (sym source.salt-is i) id.name id.key_id group object properties plaintext);
      plaintext-octets = op;
      plaintext-most = p.plaintext-most;
      properties-most = p.properties-most;
    }

    sealed-below : (y : Sealing) (l : List Event) → Covered rs y l → Below (sealing_of id group object properties plaintext o) y l
    sealed-below y l q e =
        let f : floor_of (get y.id rs) ≡ t.floor = ap (λ (k : TrackId). floor_of (get k rs)) e ∙ ap floor_of p.found in
        omega (arith, q, p.pair-above)

    sealed-account : Account (put id (advanced (counter group object) (track t)) rs) (sealed (sealing_of id group object properties plaintext o) ∷ log)
    unfolding senders advanced
    sealed-account = record {
      ledger =
          ledger-change id (advanced (counter group object) (track t)) rs (put id (advanced (counter group object) (track t)) rs) p.change log (sealed (sealing_of id group object properties plaintext o) ∷ log) a.ledger (λ k d. refl)
          (entry_of t.kind _ (senders id log) p.sends (record {
            add = source.add;
            only = source.only;
            id-is = source.id-is;
            suite-is = source.suite-is;
            salt-is = source.salt-is;
            key-is = source.key-is;
          }));
      absent = λ k e. (absent-change id (advanced (counter group object) (track t)) rs (put id (advanced (counter group object) (track t)) rs) p.change log refl a.absent k e).1;
      fresh-adds = a.fresh-adds;
      objects = ((sealed-fact, each_map (Covered rs) (Below (sealing_of id group object properties plaintext o)) sealed-below log a.covered), a.objects);
      covered = (
        rw p.change.at-id (omega arith),
        covered-change id (advanced (counter group object) (track t)) rs (put id (advanced (counter group object) (track t)) rs) p.change (rw p.found (omega (arith, p.pair-above))) log a.covered,
      );
    }

-- ---- every list

pub open-store : (s : List ℕ) (id : TrackId) (group object : ℕ) (properties bytes room : List ℕ) → (opening s id group object properties bytes room).store ≡ s
unfolding opening open_at
open-store s id group object properties bytes room = settled-store _ s room _ refl

-- the event of a call is known once it is known whether the call answered 0
happened : (n : ℕ) (e : Event) → n ≡ 0 → pick (eqb n 0) e other ≡ e
happened n e z = rw (eq-eqb n 0 z)

passed-by : (n : ℕ) (e : Event) → (n ≡ 0 → ⊥) → pick (eqb n 0) e other ≡ other
passed-by n e d = rw (ne_eqb n 0 d)

module _ (h : History) (i : Inv h) where
  -- an event that is e, and a store that is rs in bytes
  goes_on : (s : List ℕ) (rs : List TrackRecord) (e' e : Event) → Stored s rs → e' ≡ e → Account rs (e ∷ h.log) → Inv (record { store = s; log = e' ∷ h.log })
  goes_on s rs e' e st p acc = record { table = rs; is-stored = st; account = rw p acc }

  stays : (s : List ℕ) (e' : Event) → s ≡ h.store → e' ≡ other → Inv (record { store = s; log = e' ∷ h.log })
  stays s e' q p = goes_on s i.table e' other (rw q i.is-stored) p (pass-by i.table h.log i.account)

pub step_keeps : (c : Call) (h : History) → Typed c → Inv h → Inv (step c h)
unfolding step outcome event
step_keeps (Add role id suite base) h q i = by (add_step h.store i.table i.is-stored role id suite base q.0.1 q.0.0)
  where
    by : AddStep h.store i.table role id suite base (add h.store role id suite base) → Inv (step (Add role id suite base) h)
    by (AddStep.refused d e) = stays h i _ _ e (passed-by _ _ d)
    by (AddStep.done s p) =
        goes_on h i _ (fill (fresh role s id base) i.table) _ (added (adding_of role id suite base)) p.store_is (happened _ _ p.answers)
        (added-account i.table h.log i.account id suite base s p.known (fill (fresh role s id base) i.table) p.free role p.change)
step_keeps (Remove id) h q i = by (remove-step h.store i.table i.is-stored id)
  where
    by : RemoveStep h.store i.table id (remove h.store id) → Inv (step (Remove id) h)
    by (RemoveStep.refused d e) = stays h i _ _ e refl
    by (RemoveStep.done z n c st) =
        goes_on h i _ (put id (retired (get id i.table)) i.table) other other st refl (removed-account i.table h.log i.account id (put id (retired (get id i.table)) i.table) n c)
step_keeps (Seal id group object properties plaintext room) h q i = by (seal-step h.store i.table i.is-stored id group object properties plaintext room q.1)
  where
    by : SealStep h.store i.table id group object properties plaintext (seal h.store id group object properties plaintext room) → Inv (step (Seal id group object properties plaintext room) h)
    by (SealStep.refused d e) = stays h i _ _ e (passed-by _ _ d)
    by (SealStep.done t p) =
        goes_on h i _ (put id (advanced (counter group object) (track t)) i.table) _ (sealed (sealing_of id group object properties plaintext (seal h.store id group object properties plaintext room))) p.store_is (happened _ _ p.answers)
        (sealed-account i.table h.log i.account id group object properties plaintext (seal h.store id group object properties plaintext room) t q.1 q.3 p)
step_keeps (Open id group object properties bytes room) h q i = stays h i _ _ (open-store h.store id group object properties bytes room) refl

pub run-keeps : (cs : List Call) (h : History) → AllTyped cs → Inv h → Inv (run cs h)
unfolding run
run-keeps [] h q i = i
run-keeps (c ∷ cs) h q i = run-keeps cs (step c h) q.1 (step_keeps c h q.0 i)

pub start-keeps : (s : List ℕ) → (make s).number ≡ 0 → Inv (start s)
unfolding start senders
start-keeps s e =
    let m = make-stored s e in
    record {
      table = replicate m.count empty;
      is-stored = m.is-stored;
      account = record { ledger = λ k. rw (empties-get k m.count); absent = λ k q. tt; fresh-adds = tt; objects = tt; covered = tt };
    }

-- SPDX-License-Identifier: MIT
-- Sealing or opening under a KID depends on other records only through soundness, and changes none of them. Assumes nothing.
use mathlib.Core.Path.{◌≡◌, refl, sym, ◌∙◌, ap, ap₂}
use mathlib.Core.Bool.{true, false≢true}
use mathlib.Core.List.{List, []}
use Prim.Native.Nat.{ℕ, zero, suc, ◌<◌}
use lib.Dec.{leb}
use lib.ListN.{length, get_or, length-set, get_or-eq_default}
use lib.Seq.{get_or-set_same, get_or-set_other}
use borrow.Author.Tests.{leb-true, leb-false}
use Rattle.octets.specs.Octets.{Octets}
use Rattle.begin_seal.specs.Begin.{begin_causes, begin_at, seal_begin}
use Rattle.begin_seal.proofs.Begins.{success-of, BeginStep, begin-on, begin-step}
use Rattle.begin_check.specs.Check.{check_causes, check_at, check_begin}
use Rattle.begin_check.proofs.Checks.{success, check-on, check-store}
use Rattle.header.specs.Answers.{read_kid, read_ctr}
use Rattle.header.specs.Header.{read_header}
use Rattle.answers.specs.Answers.{first, Outcome, settled_on, settled}
use Rattle.store.specs.Cipher.{Cipher}
use Rattle.key_record.specs.Record.{KeyRecord, empty, advanced, noted, holds}
use Rattle.store.specs.Store.{records, sound}
use Rattle.store.specs.Table.{get, put}
use Rattle.answers.proofs.Basics.{Two, yes', no', two}
use Rattle.store.proofs.CipherLaws.{Laws}
use Rattle.store.proofs.Stores.{Stored, kids-apart, sound-stored, stored-records, stored-lengths}
use Rattle.store.proofs.Tables.{get_at, put-at}
use Rattle.judge_seal.specs.Seal.{seal_at, seal}
use Rattle.judge_open.specs.Open.{open_at, opening}
use Rattle.judge_open.proofs.Opened.{OpenStep, open-on, open_step}
use Rattle.sframe.specs.Promises.{Alike, OthersStay, SameAnswer}
use Rattle.judge_seal.proofs.Seals.{next, SealStep, seal-step, seal-on}

-- a place whose record holds a KID is a place of the table
inside : (kid : ℕ) (rs : List KeyRecord) (i : ℕ) → holds kid (get_or rs i empty) ≡ true → i < length rs
unfolding holds
inside kid rs i h = by (two (leb (length rs) i))
  where
    by : Two (leb (length rs) i) → i < length rs
    by (no' t) = leb-false (length rs) i t
    by (yes' t) = absurd (false≢true (ap (holds kid) (sym (get_or-eq_default rs empty (leb-true (length rs) i t))) ∙ h))

-- outcomes that answer and write alike
abbrev Agree : Outcome → Outcome → Type 0
Agree o p = (o.number ≡ p.number) × (o.written ≡ p.written) × (o.room ≡ p.room) × (o.state ≡ p.state)

settled-on-agree : (n : ℕ) (s t room state : List ℕ) (o p : Outcome) → Agree o p → Agree (settled_on n s room state o) (settled_on n t room state p)
settled-on-agree zero s t room state o p a = a
settled-on-agree (suc n) s t room state o p a = (refl, refl, refl, refl)

settled-agree : (n : ℕ) (s t room : List ℕ) (o p : Outcome) → Agree o p → Agree (settled n s room o) (settled n t room p)
unfolding settled
settled-agree n s t room o p a = settled-on-agree n s t room [] o p a

-- outcomes that are such
agree-as : (o p o' p' : Outcome) → o ≡ o' → p ≡ p' → Agree o' p' → Agree o p
agree-as o p o' p' e f g = (
  ap (λ (x : Outcome). x.number) e ∙ g.0 ∙ sym (ap (λ (x : Outcome). x.number) f),
  ap (λ (x : Outcome). x.written) e ∙ g.1 ∙ sym (ap (λ (x : Outcome). x.written) f),
  ap (λ (x : Outcome). x.room) e ∙ g.2 ∙ sym (ap (λ (x : Outcome). x.room) f),
  ap (λ (x : Outcome). x.state) e ∙ g.3 ∙ sym (ap (λ (x : Outcome). x.state) f),
)

-- ---- a call that changes the record of a KID where it answers 0, and else nothing

data Changed (s : List ℕ) (kid : ℕ) (new : KeyRecord) (o : Outcome) : Type 0 where
  changed : o.number ≡ 0 → Stored o.store (put kid new (records s)) → Changed s kid new o
  stayed : (o.number ≡ 0 → ⊥) → o.store ≡ s → Changed s kid new o

-- the record under the KID after a call that answered that number
after : ℕ → KeyRecord → KeyRecord → KeyRecord
after zero new held = new
after (suc n) new held = held

module _ (s : List ℕ) (kid place : ℕ) (os : Octets s) (ss : sound s ≡ true) (h : holds kid (get_or (records s) place empty) ≡ true) where
  st : Stored s (records s)
  st = sound-stored s os ss

  here : get kid (records s) ≡ get_or (records s) place empty
  here = get_at kid (records s) place (kids-apart st.table) h

  module _ (new : KeyRecord) (o : Outcome) where
    record-after : Changed s kid new o → get_or (records o.store) place empty ≡ after o.number new (get_or (records s) place empty)
    unfolding after
    record-after (changed z t) =
        ap (λ (x : List KeyRecord). get_or x place empty) (stored-records o.store (put kid new (records s)) t)
        ∙ ap (λ (x : List KeyRecord). get_or x place empty) (put-at kid new (records s) place (kids-apart st.table) h)
        ∙ get_or-set_same (records s) place new empty (inside kid (records s) place h)
        ∙ sym (ap (λ (n : ℕ). after n new (get_or (records s) place empty)) z)
    record-after (stayed d e) = ap (λ (x : List ℕ). get_or (records x) place empty) e ∙ sym (stays o.number d)
      where
        stays : (n : ℕ) → (n ≡ 0 → ⊥) → after n new (get_or (records s) place empty) ≡ get_or (records s) place empty
        stays zero d = absurd (d refl)
        stays (suc n) d = refl

    others-after : Changed s kid new o → OthersStay s o place
    others-after (stayed d e) = record { length-stays = ap length e; others-stay = λ j d. ap (λ (x : List ℕ). get_or (records x) j empty) e }
    others-after (changed z t) =
        let q = put-at kid new (records s) place (kids-apart st.table) h in
        record {
          length-stays = stored-lengths o.store s (put kid new (records s)) (records s) t st (ap length q ∙ length-set (records s) place new);
          others-stay = λ j d.
              ap (λ (x : List KeyRecord). get_or x j empty) (stored-records o.store (put kid new (records s)) t ∙ q)
              ∙ get_or-set_other (records s) place j new empty d;
        }

module _ (s t : List ℕ) (kid i j : ℕ) (a : Alike s t kid i j) where
  t-holds : holds kid (get_or (records t) j empty) ≡ true
  t-holds = rw a.alike at a.holds-kid

  -- where such a call answers alike on both stores, and makes the record anew in one way
  same_answer : (f : KeyRecord → KeyRecord) (o p : Outcome) → Agree o p → Changed s kid (f (get_or (records s) i empty)) o → Changed t kid (f (get_or (records t) j empty)) p → SameAnswer s t i j o p
  same_answer f o p g x y = record {
    same_number = g.0;
    same_length = g.1;
    same-room = g.2;
    same-state = g.3;
    same-record =
        record-after s kid i a.s-octets a.s-sound a.holds-kid (f (get_or (records s) i empty)) o x
        ∙ ap₂ (λ (n : ℕ) (r : KeyRecord). after n (f r) r) g.0 a.alike
        ∙ sym (record-after t kid j a.t-octets a.t-sound t-holds (f (get_or (records t) j empty)) p y);
    s-others = others-after s kid i a.s-octets a.s-sound a.holds-kid (f (get_or (records s) i empty)) o x;
    t-others = others-after t kid j a.t-octets a.t-sound t-holds (f (get_or (records t) j empty)) p y;
  }

-- ---- Seal

module _ (cipher : Cipher) (laws : Laws cipher) (s : List ℕ) (kid place : ℕ) (os : Octets s) (ss : sound s ≡ true) (h : holds kid (get_or (records s) place empty) ≡ true)
    (metadata plaintext : List ℕ) (offset : ℕ) (room : List ℕ) where
  seal-at : seal cipher s kid metadata plaintext offset room ≡ seal_at cipher true (get_or (records s) place empty) (records s) s kid metadata plaintext offset room
  seal-at =
      seal-on cipher laws s (records s) (st s kid place os ss h) kid metadata plaintext offset room
      ∙ ap (λ (x : KeyRecord). seal_at cipher true x (records s) s kid metadata plaintext offset room) (here s kid place os ss h)

  seal-changed : Changed s kid (advanced (get_or (records s) place empty)) (seal cipher s kid metadata plaintext offset room)
  unfolding advanced
  seal-changed = by (seal cipher s kid metadata plaintext offset room) (seal-step cipher laws s (records s) (st s kid place os ss h) kid metadata plaintext offset room)
    where
      by : (o : Outcome) → SealStep cipher s (records s) kid metadata plaintext offset o → Changed s kid (advanced (get_or (records s) place empty)) o
      by o (SealStep.done r p) =
          let e : next r ≡ advanced (get_or (records s) place empty) = ap advanced (sym p.found ∙ here s kid place os ss h) in
          changed p.answers (rw e at p.store_is)
      by o (SealStep.refused d e) = stayed d e

module _ (cipher : Cipher) (laws : Laws cipher) (s t : List ℕ) (kid i j : ℕ) (a : Alike s t kid i j) where
  pub alone-seal : (metadata plaintext : List ℕ) (offset : ℕ) (room : List ℕ)
      → SameAnswer s t i j (seal cipher s kid metadata plaintext offset room) (seal cipher t kid metadata plaintext offset room)
  unfolding seal_at
  alone-seal metadata plaintext offset room =
      let held = get_or (records s) i empty in
      let on-s = seal-at cipher laws s kid i a.s-octets a.s-sound a.holds-kid metadata plaintext offset room in
      let on-t = seal-at cipher laws t kid j a.t-octets a.t-sound (t-holds s t kid i j a) metadata plaintext offset room ∙ ap (λ (x : KeyRecord). seal_at cipher true x (records t) t kid metadata plaintext offset room) (sym a.alike) in
      let g : Agree (seal_at cipher true held (records s) s kid metadata plaintext offset room) (seal_at cipher true held (records t) t kid metadata plaintext offset room) = settled-agree _ s t room _ _ (refl, refl, refl, refl) in
      same_answer s t kid i j a advanced (seal cipher s kid metadata plaintext offset room) (seal cipher t kid metadata plaintext offset room) (agree-as _ _ _ _ on-s on-t g)
      (seal-changed cipher laws s kid i a.s-octets a.s-sound a.holds-kid metadata plaintext offset room)
      (seal-changed cipher laws t kid j a.t-octets a.t-sound (t-holds s t kid i j a) metadata plaintext offset room)

-- ---- Open

module _ (cipher : Cipher) (s : List ℕ) (place : ℕ) (os : Octets s) (ss : sound s ≡ true) (metadata bytes room : List ℕ) (ob : Octets bytes)
    (h : holds (read_kid (read_header bytes)) (get_or (records s) place empty) ≡ true) where
  open-at : opening cipher s metadata bytes room ≡ open_at cipher true (read_header bytes) (get_or (records s) place empty) (records s) s metadata bytes room
  open-at =
      open-on cipher s (records s) (st s (read_kid (read_header bytes)) place os ss h) metadata bytes room
      ∙ ap (λ (x : KeyRecord). open_at cipher true (read_header bytes) x (records s) s metadata bytes room) (here s (read_kid (read_header bytes)) place os ss h)

  open-changed : Changed s (read_kid (read_header bytes)) (noted (read_ctr (read_header bytes)) (get_or (records s) place empty)) (opening cipher s metadata bytes room)
  unfolding noted
  open-changed = by (opening cipher s metadata bytes room) (open_step cipher s (records s) (st s (read_kid (read_header bytes)) place os ss h) metadata bytes room ob)
    where
      by : (o : Outcome) → OpenStep s (records s) (read_kid (read_header bytes)) (read_ctr (read_header bytes)) o → Changed s (read_kid (read_header bytes)) (noted (read_ctr (read_header bytes)) (get_or (records s) place empty)) o
      by o (OpenStep.done r w p) =
          let e = ap (noted (read_ctr (read_header bytes))) (sym p.found ∙ here s (read_kid (read_header bytes)) place os ss h) in
          changed p.answers (rw e at p.store_is)
      by o (OpenStep.refused d e) = stayed d e

module _ (cipher : Cipher) (s t : List ℕ) (i j : ℕ) (metadata bytes room : List ℕ) (ob : Octets bytes) (a : Alike s t (read_kid (read_header bytes)) i j) where
  pub alone-open : SameAnswer s t i j (opening cipher s metadata bytes room) (opening cipher t metadata bytes room)
  unfolding open_at
  alone-open =
      let held = get_or (records s) i empty in
      let th = t-holds s t (read_kid (read_header bytes)) i j a in
      let on-s = open-at cipher s i a.s-octets a.s-sound metadata bytes room ob a.holds-kid in
      let on-t = open-at cipher t j a.t-octets a.t-sound metadata bytes room ob th ∙ ap (λ (x : KeyRecord). open_at cipher true (read_header bytes) x (records t) t metadata bytes room) (sym a.alike) in
      let g : Agree (open_at cipher true (read_header bytes) held (records s) s metadata bytes room) (open_at cipher true (read_header bytes) held (records t) t metadata bytes room) = settled-agree _ s t room _ _ (refl, refl, refl, refl) in
      same_answer s t (read_kid (read_header bytes)) i j a (noted (read_ctr (read_header bytes))) (opening cipher s metadata bytes room) (opening cipher t metadata bytes room) (agree-as _ _ _ _ on-s on-t g)
      (open-changed cipher s i a.s-octets a.s-sound metadata bytes room ob a.holds-kid)
      (open-changed cipher t j a.t-octets a.t-sound metadata bytes room ob th)

-- ---- Begin

module _ (cipher : Cipher) (s : List ℕ) (kid place : ℕ) (os : Octets s) (ss : sound s ≡ true) (h : holds kid (get_or (records s) place empty) ≡ true)
    (metadata : List ℕ) (announced : ℕ) (state room : List ℕ) where
  begin-at : seal_begin cipher s kid metadata announced state room ≡ begin_at cipher true (get_or (records s) place empty) (records s) s kid metadata announced state room
  begin-at =
      begin-on cipher s (records s) (st s kid place os ss h) kid metadata announced state room
      ∙ ap (λ (x : KeyRecord). begin_at cipher true x (records s) s kid metadata announced state room) (here s kid place os ss h)

  begin-changed : Changed s kid (advanced (get_or (records s) place empty)) (seal_begin cipher s kid metadata announced state room)
  unfolding advanced
  begin-changed = by (seal_begin cipher s kid metadata announced state room) (begin-step cipher s (records s) (st s kid place os ss h) kid metadata announced state room)
    where
      by : (o : Outcome) → BeginStep cipher s (records s) kid metadata announced state o → Changed s kid (advanced (get_or (records s) place empty)) o
      by o (BeginStep.done r p) =
          let e : next r ≡ advanced (get_or (records s) place empty) = ap advanced (sym p.found ∙ here s kid place os ss h) in
          changed p.answers (rw e at p.store_is)
      by o (BeginStep.refused d e) = stayed d e

module _ (cipher : Cipher) (s t : List ℕ) (kid i j : ℕ) (a : Alike s t kid i j) where
  pub alone-begin : (metadata : List ℕ) (announced : ℕ) (state room : List ℕ)
      → SameAnswer s t i j (seal_begin cipher s kid metadata announced state room) (seal_begin cipher t kid metadata announced state room)
  unfolding begin_at success-of
  alone-begin metadata announced state room =
      let held = get_or (records s) i empty in
      let th = t-holds s t kid i j a in
      let on-s = begin-at cipher s kid i a.s-octets a.s-sound a.holds-kid metadata announced state room in
      let on-t = begin-at cipher t kid j a.t-octets a.t-sound th metadata announced state room ∙ ap (λ (x : KeyRecord). begin_at cipher true x (records t) t kid metadata announced state room) (sym a.alike) in
      let g : Agree (begin_at cipher true held (records s) s kid metadata announced state room) (begin_at cipher true held (records t) t kid metadata announced state room) = settled-on-agree (first (begin_causes true held kid (length metadata) announced (length room) (length state))) s t room state (success-of cipher held (records s) kid metadata announced state room) (success-of cipher held (records t) kid metadata announced state room) (refl, refl, refl, refl) in
      same_answer s t kid i j a advanced (seal_begin cipher s kid metadata announced state room) (seal_begin cipher t kid metadata announced state room) (agree-as _ _ _ _ on-s on-t g)
      (begin-changed cipher s kid i a.s-octets a.s-sound a.holds-kid metadata announced state room)
      (begin-changed cipher t kid j a.t-octets a.t-sound th metadata announced state room)

-- ---- CheckBegin

module _ (cipher : Cipher) (s : List ℕ) (place : ℕ) (os : Octets s) (ss : sound s ≡ true) (metadata bytes : List ℕ) (announced : ℕ) (state : List ℕ)
    (h : holds (read_kid (read_header bytes)) (get_or (records s) place empty) ≡ true) where
  check-at : check_begin cipher s metadata bytes announced state ≡ check_at cipher true (read_header bytes) (get_or (records s) place empty) s metadata bytes announced state
  check-at =
      check-on cipher s (records s) (st s (read_kid (read_header bytes)) place os ss h) metadata bytes announced state
      ∙ ap (λ (x : KeyRecord). check_at cipher true (read_header bytes) x s metadata bytes announced state) (here s (read_kid (read_header bytes)) place os ss h)

module _ (cipher : Cipher) (s t : List ℕ) (i j : ℕ) (metadata bytes : List ℕ) (announced : ℕ) (state : List ℕ) (a : Alike s t (read_kid (read_header bytes)) i j) where
  pub alone_check : SameAnswer s t i j (check_begin cipher s metadata bytes announced state) (check_begin cipher t metadata bytes announced state)
  unfolding check_at success
  alone_check =
      let held = get_or (records s) i empty in
      let th = t-holds s t (read_kid (read_header bytes)) i j a in
      let on-s = check-at cipher s i a.s-octets a.s-sound metadata bytes announced state a.holds-kid in
      let on-t = check-at cipher t j a.t-octets a.t-sound metadata bytes announced state th ∙ ap (λ (x : KeyRecord). check_at cipher true (read_header bytes) x t metadata bytes announced state) (sym a.alike) in
      let g : Agree (check_at cipher true (read_header bytes) held s metadata bytes announced state) (check_at cipher true (read_header bytes) held t metadata bytes announced state) = settled-on-agree (first (check_causes true (read_header bytes) held (length metadata) announced (length state))) s t [] state (success cipher (read_header bytes) held s metadata bytes announced state) (success cipher (read_header bytes) held t metadata bytes announced state) (refl, refl, refl, refl) in
      let z = agree-as (check_begin cipher s metadata bytes announced state) (check_begin cipher t metadata bytes announced state) _ _ on-s on-t g in
      let es = check-store cipher s metadata bytes announced state in
      let et = check-store cipher t metadata bytes announced state in
      record {
        same_number = z.0;
        same_length = z.1;
        same-room = z.2;
        same-state = z.3;
        same-record = ap (λ (x : List ℕ). get_or (records x) i empty) es ∙ a.alike ∙ sym (ap (λ (x : List ℕ). get_or (records x) j empty) et);
        s-others = record { length-stays = ap length es; others-stay = λ k d. ap (λ (x : List ℕ). get_or (records x) k empty) es };
        t-others = record { length-stays = ap length et; others-stay = λ k d. ap (λ (x : List ℕ). get_or (records x) k empty) et };
      }

-- SPDX-License-Identifier: MIT
-- What sealing does to the table and to the room. Assumes nothing.
use mathlib.Core.Path.{◌≡◌, refl, sym, ◌∙◌, ap, ap₂}
use mathlib.Core.Bool.{Bool, true, not, false≢true}
use mathlib.Core.List.{List, [], ◌∷◌}
use Prim.Native.Nat.{ℕ, ◌+◌, ◌<◌, ◌≤◌}
use native.Mathlib.Omega.{arith}
use lib.Dec.{ltb, eqb}
use lib.ListN.{length, take, drop}
use borrow.Author.Tests.{eqb-false, eqb-true, ltb-false}
use Rattle.octets.specs.Octets.{pasted}
use Rattle.octets.proofs.Laws.{pasted_at}
use Rattle.header.specs.Header.{header}
use Rattle.header.specs.Answers.{room_short}
use Rattle.answers.specs.Answers.{store_invalid, kid_missing, role_refused, counter_spent, input_too_long, ◌if◌, Outcome}
use Rattle.store.specs.Cipher.{Cipher}
use Rattle.key_record.specs.Record.{ceiling, SendingKey, KeyRecord, empty, sending, receiving, retired, is_empty, is_sending, suite_of, counter_of, advanced, holds}
use Rattle.store.specs.Store.{encode_all}
use Rattle.key_record.specs.Suites.{tag_size}
use Rattle.store.specs.Table.{get, put}
use Rattle.answers.proofs.Basics.{Settled, success, refusal, settle}
use Rattle.store.proofs.CipherLaws.{Laws}
use Rattle.key_record.proofs.Codec.{Fit}
use Rattle.store.proofs.Stores.{Stored, stored-sound, stored-records, Change, put-change, get_fit}
use Rattle.store.proofs.Tables.{get_holds}
use Rattle.answers.specs.Limits.{max_plaintext, max_metadata, too_long}
use Rattle.answers.proofs.Limits.{not-long}
use Rattle.judge_seal.specs.Seal.{next_length, next_frame, seal_causes, causes_of_seal, seal_at, seal}
use Rattle.judge_seal.specs.Frame.{frame}

-- a sending record once its counter is taken
abbrev pub next : SendingKey → KeyRecord
next r = sending (record { suite = r.suite; kid = r.kid; counter = r.counter + 1; salt = r.salt; key = r.key })

pub record Sealed (cipher : Cipher) (rs : List KeyRecord) (kid : ℕ) (metadata plaintext : List ℕ) (offset : ℕ) (o : Outcome) (r : SendingKey) : Type 0 where
  pub answers : o.number ≡ 0
  pub found : get kid rs ≡ sending r
  pub kid_is : r.kid ≡ kid
  pub fit : Fit (sending r)
  pub counter-below : r.counter < ceiling
  pub plaintext-most : length plaintext ≤ max_plaintext
  pub metadata-most : length metadata ≤ max_metadata
  pub frame_is : take o.written (drop offset o.room) ≡ frame cipher r.suite r.key r.salt kid r.counter metadata plaintext
  pub change : Change kid (next r) rs (put kid (next r) rs)
  pub store_is : Stored o.store (put kid (next r) rs)

pub data SealStep (cipher : Cipher) (s : List ℕ) (rs : List KeyRecord) (kid : ℕ) (metadata plaintext : List ℕ) (offset : ℕ) (o : Outcome) : Type 0 where
  done : (r : SendingKey) → Sealed cipher rs kid metadata plaintext offset o r → SealStep cipher s rs kid metadata plaintext offset o
  refused : (o.number ≡ 0 → ⊥) → o.store ≡ s → SealStep cipher s rs kid metadata plaintext offset o

pub holds-kid : (kid : ℕ) (r : SendingKey) → holds kid (sending r) ≡ true → r.kid ≡ kid
unfolding holds
holds-kid kid r h = eqb-true r.kid kid h

pub next-holds : (kid : ℕ) (r : SendingKey) → holds kid (sending r) ≡ true → holds kid (next r) ≡ true
unfolding holds
next-holds kid r h = h

pub next-fit : (cipher : Cipher) (r : SendingKey) → Fit (sending r) → r.counter < ceiling → Fit (next r)
next-fit cipher r f h = (record { known = f.0.known; kid-below = f.0.kid-below; counter-most = omega arith }, f.1)

module _ (cipher : Cipher) (laws : Laws cipher) (s : List ℕ) (rs : List KeyRecord) (t : Stored s rs) where
  pub seal-on : (kid : ℕ) (metadata plaintext : List ℕ) (offset : ℕ) (room : List ℕ) → seal cipher s kid metadata plaintext offset room ≡ seal_at cipher true (get kid rs) rs s kid metadata plaintext offset room
  unfolding seal
  seal-on kid metadata plaintext offset room =
      ap₂ (λ (v : Bool) (x : List KeyRecord). seal_at cipher v (get kid x) x s kid metadata plaintext offset room) (stored-sound s rs t) (stored-records s rs t)

  module _ (kid : ℕ) (metadata plaintext : List ℕ) (offset : ℕ) (room : List ℕ) where
    outcome-of : KeyRecord → Outcome
    outcome-of held =
        let f = next_frame cipher held kid metadata plaintext in
        record { number = 0; written = length f; store = encode_all (put kid (advanced held) rs); room = pasted room offset f; state = [] }

    sealed-by : (o : Outcome) (held : KeyRecord) → get kid rs ≡ held → Settled (causes_of_seal true held kid (length metadata) (length plaintext) offset (length room)) s room (outcome-of held) o
        → SealStep cipher s rs kid metadata plaintext offset o
    unfolding causes_of_seal seal_causes outcome-of next_frame advanced
    sealed-by o held g (refusal d r) = refused (λ e. d (sym r.number_is ∙ e)) r.store-stays
    sealed-by o empty g (success p q) = absurd (false≢true (sym p.1.0))
    sealed-by o (retired r) g (success p q) = absurd (false≢true (sym p.1.1.0))
    sealed-by o (receiving r w) g (success p q) = absurd (false≢true (sym p.1.1.0))
    sealed-by o (sending r) g (success p q) =
        let f : Fit (sending r) = rw g at (get_fit kid rs t.table.fit) in
        let h : holds kid (sending r) ≡ true = rw g at (get_holds kid rs (rw g)) in
        let below : r.counter < ceiling = omega (arith, f.0.counter-most, eqb-false r.counter ceiling p.1.1.1.0) in
        let sizes = not-long (length plaintext) (length metadata) p.1.1.1.1.0 in
        let c = put-change kid rs t.table (next r) (next-fit cipher r f below) (next-holds kid r h) (rw g) in
        let enough = ltb-false (length room) (offset + next_length (sending r) kid (length plaintext)) p.1.1.1.1.1.0 in
        let whole = frame cipher r.suite r.key r.salt kid r.counter metadata plaintext in
        done r (record {
          answers = ap (λ (x : Outcome). x.number) q;
          found = g;
          kid_is = holds-kid kid r h;
          fit = f;
          counter-below = below;
          plaintext-most = sizes.0;
          metadata-most = sizes.1;
          frame_is = ap (λ (x : Outcome). take x.written (drop offset x.room)) q ∙ pasted_at room offset whole (omega (arith, enough));
          change = c;
          store_is = record { table = c.table; bytes-are = sym (ap (λ (x : Outcome). x.store) q) };
        })

    pub seal-step : SealStep cipher s rs kid metadata plaintext offset (seal cipher s kid metadata plaintext offset room)
    unfolding seal_at causes_of_seal seal_causes outcome-of
    seal-step =
        rw (seal-on kid metadata plaintext offset room)
        (sealed-by (seal_at cipher true (get kid rs) rs s kid metadata plaintext offset room) (get kid rs) refl
        (settle (causes_of_seal true (get kid rs) kid (length metadata) (length plaintext) offset (length room)) s room (outcome-of (get kid rs)) refl))

-- ---- the list of causes

-- written out, of what is lent
pub seal-causes-are : (valid : Bool) (held : KeyRecord) (kid : ℕ) (metadata plaintext : List ℕ) (offset : ℕ) (room : List ℕ)
    → causes_of_seal valid held kid (length metadata) (length plaintext) offset (length room)
    ≡ (store_invalid if not valid)
    ∷ (kid_missing if is_empty held)
    ∷ (role_refused if not (is_sending held))
    ∷ (counter_spent if eqb (counter_of held) ceiling)
    ∷ (input_too_long if too_long (length plaintext) (length metadata))
    ∷ (room_short if ltb (length room) (offset + (length (header kid (counter_of held)) + (length plaintext + tag_size (suite_of held)))))
    ∷ []
unfolding causes_of_seal seal_causes next_length
seal-causes-are valid held kid metadata plaintext offset room = refl

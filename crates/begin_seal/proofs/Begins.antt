-- SPDX-License-Identifier: MIT
-- What beginning to seal in pieces does to the table, the room and the running state. Assumes nothing.
use mathlib.Core.Path.{◌≡◌, refl, sym, ◌∙◌, ap, ap₂}
use mathlib.Core.Bool.{Bool, true, false≢true}
use mathlib.Core.List.{List, ◌++◌}
use Prim.Native.Nat.{ℕ, ◌<◌, ◌≤◌}
use native.Mathlib.Omega.{arith}
use lib.ListN.{length, take}
use borrow.Author.Tests.{eqb-false, ltb-false}
use Rattle.octets.specs.Octets.{pasted}
use Rattle.octets.proofs.Laws.{pasted_at}
use Rattle.header.specs.Header.{header}
use Rattle.answers.specs.Answers.{first, Outcome}
use Rattle.answers.specs.Limits.{max_plaintext, max_metadata}
use Rattle.answers.proofs.Basics.{RefusalOn, SettledOn, success, refusal, settle-on}
use Rattle.answers.proofs.Limits.{not-long}
use Rattle.piece_line.specs.State.{state_size, sealing}
use Rattle.store.specs.Cipher.{Cipher}
use Rattle.key_record.specs.Record.{ceiling, SendingKey, KeyRecord, empty, sending, receiving, retired, counter_of, advanced, holds}
use Rattle.key_record.proofs.Codec.{Fit}
use Rattle.store.specs.Store.{encode_all, records, sound}
use Rattle.store.specs.Table.{get, put}
use Rattle.store.proofs.Stores.{Stored, stored-sound, stored-records, Change, put-change, get_fit}
use Rattle.store.proofs.Tables.{get_holds}
use Rattle.judge_seal.specs.Seal.{seal_causes}
use Rattle.judge_seal.proofs.Seals.{next, holds-kid, next-holds, next-fit}
use Rattle.begin_state.specs.Begin.{first_state}
use Rattle.begin_state.proofs.Refused.{refused-on}
use Rattle.begin_seal.specs.Begin.{begin_causes, begin_at, seal_begin}

-- a beginning that answered 0: what it found, and what it left
pub record Begun (cipher : Cipher) (rs : List KeyRecord) (kid : ℕ) (metadata : List ℕ) (announced : ℕ) (state : List ℕ) (o : Outcome) (r : SendingKey) : Type 0 where
  pub answers : o.number ≡ 0
  pub found : get kid rs ≡ sending r
  pub kid_is : r.kid ≡ kid
  pub fit : Fit (sending r)
  pub counter-below : r.counter < ceiling
  pub announced-most : announced ≤ max_plaintext
  pub metadata-most : length metadata ≤ max_metadata
  pub state-enough : state_size ≤ length state
  pub header_is : take o.written o.room ≡ header kid r.counter
  pub state-is : o.state ≡ pasted state 0 (first_state cipher sealing (sending r) r.counter announced (header kid r.counter ++ metadata))
  pub change : Change kid (next r) rs (put kid (next r) rs)
  pub store_is : Stored o.store (put kid (next r) rs)

pub data BeginStep (cipher : Cipher) (s : List ℕ) (rs : List KeyRecord) (kid : ℕ) (metadata : List ℕ) (announced : ℕ) (state : List ℕ) (o : Outcome) : Type 0 where
  done : (r : SendingKey) → Begun cipher rs kid metadata announced state o r → BeginStep cipher s rs kid metadata announced state o
  refused : (o.number ≡ 0 → ⊥) → o.store ≡ s → BeginStep cipher s rs kid metadata announced state o

-- what a beginning that answers 0 leaves
unfoldable pub success-of : (cipher : Cipher) (held : KeyRecord) (rs : List KeyRecord) (kid : ℕ) (metadata : List ℕ) (announced : ℕ) (state room : List ℕ) → Outcome
success-of cipher held rs kid metadata announced state room =
    let h = header kid (counter_of held) in
    record {
      number = 0;
      written = length h;
      store = encode_all (put kid (advanced held) rs);
      room = pasted room 0 h;
      state = pasted state 0 (first_state cipher sealing held (counter_of held) announced (h ++ metadata));
    }

-- one that is refused changes nothing, on any store
at-refused : (cipher : Cipher) (valid : Bool) (held : KeyRecord) (rs : List KeyRecord) (s : List ℕ) (kid : ℕ) (metadata : List ℕ) (announced : ℕ) (state room : List ℕ)
    → ((begin_at cipher valid held rs s kid metadata announced state room).number ≡ 0 → ⊥)
    → RefusalOn (begin_at cipher valid held rs s kid metadata announced state room).number s room state (begin_at cipher valid held rs s kid metadata announced state room)
unfolding begin_at success-of
at-refused cipher valid held rs s kid metadata announced state room d =
    refused-on (first (begin_causes valid held kid (length metadata) announced (length room) (length state))) s room state (success-of cipher held rs kid metadata announced state room) refl d

pub begin-refused : (cipher : Cipher) (s : List ℕ) (kid : ℕ) (metadata : List ℕ) (announced : ℕ) (state room : List ℕ) → ((seal_begin cipher s kid metadata announced state room).number ≡ 0 → ⊥)
    → RefusalOn (seal_begin cipher s kid metadata announced state room).number s room state (seal_begin cipher s kid metadata announced state room)
unfolding seal_begin
begin-refused cipher s kid metadata announced state room d = at-refused cipher (sound s) (get kid (records s)) (records s) s kid metadata announced state room d

module _ (cipher : Cipher) (s : List ℕ) (rs : List KeyRecord) (t : Stored s rs) (kid : ℕ) (metadata : List ℕ) (announced : ℕ) (state room : List ℕ) where
  pub begin-on : seal_begin cipher s kid metadata announced state room ≡ begin_at cipher true (get kid rs) rs s kid metadata announced state room
  unfolding seal_begin
  begin-on = ap₂ (λ (v : Bool) (x : List KeyRecord). begin_at cipher v (get kid x) x s kid metadata announced state room) (stored-sound s rs t) (stored-records s rs t)

  begun-by : (o : Outcome) (held : KeyRecord) → get kid rs ≡ held → SettledOn (begin_causes true held kid (length metadata) announced (length room) (length state)) s room state (success-of cipher held rs kid metadata announced state room) o
      → BeginStep cipher s rs kid metadata announced state o
  unfolding begin_causes seal_causes success-of advanced
  begun-by o held g (refusal d r) = refused (λ e. d (sym r.number_is ∙ e)) r.store-stays
  begun-by o empty g (success p q) = absurd (false≢true (sym p.1.0))
  begun-by o (retired r) g (success p q) = absurd (false≢true (sym p.1.1.0))
  begun-by o (receiving r w) g (success p q) = absurd (false≢true (sym p.1.1.0))
  begun-by o (sending r) g (success p q) =
      let f : Fit (sending r) = rw g at (get_fit kid rs t.table.fit) in
      let h : holds kid (sending r) ≡ true = rw g at (get_holds kid rs (rw g)) in
      let below : r.counter < ceiling = omega (arith, f.0.counter-most, eqb-false r.counter ceiling p.1.1.1.0) in
      let sizes = not-long announced (length metadata) p.1.1.1.1.0 in
      let c = put-change kid rs t.table (next r) (next-fit cipher r f below) (next-holds kid r h) (rw g) in
      done r (record {
        answers = ap (λ (x : Outcome). x.number) q;
        found = g;
        kid_is = holds-kid kid r h;
        fit = f;
        counter-below = below;
        announced-most = sizes.0;
        metadata-most = sizes.1;
        state-enough = ltb-false (length state) state_size p.1.1.1.1.1.1.0;
        header_is = ap (λ (x : Outcome). take x.written x.room) q ∙ pasted_at room 0 (header kid r.counter) (omega arith);
        state-is = ap (λ (x : Outcome). x.state) q;
        change = c;
        store_is = record { table = c.table; bytes-are = sym (ap (λ (x : Outcome). x.store) q) };
      })

  pub begin-step : BeginStep cipher s rs kid metadata announced state (seal_begin cipher s kid metadata announced state room)
  unfolding begin_at begin_causes seal_causes success-of
  begin-step =
      rw begin-on
      (begun-by (begin_at cipher true (get kid rs) rs s kid metadata announced state room) (get kid rs) refl
      (settle-on (begin_causes true (get kid rs) kid (length metadata) announced (length room) (length state)) s room state (success-of cipher (get kid rs) rs kid metadata announced state room) refl))

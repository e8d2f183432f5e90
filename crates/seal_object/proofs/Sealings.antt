-- SPDX-License-Identifier: MIT
-- What sealing does to the table and to the room. Assumes nothing.
use mathlib.Core.Path.{◌≡◌, refl, sym, ◌∙◌, ap, ap₂}
use mathlib.Core.Bool.{Bool, true, false≢true}
use mathlib.Core.List.{List, [], ◌++◌}
use Prim.Native.Nat.{ℕ, ◌^◌, ◌<◌, ◌≤◌}
use lib.ListN.{length, take, drop}
use lib.Seq.{take_at}
use borrow.Author.Tests.{leb-false, ltb-false, not-false}
use Rattle.answers.specs.Answers.{Outcome}
use Rattle.answers.specs.Limits.{max_plaintext, max_metadata}
use Rattle.answers.proofs.Basics.{Settled, success, refusal, settle}
use Rattle.answers.proofs.Limits.{not-long}
use Rattle.secure_objects.specs.Objects.{object_ceiling, counter, secured}
use Rattle.secure_objects.proofs.Laws.{counter-below}
use Rattle.track_record.specs.Record.{TrackId, Track, TrackRecord, empty, track, is_sending, advanced}
use Rattle.track_record.proofs.Codec.{Fit}
use Rattle.track_record.proofs.Records.{holds-is, advanced-holds, advanced-fit}
use Rattle.tracks.specs.Tracks.{encode_all}
use Rattle.tracks.specs.Table.{get, put}
use Rattle.tracks.proofs.Stores.{Stored, stored-sound, stored-records, Change, put-change, get_fit}
use Rattle.tracks.proofs.Tables.{get_holds}
use Rattle.seal_object.specs.Seal.{seal_causes, object_under, seal_at, seal}

pub record Sealed (rs : List TrackRecord) (id : TrackId) (group object : ℕ) (properties plaintext : List ℕ) (o : Outcome) (t : Track) : Type 0 where
  pub answers : o.number ≡ 0
  pub found : get id rs ≡ track t
  pub id-is : t.id ≡ id
  pub sends : is_sending (track t) ≡ true
  pub fit : Fit (track t)
  pub object-below : object < object_ceiling
  pub pair-above : t.floor ≤ counter group object
  pub plaintext-most : length plaintext ≤ max_plaintext
  pub properties-most : length properties ≤ max_metadata
  pub object-is : take o.written o.room ≡ secured t.suite t.key t.salt id.name id.key_id group object properties plaintext
  pub change : Change id (advanced (counter group object) (track t)) rs (put id (advanced (counter group object) (track t)) rs)
  pub store_is : Stored o.store (put id (advanced (counter group object) (track t)) rs)

pub data SealStep (s : List ℕ) (rs : List TrackRecord) (id : TrackId) (group object : ℕ) (properties plaintext : List ℕ) (o : Outcome) : Type 0 where
  done : (t : Track) → Sealed rs id group object properties plaintext o t → SealStep s rs id group object properties plaintext o
  refused : (o.number ≡ 0 → ⊥) → o.store ≡ s → SealStep s rs id group object properties plaintext o

module _ (s : List ℕ) (rs : List TrackRecord) (t : Stored s rs) (id : TrackId) (group object : ℕ) (properties plaintext room : List ℕ) where
  pub seal-on : seal s id group object properties plaintext room ≡ seal_at true (get id rs) rs s id group object properties plaintext room
  unfolding seal
  seal-on = ap₂ (λ (v : Bool) (x : List TrackRecord). seal_at v (get id x) x s id group object properties plaintext room) (stored-sound s rs t) (stored-records s rs t)

  outcome-of : TrackRecord → Outcome
  outcome-of held =
      let f = object_under held id group object properties plaintext in
      record { number = 0; written = length f; store = encode_all (put id (advanced (counter group object) held) rs); room = f ++ drop (length f) room; state = [] }

  sealed-by : group < 2 ^ 64 → (o : Outcome) (held : TrackRecord) → get id rs ≡ held → Settled (seal_causes true held group object (length properties) (length plaintext) (length room)) s room (outcome-of held) o
      → SealStep s rs id group object properties plaintext o
  unfolding seal_causes outcome-of object_under
  sealed-by below o held g (refusal d r) = refused (λ e. d (sym r.number_is ∙ e)) r.store-stays
  sealed-by below o empty g (success p q) = absurd (false≢true (sym p.1.0))
  sealed-by below o (track x) g (success p q) =
      let f : Fit (track x) = rw g at (get_fit id rs t.table.fit) in
      let h = get_holds id rs (rw g) in
      let k : Rattle.track_record.specs.Record.holds id (track x) ≡ true = rw g at h in
      let sends = not-false (is_sending (track x)) p.1.1.0 in
      let low = leb-false object_ceiling object p.1.1.1.0 in
      let sizes = not-long (length plaintext) (length properties) p.1.1.1.1.1.0 in
      let c = put-change id rs t.table (advanced (counter group object) (track x)) (advanced-fit (counter group object) (track x) (counter-below group object low below) sends f) (advanced-holds id (counter group object) (track x) k) (rw g) in
      let whole = secured x.suite x.key x.salt id.name id.key_id group object properties plaintext in
      done x (record {
        answers = ap (λ (y : Outcome). y.number) q;
        found = g;
        id-is = holds-is id x k;
        sends = sends;
        fit = f;
        object-below = low;
        pair-above = ltb-false (counter group object) x.floor p.1.1.1.1.0;
        plaintext-most = sizes.0;
        properties-most = sizes.1;
        object-is = ap (λ (y : Outcome). take y.written y.room) q ∙ take_at whole (drop (length whole) room) (length whole) refl;
        change = c;
        store_is = record { table = c.table; bytes-are = sym (ap (λ (y : Outcome). y.store) q) };
      })

  pub seal-step : group < 2 ^ 64 → SealStep s rs id group object properties plaintext (seal s id group object properties plaintext room)
  unfolding seal_at seal_causes outcome-of
  seal-step below =
      rw seal-on
      (sealed-by below (seal_at true (get id rs) rs s id group object properties plaintext room) (get id rs) refl
      (settle (seal_causes true (get id rs) group object (length properties) (length plaintext) (length room)) s room (outcome-of (get id rs)) refl))

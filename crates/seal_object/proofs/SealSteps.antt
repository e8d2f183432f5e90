-- SPDX-License-Identifier: MIT
-- The steps of sealing an object, over plain variables. Assumes nothing.
use Rattle.std.specs.Prelude.{Option, Some, None}
use mathlib.Core.Path.{◌≡◌, refl, sym, ◌∙◌, ap, ap₂}
use mathlib.Core.Bool.{Bool, true, false, not}
use mathlib.Core.List.{List, [], ◌++◌}
use Prim.Native.Nat.{ℕ, ◌+◌, ◌-◌, ◌<◌, ◌≤◌}
use native.Mathlib.Nat.{sub-zero}
use native.Mathlib.Omega.{arith}
use lib.Dec.{ltb}
use lib.ListN.{length, get_or, set, take, drop, length-take}
use borrow.Author.Tests.{le-leb, lt-leb, leb-false, lt-ltb, le-ltb, ltb-false, not-false}
use Rattle.octets.specs.Octets.{Octets}
use Rattle.header.specs.Answers.{room_short}
use Rattle.answers.specs.Answers.{done, store_invalid, kid_missing, role_refused, object_too_large, pair_not_above, input_too_long, first, Outcome, settled}
use Rattle.answers.specs.Limits.{max_plaintext, max_metadata, too_long}
use Rattle.answers.proofs.Basics.{told-false, told-true, passes, settled-done, settled-refused}
use Rattle.answers.proofs.Limits.{not-long}
use Rattle.suites.specs.Suites.{Nt}
use Rattle.suites.specs.declared.sizes.Suite.{Suite}
use Rattle.suites.proofs.Laws.{Nt-most}
use Rattle.secure_objects.specs.Objects.{name_most, object_ceiling, counter, secured}
use Rattle.secure_objects.proofs.Laws.{secured-length}
use Rattle.track_record.specs.declared.Kind.TheVariants.{Sender, Receiver, Retired}
use Rattle.track_record.specs.Layout.{decode}
use Rattle.track_record.specs.Record.{TrackId, TrackRecord, empty, track, is_empty, sends, is_sending, tag_of, floor_of, salt_of, key_of, advanced}
use Rattle.track_record.specs.Inner.Rows.{suite_in}
use Rattle.track_record.specs.declared.Kind.{Kind}
use Rattle.track_record.proofs.Records.{holds-some, holds-name, Told}
use Rattle.tracks.specs.Tracks.{encode_all, records, sound}
use Rattle.tracks.specs.Table.{get, put, apart}
use Rattle.tracks.specs.Inner.Places.{RowOf, FoundIn}
use Rattle.tracks.proofs.Stores.{sound-stored, get_fit}
use Rattle.tracks.proofs.Tables.{put-at}
use Rattle.seal_object.specs.Seal.{seal_causes, object_under, seal_at, seal}

-- ---- the causes

module _ (held : TrackRecord) (group object properties plaintext room : ℕ) (k : Kind) (s : Suite) (t : Told held k s) (b : Bool) (e : b ≡ sends k) where
  pub judged-role : not b ≡ true → role_refused ≡ first (seal_causes true held group object properties plaintext room)
  unfolding seal_causes first
  judged-role q = rw (t.held, t.sends-is ∙ told-false b _ e q)

  module _ (q : not b ≡ false) where
    seals : is_sending held ≡ true
    seals = t.sends-is ∙ told-true b _ e q

    pub judged-object : object_ceiling ≤ object → object_too_large ≡ first (seal_causes true held group object properties plaintext room)
    unfolding seal_causes first
    judged-object h = rw (t.held, seals, le-leb object_ceiling object h)

    module _ (low : object < object_ceiling) (p : Bool) (w : p ≡ ltb (counter group object) (floor_of held)) where
      pub judged-pair : p ≡ true → pair_not_above ≡ first (seal_causes true held group object properties plaintext room)
      unfolding seal_causes first
      judged-pair u = rw (t.held, seals, lt-leb object_ceiling object low, sym w ∙ u)

      module _ (u : p ≡ false) (l : Bool) (long : l ≡ too_long plaintext properties) where
        pub judged-long : l ≡ true → input_too_long ≡ first (seal_causes true held group object properties plaintext room)
        unfolding seal_causes first
        judged-long h = rw (t.held, seals, lt-leb object_ceiling object low, sym w ∙ u, sym long ∙ h)

        module _ (short : l ≡ false) (nt : ℕ) (size : nt ≡ Nt s) where
          needed : plaintext + tag_of held ≡ plaintext + nt
          needed = ap (λ (x : ℕ). plaintext + x) (t.tag_is ∙ sym size)

          pub judged-room : room < plaintext + nt → room_short ≡ first (seal_causes true held group object properties plaintext room)
          unfolding seal_causes first
          judged-room h = rw (t.held, seals, lt-leb object_ceiling object low, sym w ∙ u, sym long ∙ short, needed, lt-ltb room (plaintext + nt) h)

          pub judged-done : plaintext + nt ≤ room → done ≡ first (seal_causes true held group object properties plaintext room)
          unfolding seal_causes first
          judged-done h = rw (t.held, seals, lt-leb object_ceiling object low, sym w ∙ u, sym long ∙ short, needed, le-ltb room (plaintext + nt) h)

-- the room that is asked for is no great number
pub sum_fits : (plaintext properties nt : ℕ) (l : Bool) (held : TrackRecord) (k : Kind) (s : Suite) → Told held k s → l ≡ too_long plaintext properties → l ≡ false → nt ≡ Nt s → plaintext + nt ≤ max_plaintext + 16
sum_fits plaintext properties nt l held k s t e q size = omega (arith, (not-long plaintext properties (sym e ∙ q)).0, Nt-most s)

-- what holds of a record where no cause applies
pub record Clear (held : TrackRecord) (group object properties plaintext room : ℕ) : Type 0 where
  pub there : is_empty held ≡ false
  pub sends : is_sending held ≡ true
  pub object-below : object < object_ceiling
  pub pair-above : floor_of held ≤ counter group object
  pub plaintext-most : plaintext ≤ max_plaintext
  pub properties-most : properties ≤ max_metadata
  pub room-enough : plaintext + tag_of held ≤ room

pub clear : (held : TrackRecord) (group object properties plaintext room : ℕ) → first (seal_causes true held group object properties plaintext room) ≡ done → Clear held group object properties plaintext room
unfolding seal_causes
clear held group object properties plaintext room z =
    let p = passes (seal_causes true held group object properties plaintext room) refl z in
    let sizes = not-long plaintext properties p.1.1.1.1.1.0 in
    record {
      there = p.1.0;
      sends = not-false (is_sending held) p.1.1.0;
      object-below = leb-false object_ceiling object p.1.1.1.0;
      pair-above = ltb-false (counter group object) (floor_of held) p.1.1.1.1.0;
      plaintext-most = sizes.0;
      properties-most = sizes.1;
      room-enough = ltb-false room (plaintext + tag_of held) p.1.1.1.1.1.1.0;
    }

-- ---- the object

pub object-is : (held : TrackRecord) (s : Suite) (id : TrackId) (group object : ℕ) (properties plaintext : List ℕ) → suite_in held ≡ Some s
    → object_under held id group object properties plaintext ≡ secured s (key_of held) (salt_of held) id.name id.key_id group object properties plaintext
unfolding object_under
object-is empty s id group object properties plaintext e = let z : ◌≡◌ {A = ℕ} 0 1 = cc in absurd (omega arith)
object-is (track t) s id group object properties plaintext e = let q : t.suite ≡ s = cc in ap (λ (x : Suite). secured x t.key t.salt id.name id.key_id group object properties plaintext) q

module _ (held : TrackRecord) (id : TrackId) (group object : ℕ) (properties plaintext room : List ℕ) (c : Clear held group object (length properties) (length plaintext) (length room)) (k : Kind) (s : Suite) (t : Told held k s) (nt : ℕ) (size : nt ≡ Nt s) where
  pub end-inside : length plaintext + nt ≤ length room
  end-inside = omega (arith, c.room-enough, t.tag_is)

  pub end_fits : length plaintext + nt ≤ max_plaintext + 16
  end_fits = omega (arith, c.plaintext-most, Nt-most s)

  pub body-room : length (take (length plaintext + nt - 0) room) ≡ length plaintext + Nt s
  body-room = let h = end-inside in simp length-take (omega arith)

  module _ (key salt out x : List ℕ) (ek : key ≡ key_of held) (es : salt ≡ salt_of held) (w : out ≡ secured s key salt id.name id.key_id group object properties plaintext) (y : x ≡ out ++ drop (length plaintext + nt - 0) room) where
    out-is : out ≡ object_under held id group object properties plaintext
    out-is =
        w
        ∙ ap₂ (λ (a b : List ℕ). secured s a b id.name id.key_id group object properties plaintext) ek es
        ∙ sym (object-is held s id group object properties plaintext t.suite-is)

    out-length : length plaintext + nt ≡ length (object_under held id group object properties plaintext)
    out-length =
        sym (ap length (sym out-is ∙ w) ∙ secured-length s key salt id.name id.key_id group object properties plaintext ∙ ap (λ (n : ℕ). length plaintext + n) (sym size))

    pub object-written : (length plaintext + nt ≡ length (object_under held id group object properties plaintext)) × (x ≡ object_under held id group object properties plaintext ++ drop (length plaintext + nt) room)
    object-written = (out-length, y ∙ ap₂ (λ (a : List ℕ) (n : ℕ). a ++ drop n room) out-is (sub-zero (length plaintext + nt)))

-- ---- Seal

-- what a call answers, and what it leaves in store and room
abbrev pub Leaves : Outcome → ℕ → ℕ → List ℕ → List ℕ → Type 0
Leaves o number written store room = ((number ≡ o.number) × (written ≡ o.written)) × ((store ≡ o.store) × (room ≡ o.room))

leaves : (o p : Outcome) → o ≡ p → Leaves o p.number p.written p.store p.room
leaves o p e = ((sym (ap (λ (x : Outcome). x.number) e), sym (ap (λ (x : Outcome). x.written) e)), (sym (ap (λ (x : Outcome). x.store) e), sym (ap (λ (x : Outcome). x.room) e)))

-- the success of Seal on a table
success : TrackRecord → List TrackRecord → TrackId → ℕ → ℕ → List ℕ → List ℕ → List ℕ → Outcome
success held rs id group object properties plaintext room =
    let f = object_under held id group object properties plaintext in
    record { number = 0; written = length f; store = encode_all (put id (advanced (counter group object) held) rs); room = f ++ drop (length f) room; state = [] }

module _ (s : List ℕ) (id : TrackId) (group object : ℕ) (properties plaintext room : List ℕ) where
  pub seal-unsound : (r : Bool) → r ≡ sound s → not r ≡ true → Leaves (seal s id group object properties plaintext room) store_invalid 0 s room
  unfolding seal seal_at seal_causes first settled
  seal-unsound r e t = let f = told-false r _ e t in rw f ((refl, refl), (refl, refl))

  module _ (is-sound : sound s ≡ true) where
    -- what Seal comes to once the record is found
    outcome-of : (held : TrackRecord) → get id (records s) ≡ held
        → seal s id group object properties plaintext room
        ≡ settled (first (seal_causes true held group object (length properties) (length plaintext) (length room))) s room (success held (records s) id group object properties plaintext room)
    unfolding seal seal_at success
    outcome-of held g = ap₂ (λ (v : Bool) (h : TrackRecord). seal_at v h (records s) s id group object properties plaintext room) is-sound g

    pub seal-missing : (p : Option ℕ) → FoundIn p id (records s) → p ≡ None → Leaves (seal s id group object properties plaintext room) kid_missing 0 s room
    unfolding seal_causes first settled
    seal-missing p f w = let g : get id (records s) ≡ empty = rw w at f in leaves _ _ (outcome-of empty g)

    module _ (p : Option ℕ) (f : FoundIn p id (records s)) (i : ℕ) (w : p ≡ Some i) where
      found : FoundIn (Some i) id (records s)
      found = rw w at f

      pub held-there : (l : List ℕ) → RowOf s i l → is_empty (decode l) ≡ false
      held-there l r = ap is_empty r.1 ∙ holds-some id (get_or (records s) i empty) found.2

      pub held_place : is_empty (get_or (records s) i empty) ≡ false
      held_place = holds-some id (get_or (records s) i empty) found.2

      pub name-fits : Octets s → length id.name ≤ name_most
      name-fits o = holds-name id (get_or (records s) i empty) (rw found.1 at (get_fit id (records s) (sound-stored s o is-sound).table.fit)) found.2

      module _ (l : List ℕ) (r : RowOf s i l) (v : ℕ) (judged : v ≡ first (seal_causes true (decode l) group object (length properties) (length plaintext) (length room))) where
        pub seal-refused : (v ≡ done → ⊥) → Leaves (seal s id group object properties plaintext room) v 0 s room
        seal-refused d =
            let o = outcome-of (decode l) (found.1 ∙ sym r.1) in
            let q = settled-refused (first (seal_causes true (decode l) group object (length properties) (length plaintext) (length room))) s room (success (decode l) (records s) id group object properties plaintext room) (λ z. d (judged ∙ z)) in
            let k = leaves _ _ o in
            ((judged ∙ sym q.number_is ∙ k.0.0, sym q.nothing_written ∙ k.0.1), (sym q.store-stays ∙ k.1.0, sym q.room-stays ∙ k.1.1))

        module _ (z : v ≡ done) where
          -- what was judged of the record holds of its bytes whenever they are lent
          pub judged-again : (m : List ℕ) → RowOf s i m → first (seal_causes true (decode m) group object (length properties) (length plaintext) (length room)) ≡ done
          judged-again m q = ap (λ (h : TrackRecord). first (seal_causes true h group object (length properties) (length plaintext) (length room))) (q.1 ∙ sym r.1) ∙ sym judged ∙ z

          pub object-fits : object < object_ceiling
          object-fits = (clear (decode l) group object (length properties) (length plaintext) (length room) (sym judged ∙ z)).object-below

          pub seal-done : Octets s → (m : List ℕ) → RowOf s i m → (n : ℕ) (x y : List ℕ) → n ≡ length (object_under (decode m) id group object properties plaintext)
              → y ≡ object_under (decode m) id group object properties plaintext ++ drop n room → x ≡ encode_all (set (records s) i (advanced (counter group object) (get_or (records s) i empty)))
              → Leaves (seal s id group object properties plaintext room) done n x y
          unfolding success
          seal-done oc m q n x y b d g =
              let a : apart (records s) ≡ true = (sound-stored s oc is-sound).table.tracks-apart in
              let o = outcome-of (decode m) (found.1 ∙ sym q.1) ∙ settled-done _ s room (success (decode m) (records s) id group object properties plaintext room) (judged-again m q) in
              let u = leaves _ _ o in
              let d' = d ∙ ap (λ (j : ℕ). object_under (decode m) id group object properties plaintext ++ drop j room) b in
              let g' : x ≡ encode_all (put id (advanced (counter group object) (decode m)) (records s)) =
              g
              ∙ ap encode_all (sym (put-at id (advanced (counter group object) (get_or (records s) i empty)) (records s) i a found.2))
              ∙ ap (λ (h : TrackRecord). encode_all (put id (advanced (counter group object) h) (records s))) (sym q.1)
              in
              ((u.0.0, b ∙ u.0.1), (g' ∙ u.1.0, d' ∙ u.1.1))

-- a kind that is another
pub sends-else : (k : Kind) → (k ≡ Sender → ⊥) → false ≡ sends k
sends-else Sender d = absurd (d refl)
sends-else Receiver d = refl
sends-else Retired d = refl

-- SPDX-License-Identifier: MIT
-- The steps of opening an object, over plain variables. Assumes nothing.
use Rattle.std.specs.Prelude.{Option, Some, None}
use mathlib.Core.Path.{◌≡◌, refl, sym, ◌∙◌, ap, ap₂}
use mathlib.Core.Bool.{Bool, true, false, not, false≢true}
use mathlib.Core.List.{List, [], ◌++◌}
use Prim.Native.Nat.{ℕ, zero, suc, ◌-◌, ◌<◌, ◌≤◌}
use native.Mathlib.Omega.{arith}
use lib.Dec.{leb, ltb}
use lib.ListN.{length, get_or, drop}
use borrow.Author.Tests.{le-leb, lt-leb, leb-false, lt-ltb, le-ltb, ltb-false, not-true, not-false}
use Rattle.octets.specs.Octets.{Octets, pick}
use Rattle.header.specs.Answers.{room_short}
use Rattle.answers.specs.Answers.{done, store_invalid, kid_missing, role_refused, object_too_large, frame_short, input_too_long, tag_differs, first, Outcome, settled}
use Rattle.answers.specs.Limits.{max_plaintext, max_metadata, too_long}
use Rattle.answers.proofs.Basics.{told-false, told-true, passes}
use Rattle.answers.proofs.Limits.{not-long}
use Rattle.suites.specs.Suites.{Nt}
use Rattle.aead.specs.Aead.{Decrypted, plain, differs, is_plain, room_after}
use Rattle.suites.specs.declared.sizes.Suite.{Suite}
use Rattle.secure_objects.specs.Objects.{name_most, object_ceiling, unsecured}
use Rattle.secure_objects.proofs.Laws.{unsecured-only, secured-length}
use Rattle.track_record.specs.declared.Kind.TheVariants.{Sender, Receiver, Retired}
use Rattle.track_record.specs.Layout.{decode}
use Rattle.track_record.specs.Record.{TrackId, TrackRecord, empty, track, is_empty, receives, is_receiving, tag_of, salt_of, key_of}
use Rattle.track_record.specs.Inner.Rows.{suite_in}
use Rattle.track_record.specs.declared.Kind.{Kind}
use Rattle.track_record.proofs.Records.{holds-some, holds-name, Told}
use Rattle.tracks.specs.Tracks.{records, sound}
use Rattle.tracks.specs.Table.{get}
use Rattle.tracks.specs.Inner.Places.{RowOf, FoundIn}
use Rattle.tracks.proofs.Stores.{sound-stored, get_fit}
use Rattle.open_object.specs.Open.{plain_of, is_differs, open_causes, decrypted_under, open_at, opening}

-- ---- the causes before the tag

module _ (held : TrackRecord) (object properties sealed room : ℕ) (k : Kind) (s : Suite) (t : Told held k s) (b : Bool) (e : b ≡ receives k) where
  pub judged-role : not b ≡ true → role_refused ≡ first (open_causes true held object properties sealed room (plain []))
  unfolding open_causes first
  judged-role q = rw (t.held, t.receives-is ∙ told-false b _ e q)

  module _ (q : not b ≡ false) where
    opens : is_receiving held ≡ true
    opens = t.receives-is ∙ told-true b _ e q

    pub judged-object : object_ceiling ≤ object → object_too_large ≡ first (open_causes true held object properties sealed room (plain []))
    unfolding open_causes first
    judged-object h = rw (t.held, opens, le-leb object_ceiling object h)

    module _ (low : object < object_ceiling) (nt : ℕ) (size : nt ≡ Nt s) where
      tag : tag_of held ≡ nt
      tag = t.tag_is ∙ sym size

      pub judged-short : sealed < nt → frame_short ≡ first (open_causes true held object properties sealed room (plain []))
      unfolding open_causes first
      judged-short h = rw (t.held, opens, lt-leb object_ceiling object low, tag, lt-ltb sealed nt h)

      module _ (h : nt ≤ sealed) (l : Bool) (long : l ≡ too_long (sealed - nt) properties) where
        pub judged-long : l ≡ true → input_too_long ≡ first (open_causes true held object properties sealed room (plain []))
        unfolding open_causes first
        judged-long u = rw (t.held, opens, lt-leb object_ceiling object low, tag, le-ltb sealed nt h, sym long ∙ u)

        module _ (u : l ≡ false) where
          pub judged-room : room < sealed - nt → room_short ≡ first (open_causes true held object properties sealed room (plain []))
          unfolding open_causes first
          judged-room r = rw (t.held, opens, lt-leb object_ceiling object low, tag, le-ltb sealed nt h, sym long ∙ u, lt-ltb room (sealed - nt) r)

          pub judged-done : sealed - nt ≤ room → done ≡ first (open_causes true held object properties sealed room (plain []))
          unfolding open_causes first
          judged-done r = rw (t.held, opens, lt-leb object_ceiling object low, tag, le-ltb sealed nt h, sym long ∙ u, le-ltb room (sealed - nt) r)

-- ---- the tag

-- the tag's cause comes last
last-cause : (held : TrackRecord) (object properties sealed room : ℕ) (given : Decrypted) → first (open_causes true held object properties sealed room (plain [])) ≡ 0
    → first (open_causes true held object properties sealed room given) ≡ pick (is_differs given) tag_differs 0
unfolding open_causes first
last-cause held object properties sealed room given z =
    let p = passes (open_causes true held object properties sealed room (plain [])) refl z in
    rw (p.1.0, p.1.1.0, p.1.1.1.0, p.1.1.1.1.0, p.1.1.1.1.1.0, p.1.1.1.1.1.1.0)

-- another cause is the answer whatever the bytes decrypt to
other-cause : (held : TrackRecord) (object properties sealed room : ℕ) (given : Decrypted) → (first (open_causes true held object properties sealed room (plain [])) ≡ 0 → ⊥)
    → first (open_causes true held object properties sealed room given) ≡ first (open_causes true held object properties sealed room (plain []))
unfolding open_causes first
other-cause held object properties sealed room given d =
    by (is_empty held) (not (is_receiving held)) (leb object_ceiling object) (ltb sealed (tag_of held)) (too_long (sealed - tag_of held) properties) (ltb room (sealed - tag_of held)) d
  where
    by : (a b c e f g : Bool) → (pick a kid_missing (pick b role_refused (pick c object_too_large (pick e frame_short (pick f input_too_long (pick g room_short 0))))) ≡ 0 → ⊥)
        → pick a kid_missing (pick b role_refused (pick c object_too_large (pick e frame_short (pick f input_too_long (pick g room_short (pick (is_differs given) tag_differs 0))))))
        ≡ pick a kid_missing (pick b role_refused (pick c object_too_large (pick e frame_short (pick f input_too_long (pick g room_short 0)))))
    by true b c e f g n = refl
    by false true c e f g n = refl
    by false false true e f g n = refl
    by false false false true f g n = refl
    by false false false false true g n = refl
    by false false false false false true n = refl
    by false false false false false false n = absurd (n refl)

-- what holds of a record where no cause before the tag applies
pub record Clear (held : TrackRecord) (object properties sealed room : ℕ) : Type 0 where
  pub there : is_empty held ≡ false
  pub object-below : object < object_ceiling
  pub tag-inside : tag_of held ≤ sealed
  pub plaintext-most : sealed - tag_of held ≤ max_plaintext
  pub properties-most : properties ≤ max_metadata
  pub room-enough : sealed - tag_of held ≤ room

pub clear : (held : TrackRecord) (object properties sealed room : ℕ) → first (open_causes true held object properties sealed room (plain [])) ≡ done → Clear held object properties sealed room
unfolding open_causes
clear held object properties sealed room z =
    let p = passes (open_causes true held object properties sealed room (plain [])) refl z in
    let sizes = not-long (sealed - tag_of held) properties p.1.1.1.1.1.0 in
    record {
      there = p.1.0;
      object-below = leb-false object_ceiling object p.1.1.1.0;
      tag-inside = ltb-false sealed (tag_of held) p.1.1.1.1.0;
      plaintext-most = sizes.0;
      properties-most = sizes.1;
      room-enough = ltb-false room (sealed - tag_of held) p.1.1.1.1.1.1.0;
    }

-- in the sizes of the record's suite
pub sizes-told : (held : TrackRecord) (object properties sealed room : ℕ) (k : Kind) (s : Suite) → Told held k s → Clear held object properties sealed room
    → (Nt s ≤ sealed) × (sealed - Nt s ≤ max_plaintext) × (sealed - Nt s ≤ room)
sizes-told held object properties sealed room k s t c = (omega (arith, t.tag_is, c.tag-inside), omega (arith, t.tag_is, c.plaintext-most), omega (arith, t.tag_is, c.room-enough))

pub under-is : (held : TrackRecord) (s : Suite) (id : TrackId) (group object : ℕ) (properties sealed : List ℕ) → suite_in held ≡ Some s
    → decrypted_under held id group object properties sealed ≡ unsecured s (key_of held) (salt_of held) id.name id.key_id group object properties sealed
unfolding decrypted_under
under-is empty s id group object properties sealed e = let z : ◌≡◌ {A = ℕ} 0 1 = cc in absurd (omega arith)
under-is (track t) s id group object properties sealed e = let q : t.suite ≡ s = cc in ap (λ (x : Suite). unsecured x t.key t.salt id.name id.key_id group object properties sealed) q

-- what a call answers, and what it leaves in the room
abbrev pub Gives : Outcome → ℕ → ℕ → List ℕ → Type 0
Gives o number written room = ((number ≡ o.number) × (written ≡ o.written)) × (room ≡ o.room)

-- a call that is refused
stopped : (n : ℕ) (s room : List ℕ) (o : Outcome) → Gives (settled (suc n) s room o) (suc n) 0 room
unfolding settled
stopped n s room o = ((refl, refl), refl)

module _ (held : TrackRecord) (id : TrackId) (group object : ℕ) (properties sealed room : List ℕ) (v : ℕ) (judged : v ≡ first (open_causes true held object (length properties) (length sealed) (length room) (plain []))) where
  given : Decrypted
  given = decrypted_under held id group object properties sealed

  pub open-refused : (v ≡ done → ⊥) → Gives (open_at true held [] id group object properties sealed room) v 0 room
  unfolding open_at given
  open-refused d = by v (judged ∙ sym (other-cause held object (length properties) (length sealed) (length room) (decrypted_under held id group object properties sealed) (λ z. d (judged ∙ z)))) d
    where
      by : (n : ℕ) → n ≡ first (open_causes true held object (length properties) (length sealed) (length room) (decrypted_under held id group object properties sealed)) → (n ≡ done → ⊥)
          → Gives (open_at true held [] id group object properties sealed room) n 0 room
      by zero e f = absurd (f refl)
      by (suc n) e f = rw (sym e) (stopped n [] room _)

  module _ (z : v ≡ done) (k : Kind) (s : Suite) (t : Told held k s) (nt : ℕ) (size : nt ≡ Nt s) (key salt : List ℕ) (ek : key ≡ key_of held) (es : salt ≡ salt_of held) where
    passed : first (open_causes true held object (length properties) (length sealed) (length room) (plain [])) ≡ 0
    passed = sym judged ∙ z

    answer : Decrypted
    answer = unsecured s key salt id.name id.key_id group object properties sealed

    answer-is : given ≡ answer
    unfolding given answer
    answer-is = under-is held s id group object properties sealed t.suite-is ∙ ap₂ (λ (a b : List ℕ). unsecured s a b id.name id.key_id group object properties sealed) (sym ek) (sym es)

    number_is : first (open_causes true held object (length properties) (length sealed) (length room) given) ≡ pick (is_differs given) tag_differs 0
    number_is = last-cause held object (length properties) (length sealed) (length room) given passed

    pub tag-refused : (b : Bool) (x : List ℕ) → b ≡ is_plain (unsecured s key salt id.name id.key_id group object properties sealed) → not b ≡ true
        → x ≡ room_after (unsecured s key salt id.name id.key_id group object properties sealed) room → Gives (open_at true held [] id group object properties sealed room) tag_differs 0 x
    unfolding open_at given answer settled
    tag-refused b x e q w = by (unsecured s key salt id.name id.key_id group object properties sealed) refl
      where
        by : (d : Decrypted) → unsecured s key salt id.name id.key_id group object properties sealed ≡ d → Gives (open_at true held [] id group object properties sealed room) tag_differs 0 x
        by (plain y) u = absurd (false≢true (sym (not-true b q) ∙ e ∙ ap is_plain u))
        by differs u =
            let g = answer-is ∙ u in
            let n = number_is ∙ ap (λ (d : Decrypted). pick (is_differs d) tag_differs 0) g in
            ((rw n, rw n), w ∙ ap (λ (d : Decrypted). room_after d room) u ∙ rw n)

    pub object-opened : (b : Bool) (x : List ℕ) → b ≡ is_plain (unsecured s key salt id.name id.key_id group object properties sealed) → not b ≡ false
        → x ≡ room_after (unsecured s key salt id.name id.key_id group object properties sealed) room → Gives (open_at true held [] id group object properties sealed room) done (length sealed - nt) x
    unfolding open_at given answer settled
    object-opened b x e q w = by (unsecured s key salt id.name id.key_id group object properties sealed) refl
      where
        by : (d : Decrypted) → unsecured s key salt id.name id.key_id group object properties sealed ≡ d → Gives (open_at true held [] id group object properties sealed room) done (length sealed - nt) x
        by differs u = absurd (false≢true (sym (ap is_plain u) ∙ sym e ∙ not-false b q))
        by (plain y) u =
            let g = answer-is ∙ u in
            let n = number_is ∙ ap (λ (d : Decrypted). pick (is_differs d) tag_differs 0) g in
            let c = ap length (unsecured-only s key salt id.name id.key_id group object properties sealed y u) ∙ secured-length s key salt id.name id.key_id group object properties y in
            let l : length sealed - nt ≡ length y = omega (arith, c) in
            ((rw n, l ∙ rw (n, g)), w ∙ ap (λ (d : Decrypted). room_after d room) u ∙ rw (n, g))

-- ---- opening

-- number, length and room do not hang on the store's bytes
any-store : (k : ℕ) (s t room : List ℕ) (n : ℕ) (x : List ℕ)
    → ((settled k s room (record { number = 0; written = n; store = s; room = x; state = [] })).number ≡ (settled k t room (record { number = 0; written = n; store = t; room = x; state = [] })).number)
    × ((settled k s room (record { number = 0; written = n; store = s; room = x; state = [] })).written ≡ (settled k t room (record { number = 0; written = n; store = t; room = x; state = [] })).written)
    × ((settled k s room (record { number = 0; written = n; store = s; room = x; state = [] })).room ≡ (settled k t room (record { number = 0; written = n; store = t; room = x; state = [] })).room)
unfolding settled
any-store zero s t room n x = (refl, refl, refl)
any-store (suc k) s t room n x = (refl, refl, refl)

pub open-unsound : (s : List ℕ) (id : TrackId) (group object : ℕ) (properties sealed room : List ℕ) (r : Bool) → r ≡ sound s → not r ≡ true → Gives (opening s id group object properties sealed room) store_invalid 0 room
unfolding opening open_at open_causes first settled
open-unsound s id group object properties sealed room r e t = let z = told-false r _ e t in ((rw z, rw z), rw z)

module _ (s : List ℕ) (id : TrackId) (group object : ℕ) (properties sealed room : List ℕ) (is-sound : sound s ≡ true) (p : Option ℕ) (f : FoundIn p id (records s)) where
  pub open-missing : p ≡ None → Gives (opening s id group object properties sealed room) kid_missing 0 room
  unfolding opening open_at open_causes first settled
  open-missing q = let g : get id (records s) ≡ empty = rw q at f in ((rw (is-sound, g), rw (is-sound, g)), rw (is-sound, g))

  module _ (i : ℕ) (w : p ≡ Some i) where
    found : FoundIn (Some i) id (records s)
    found = rw w at f

    pub name-fits : Octets s → length id.name ≤ name_most
    name-fits o = holds-name id (get_or (records s) i empty) (rw found.1 at (get_fit id (records s) (sound-stored s o is-sound).table.fit)) found.2

    module _ (l : List ℕ) (r : RowOf s i l) where
      pub held-there : is_empty (decode l) ≡ false
      held-there = ap is_empty r.1 ∙ holds-some id (get_or (records s) i empty) found.2

      -- with the record's own bytes, which decode to what the store holds for that track
      pub open-found : (number written : ℕ) (x : List ℕ) → Gives (open_at true (decode l) [] id group object properties sealed room) number written x → Gives (opening s id group object properties sealed room) number written x
      unfolding opening open_at
      open-found number written x g =
          let o : opening s id group object properties sealed room ≡ open_at true (decode l) s id group object properties sealed room =
          ap₂ (λ (v : Bool) (h : TrackRecord). open_at v h s id group object properties sealed room) is-sound (found.1 ∙ sym r.1)
          in
          let d = decrypted_under (decode l) id group object properties sealed in
          let y = plain_of d in
          let q = any-store (first (open_causes true (decode l) object (length properties) (length sealed) (length room) d)) [] s room (length y) (y ++ drop (length y) room) in (
            (g.0.0 ∙ q.0 ∙ sym (ap (λ (z : Outcome). z.number) o), g.0.1 ∙ q.1 ∙ sym (ap (λ (z : Outcome). z.written) o)),
            g.1 ∙ q.2 ∙ sym (ap (λ (z : Outcome). z.room) o),
          )

-- a kind that is another
pub receives-else : (k : Kind) → (k ≡ Receiver → ⊥) → false ≡ receives k
receives-else Sender d = refl
receives-else Receiver d = absurd (d refl)
receives-else Retired d = refl

-- SPDX-License-Identifier: MIT
-- Opening succeeds exactly when the bytes are the draft's encryption of some plaintext, and yields that plaintext. Assumes nothing.
use mathlib.Core.Path.{◌≡◌, refl, sym, ◌∙◌, ap, ap₂}
use mathlib.Core.Bool.{Bool, true, false, not, false≢true}
use mathlib.Core.List.{List, [], ◌∷◌, ◌++◌}
use Prim.Native.Nat.{ℕ, ◌+◌, ◌-◌, ◌<◌, ◌≤◌}
use native.Mathlib.Omega.{arith}
use lib.Dec.{leb}
use lib.ListN.{length, get_or, take, drop}
use lib.Seq.{take-append_seam}
use borrow.Author.Tests.{le-leb, lt-leb, le-ltb, ltb-false}
use Rattle.octets.specs.Octets.{Octets}
use Rattle.answers.specs.Answers.{first, Outcome}
use Rattle.answers.specs.Limits.{max_plaintext, max_metadata, too_long}
use Rattle.answers.proofs.Basics.{both-and, Pass, passes, none-applies, settled-done, settled-number}
use Rattle.suites.specs.Suites.{Nt}
use Rattle.aead.specs.Aead.{Decrypted, plain, differs}
use Rattle.suites.specs.declared.sizes.Suite.{Suite}
use Rattle.secure_objects.specs.Objects.{object_ceiling, secured, unsecured}
use Rattle.secure_objects.proofs.Laws.{secured-length, unsecured-secured, unsecured-only, unsecured-octets}
use Rattle.track_record.specs.Record.{TrackId, TrackRecord, empty, track, holds}
use Rattle.track_record.specs.declared.Kind.TheVariants.{Receiver}
use Rattle.track_record.proofs.Records.{holds-own}
use Rattle.tracks.specs.Tracks.{records, sound}
use Rattle.tracks.specs.Table.{get}
use Rattle.tracks.proofs.Stores.{Stored, sound-stored, stored-sound, stored-records}
use Rattle.tracks.proofs.Tables.{get_at}
use Rattle.open_object.specs.Open.{plain_of, is_differs, open_causes, decrypted_under, open_at, opening}
use Rattle.moq.specs.Promises.{Holds, Encryption, Openable, OpensExactly}

short-enough : (n m : ℕ) → n ≤ max_plaintext → m ≤ max_metadata → too_long n m ≡ false
unfolding too_long
short-enough n m a b = ap not (both-and (leb n max_plaintext) (leb m max_metadata) (le-leb n max_plaintext a) (le-leb m max_metadata b))

is_plain : (d : Decrypted) → is_differs d ≡ false → d ≡ plain (plain_of d)
is_plain (plain p) e = refl
is_plain differs e = absurd (false≢true (sym e))

abbrev receiver : Suite → TrackId → List ℕ → List ℕ → TrackRecord
receiver suite id salt key = track (record { kind = Receiver; suite = suite; id = id; floor = 0; salt = salt; key = key })

module _ (suite : Suite) (id : TrackId) (salt key : List ℕ) (group object : ℕ) (properties : List ℕ) where
  module _ (s bytes room : List ℕ) (is-sound : sound s ≡ true) (found : get id (records s) ≡ receiver suite id salt key) where
    given : Decrypted
    given = unsecured suite key salt id.name id.key_id group object properties bytes

    open-here : opening s id group object properties bytes room ≡ open_at true (receiver suite id salt key) s id group object properties bytes room
    unfolding opening
    open-here = ap₂ (λ (v : Bool) (h : TrackRecord). open_at v h s id group object properties bytes room) is-sound found

    module _ (low : object < object_ceiling) (pm : length bytes - Nt suite ≤ max_plaintext) (mm : length properties ≤ max_metadata) (rm : length bytes - Nt suite ≤ length room) where
      causes-pass : (p : List ℕ) → Nt suite ≤ length bytes → given ≡ plain p
          → Pass (open_causes true (receiver suite id salt key) object (length properties) (length bytes) (length room) (decrypted_under (receiver suite id salt key) id group object properties bytes))
      unfolding open_causes decrypted_under given
      causes-pass p h e = (
        refl,
        (
          refl,
          (
            refl,
            (
              lt-leb object_ceiling object low,
              (
                le-ltb (length bytes) (Nt suite) h,
                (short-enough (length bytes - Nt suite) (length properties) pm mm, (le-ltb (length room) (length bytes - Nt suite) rm, (ap is_differs e, tt))),
              ),
            ),
          ),
        ),
      )

      opened : (p : List ℕ) → Nt suite ≤ length bytes → given ≡ plain p → opening s id group object properties bytes room ≡ record { number = 0; written = length p; store = s; room = p ++ drop (length p) room; state = [] }
      unfolding open_at decrypted_under given
      opened p h e =
          open-here
          ∙ settled-done _ s room _ (none-applies _ (causes-pass p h e))
          ∙ ap (λ (d : Decrypted). record { number = 0; written = length (plain_of d); store = s; room = plain_of d ++ drop (length (plain_of d)) room; state = [] }) e

      passed : (opening s id group object properties bytes room).number ≡ 0 → is_differs given ≡ false
      unfolding open_at open_causes decrypted_under given
      passed e =
          let n = settled-number (first (open_causes true (receiver suite id salt key) object (length properties) (length bytes) (length room) (decrypted_under (receiver suite id salt key) id group object properties bytes))) s room _ refl in
          let p = passes (open_causes true (receiver suite id salt key) object (length properties) (length bytes) (length room) (decrypted_under (receiver suite id salt key) id group object properties bytes)) refl (sym n ∙ sym (ap (λ (o : Outcome). o.number) open-here) ∙ e) in
          p.1.1.1.1.1.1.1.0

  pub holds-get : (s : List ℕ) → Holds s suite id salt key → get id (records s) ≡ receiver suite id salt key
  holds-get s h =
      let t = sound-stored s h.octets h.is-sound in
      get_at id (records s) h.place t.table.tracks-apart (ap (holds id) h.holds-it ∙ holds-own (receiver suite id salt key) refl) ∙ h.holds-it

  pub opens-exactly : (s bytes room : List ℕ) → Openable suite id salt key group object properties s bytes room → OpensExactly suite id salt key group object properties s bytes room
  unfolding given
  opens-exactly s bytes room g = record {
    exactly = (there, λ e. ap (λ (o : Outcome). o.number) (outcome-is e));
    yields = λ e. record {
      answers = ap (λ (o : Outcome). o.number) (outcome-is e);
      writes = ap (λ (o : Outcome). o.written) (outcome-is e);
      starts = ap (λ (o : Outcome). take (length e.plaintext) o.room) (outcome-is e) ∙ take-append_seam e.plaintext (drop (length e.plaintext) room);
    };
    beyond = λ e. ap (λ (o : Outcome). o.room) (outcome-is e);
  }
    where
      found : get id (records s) ≡ receiver suite id salt key
      found = holds-get s g.held

      outcome-is : (e : Encryption suite id salt key group object properties bytes)
          → opening s id group object properties bytes room ≡ record { number = 0; written = length e.plaintext; store = s; room = e.plaintext ++ drop (length e.plaintext) room; state = [] }
      outcome-is e =
          let l = ap length e.is-object ∙ secured-length suite key salt id.name id.key_id group object properties e.plaintext in
          opened s bytes room g.held.is-sound found g.object-below g.plaintext-most g.properties-most g.room-enough e.plaintext (omega arith)
          (ap (unsecured suite key salt id.name id.key_id group object properties) e.is-object ∙ unsecured-secured suite key salt id.name id.key_id group object properties e.plaintext)

      there : (opening s id group object properties bytes room).number ≡ 0 → Encryption suite id salt key group object properties bytes
      there e =
          let d = unsecured suite key salt id.name id.key_id group object properties bytes in
          let q = is_plain d (passed s bytes room g.held.is-sound found g.object-below g.plaintext-most g.properties-most g.room-enough e) in
          record {
            plaintext = plain_of d;
            octets = unsecured-octets suite key salt id.name id.key_id group object properties bytes (plain_of d) g.bytes-octets q;
            is-object = unsecured-only suite key salt id.name id.key_id group object properties bytes (plain_of d) q;
          }

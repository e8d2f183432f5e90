-- SPDX-License-Identifier: MIT
-- What a record gives, and that it stays in range as it changes. Assumes nothing.
use Rattle.std.specs.Prelude.{Option, Some, None}
use mathlib.Core.Path.{◌≡◌, refl, sym, ◌∙◌, ap}
use mathlib.Core.Bool.{true, false, false≢true}
use mathlib.Core.List.{List}
use Prim.Native.Nat.{ℕ, ◌^◌, ◌<◌, ◌≤◌}
use native.Mathlib.Omega.{arith}
use lib.Dec.{eqb}
use lib.ListN.{length, replicate, length-replicate}
use borrow.Author.Tests.{eq-eqb, eqb-true}
use Rattle.octets.specs.Octets.{Octets, same}
use Rattle.octets.proofs.Laws.{same_refl, same-eq, octets-replicate}
use Rattle.answers.proofs.Basics.{both_true, both-and}
use Rattle.suites.specs.Suites.{Nk, Nn, Nt}
use Rattle.suites.specs.declared.sizes.Suite.{Suite}
use Rattle.secure_objects.specs.Objects.{name_most, ceiling}
use Rattle.secure_objects.proofs.Laws.{key-length, key-octets, salt-length, salt-octets}
use Rattle.track_record.specs.Record.{TrackId, same_track, Track, TrackRecord, empty, track, is_empty, sends, receives, is_sending, is_receiving, holds, tag_of, kind_for, fresh, advanced, retired}
use Rattle.track_record.specs.declared.Role.{Role}
use Rattle.track_record.specs.declared.Role.TheVariants.{Sending, Receiving}
use Rattle.track_record.specs.declared.Kind.{Kind}
use Rattle.track_record.specs.declared.Kind.TheVariants.{Sender, Receiver, Retired}
use Rattle.track_record.specs.Layout.{fits_kind}
use Rattle.track_record.specs.Inner.Rows.{held_of, suite_in, id_of}
use Rattle.track_record.specs.Inner.Rows.{Held}
use Rattle.track_record.proofs.Codec.{Fit}

-- ---- tracks

pub same-track : (a b : TrackId) → same_track a b ≡ true → a ≡ b
unfolding same_track
same-track a b e =
    let t = both_true (eqb a.key_id b.key_id) (same a.name b.name) e in
    let p = same-eq a.name b.name t.1 in
    let q = eqb-true a.key_id b.key_id t.0 in
    (λ i. record { name = p i; key_id = q i })

pub track-same : (a : TrackId) → same_track a a ≡ true
unfolding same_track
track-same a = both-and _ _ (eq-eqb a.key_id a.key_id refl) (same_refl a.name)

-- ---- holding

pub holds-empty : (id : TrackId) → holds id empty ≡ false
unfolding holds
holds-empty id = refl

pub holds-some : (id : TrackId) (r : TrackRecord) → holds id r ≡ true → is_empty r ≡ false
unfolding holds
holds-some id empty h = sym h
holds-some id (track t) h = refl

pub holds-own : (r : TrackRecord) → is_empty r ≡ false → holds (id_of r) r ≡ true
unfolding holds
holds-own empty h = sym h
holds-own (track t) h = track-same t.id

pub holds-is : (id : TrackId) (t : Track) → holds id (track t) ≡ true → t.id ≡ id
unfolding holds
holds-is id t h = same-track t.id id h

pub empty-is : (r : TrackRecord) → is_empty r ≡ true → r ≡ empty
empty-is empty e = refl
empty-is (track t) e = absurd (false≢true e)

pub sends-held : (r : TrackRecord) → is_sending r ≡ true → is_empty r ≡ false
sends-held empty e = absurd (false≢true e)
sends-held (track t) e = refl

-- a record that holds a track has a name in range
pub holds-name : (id : TrackId) (r : TrackRecord) → Fit r → holds id r ≡ true → length id.name ≤ name_most
holds-name id empty f h = absurd (false≢true (sym (holds-empty id) ∙ h))
holds-name id (track t) f h = rw (ap (λ (i : TrackId). length i.name) (sym (holds-is id t h))) f.name-most

-- ---- what a record is said to hold

-- the two parts of what is held
pub parts_of : (k t : Kind) (s u : Suite) → ◌≡◌ {A = Option Held} (Some (k, s)) (Some (t, u)) → (k ≡ t) × (s ≡ u)
parts_of k t s u e = let p : ◌≡◌ {A = Held} (k, s) (t, u) = cc in (ap (λ (x : Held). x.0) p, ap (λ (x : Held). x.1) p)

pub told-nothing : (r : TrackRecord) (h : Option Held) → h ≡ held_of r → h ≡ None → is_empty r ≡ true
told-nothing empty h e n = refl
told-nothing (track t) h e n = let z : ◌≡◌ {A = ℕ} 0 1 = cc in absurd (omega arith)

pub record Told (r : TrackRecord) (k : Kind) (s : Suite) : Type 0 where
  pub held : is_empty r ≡ false
  pub sends-is : is_sending r ≡ sends k
  pub receives-is : is_receiving r ≡ receives k
  pub suite-is : suite_in r ≡ Some s
  pub tag_is : tag_of r ≡ Nt s

pub told : (r : TrackRecord) (h : Option Held) (k : Kind) (s : Suite) → h ≡ held_of r → h ≡ Some (k, s) → Told r k s
told empty h k s e n = let z : ◌≡◌ {A = ℕ} 0 1 = cc in absurd (omega arith)
told (track t) h k s e n =
    let z : Some (t.kind, t.suite) ≡ Some (k, s) = sym e ∙ n in
    let p = (parts_of t.kind k t.suite s z).0 in
    let q = (parts_of t.kind k t.suite s z).1 in
    record { held = refl; sends-is = ap sends p; receives-is = ap receives p; suite-is = ap Some q; tag_is = ap Nt q }

-- ---- a record just added

pub fresh_holds : (role : Role) (s : Suite) (id : TrackId) (base : List ℕ) → holds id (fresh role s id base) ≡ true
unfolding holds fresh
fresh_holds role s id base = track-same id

fresh-kind : (r : Role) (t : Track) → t.floor ≡ 0 → fits_kind (kind_for r) t ≡ true
fresh-kind Sending t e = refl
fresh-kind Receiving t e = eq-eqb t.floor 0 e

pub fresh-fit : (role : Role) (s : Suite) (id : TrackId) (base : List ℕ) → id.key_id < 2 ^ 64 → length id.name ≤ name_most → Octets id.name → Fit (fresh role s id base)
unfolding fresh
fresh-fit role s id base k n o = record {
  key_id-below = k;
  floor-most = omega arith;
  name-most = n;
  name-octets = o;
  salt-length = salt-length s base id.name id.key_id;
  salt-octets = salt-octets s base id.name id.key_id;
  key-length = key-length s base id.name id.key_id;
  key-octets = key-octets s base id.name id.key_id;
  kind_fits = fresh-kind role _ refl;
}

-- ---- a pair sealed

pub advanced-holds : (id : TrackId) (c : ℕ) (r : TrackRecord) → holds id r ≡ true → holds id (advanced c r) ≡ true
unfolding holds advanced
advanced-holds id c empty h = h
advanced-holds id c (track t) h = h

sender-fits : (k : Kind) (t : Track) → sends k ≡ true → fits_kind k t ≡ true
sender-fits Sender t e = refl
sender-fits Receiver t e = absurd (false≢true e)
sender-fits Retired t e = absurd (false≢true e)

pub advanced-fit : (c : ℕ) (r : TrackRecord) → c < ceiling → is_sending r ≡ true → Fit r → Fit (advanced c r)
unfolding advanced
advanced-fit c empty h s f = tt
advanced-fit c (track t) h s f = record {
  key_id-below = f.key_id-below;
  floor-most = omega arith;
  name-most = f.name-most;
  name-octets = f.name-octets;
  salt-length = f.salt-length;
  salt-octets = f.salt-octets;
  key-length = f.key-length;
  key-octets = f.key-octets;
  kind_fits = sender-fits t.kind _ s;
}

-- ---- a track removed

pub retired-holds : (id : TrackId) (r : TrackRecord) → holds id r ≡ true → holds id (retired r) ≡ true
unfolding holds retired
retired-holds id empty h = h
retired-holds id (track t) h = h

pub retired-fit : (r : TrackRecord) → Fit r → Fit (retired r)
unfolding retired
retired-fit empty f = tt
retired-fit (track t) f = record {
  key_id-below = f.key_id-below;
  floor-most = f.floor-most;
  name-most = f.name-most;
  name-octets = f.name-octets;
  salt-length = length-replicate {A = ℕ} Nn 0;
  salt-octets = octets-replicate Nn 0 (omega arith);
  key-length = length-replicate {A = ℕ} (Nk t.suite) 0;
  key-octets = octets-replicate (Nk t.suite) 0 (omega arith);
  kind_fits = both-and _ _ (same_refl (replicate Nn 0)) (same_refl (replicate (Nk t.suite) 0));
}

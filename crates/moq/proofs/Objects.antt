-- SPDX-License-Identifier: MIT
-- From what every list of calls keeps true to the claims about its sealed objects. Assumes nothing.
use Rattle.std.specs.Prelude.{Option, Some}
use mathlib.Core.Path.{◌≡◌, refl, sym, ◌∙◌, ap, ap₂}
use mathlib.Core.Bool.{Bool, true, false, false≢true}
use mathlib.Core.List.{List, [], ◌∷◌, ◌++◌}
use Prim.Native.Nat.{ℕ, ◌+◌, ◌-◌, ◌<◌, ◌≤◌}
use native.Mathlib.Omega.{arith}
use lib.ListN.{length, length-append}
use Rattle.octets.specs.Octets.{Octets}
use Rattle.suites.specs.Suites.{suite_of, Nn}
use Rattle.suites.specs.Derivation.{nonce}
use Rattle.suites.specs.declared.sizes.Suite.{Suite}
use Rattle.aead.proofs.Laws.{encrypt-bytes}
use Rattle.secure_objects.specs.Objects.{counter, secured}
use Rattle.secure_objects.proofs.Laws.{counter-below, counter-apart, nonces-apart, salt-length, secured-length}
use Rattle.answers.proofs.Basics.{Two, yes', no', two}
use Rattle.track_record.specs.Record.{TrackId, same_track}
use Rattle.track_record.proofs.Records.{track-same}
use Rattle.open_object.specs.Open.{opening}
use Rattle.moq.specs.History.{Adding, Sealing, Event, added, sealed, other}
use Rattle.moq.specs.Promises.{is_sender, senders, OpenedTo, Holds, key_from, salt_from, nonce_of, Object, Pair, Kept, NeverAgain}
use Rattle.moq.proofs.Ledger.{Each, ctr_of, Fact, Below, Proper, Absent, Fresh}
use Rattle.moq.proofs.Opens.{opens-exactly}

-- ---- a place in the events

each_at : (P : Sealing → List Event → Type 0) (later earlier : List Event) (x : Sealing) → Each P (later ++ (sealed x ∷ earlier)) → P x earlier
each_at P [] earlier x p = p.0
each_at P (added a ∷ later) earlier x p = each_at P later earlier x p
each_at P (sealed y ∷ later) earlier x p = each_at P later earlier x p.1
each_at P (other ∷ later) earlier x p = each_at P later earlier x p

each_after : (P : Sealing → List Event → Type 0) (later earlier : List Event) (x : Sealing) → Each P (later ++ (sealed x ∷ earlier)) → Each P earlier
each_after P [] earlier x p = p.1
each_after P (added a ∷ later) earlier x p = each_after P later earlier x p
each_after P (sealed y ∷ later) earlier x p = each_after P later earlier x p.1
each_after P (other ∷ later) earlier x p = each_after P later earlier x p

senders-append : (id : TrackId) (l m : List Event) → senders id (l ++ m) ≡ senders id l ++ senders id m
unfolding senders
senders-append id [] m = refl
senders-append id (added a ∷ l) m = by (two (is_sender id a a.role)) (senders-append id l m)
  where
    by : Two (is_sender id a a.role) → senders id (l ++ m) ≡ senders id l ++ senders id m → senders id (added a ∷ (l ++ m)) ≡ senders id (added a ∷ l) ++ senders id m
    by (yes' t) e = rw t (ap (λ (r : List Adding). a ∷ r) e)
    by (no' t) e = rw t e
senders-append id (sealed x ∷ l) m = senders-append id l m
senders-append id (other ∷ l) m = senders-append id l m

-- a list of one that ends in b is b
one-is : (l : List Adding) (a b : Adding) → l ++ (b ∷ []) ≡ a ∷ [] → b ≡ a
one-is [] a b e = cc
one-is (c ∷ l) a b e = absurd (omega (arith, simp length-append at (ap length e)))

known_is : (f : Option Suite) (s t : Suite) → f ≡ Some s → f ≡ Some t → s ≡ t
known_is f s t p q = cc

-- ---- one object

module _ (x : Sealing) (earlier : List Event) (f : Fact x earlier) where
  bytes-octets : Octets x.bytes
  unfolding secured
  bytes-octets = rw f.bytes-is (encrypt-bytes f.suite _ _ _ x.plaintext f.plaintext-octets)

  object-opens : (s room : List ℕ) → Holds s f.suite x.id (salt_from f.suite f.add) (key_from f.suite f.add) → length x.plaintext ≤ length room
      → OpenedTo x.plaintext (opening s x.id x.group x.object x.properties x.bytes room)
  object-opens s room h r =
      let n = ap length f.bytes-is ∙ secured-length f.suite (key_from f.suite f.add) (salt_from f.suite f.add) x.id.name x.id.key_id x.group x.object x.properties x.plaintext in
      (opens-exactly f.suite x.id (salt_from f.suite f.add) (key_from f.suite f.add) x.group x.object x.properties s x.bytes room
      (record {
        held = h;
        bytes-octets = bytes-octets;
        object-below = f.object-below;
        plaintext-most = omega (arith, f.plaintext-most);
        properties-most = f.properties-most;
        room-enough = omega arith;
      })).yields (record { plaintext = x.plaintext; octets = f.plaintext-octets; is-object = f.bytes-is })

  object-holds : Object x earlier
  object-holds = record {
    object-below = f.object-below;
    add = f.add;
    only = f.only;
    its-track = f.add-id;
    suite = f.suite;
    its-suite = f.known;
    sealed-under = f.bytes-is;
    opens = object-opens;
  }

-- ---- two objects; y was sealed before x

module _ (x y : Sealing) (between earlier : List Event) (f : Fact x (between ++ (sealed y ∷ earlier))) (g : Fact y earlier) (below : Below x y earlier) where
  never-same : x.id ≡ y.id → ctr_of x ≡ ctr_of y → ⊥
  never-same i c = omega (arith, below (sym i))

  one-add : x.id ≡ y.id → (a b : Adding) → senders x.id (between ++ (sealed y ∷ earlier)) ≡ a ∷ [] → senders y.id earlier ≡ b ∷ [] → b ≡ a
  unfolding senders
  one-add i a b p q =
      one-is (senders x.id between) a b
      (ap (λ (l : List Adding). senders x.id between ++ l) (sym q ∙ ap (λ (j : TrackId). senders j earlier) (sym i))
      ∙ sym (senders-append x.id between (sealed y ∷ earlier))
      ∙ p)

  nonces : x.id ≡ y.id → (a b : Adding) (s t : Suite) → senders x.id (between ++ (sealed y ∷ earlier)) ≡ a ∷ [] → senders y.id earlier ≡ b ∷ [] → suite_of a.suite ≡ Some s → suite_of b.suite ≡ Some t
      → nonce_of s a x ≡ nonce_of t b y → ⊥
  nonces i a b s t p q u v e =
      let ba = one-add i a b p q in
      let ts : t ≡ s = known_is (suite_of a.suite) t s (ap (λ (d : Adding). suite_of d.suite) (sym ba) ∙ v) u in
      never-same i (nonces-apart (salt_from s a) (ctr_of x) (ctr_of y) (salt-length s a.base a.id.name a.id.key_id)
      (counter-below x.group x.object f.object-below f.group-below) (counter-below y.group y.object g.object-below g.group-below)
      (e ∙ ap₂ (λ (z : Suite) (d : Adding). nonce_of z d y) ts ba))

  pair-holds : Pair x (between ++ (sealed y ∷ earlier)) y earlier
  pair-holds = record {
    pairs-apart = λ i p q. never-same i (ap₂ counter p q);
    nonces-apart = nonces;
  }

pub kept : (log : List Event) → Each Proper log → Kept log
kept log p = record {
  every-object = λ later earlier x e. object-holds x earlier (each_at Proper later earlier x (rw e at p)).0;
  every-pair = λ later between earlier x y e.
      let l = between ++ (sealed y ∷ earlier) in
      let px = each_at Proper later l x (rw e at p) in
      let py = each_at Proper between earlier y (each_after Proper later l x (rw e at p)) in
      pair-holds x y between earlier px.0 py.0 (each_at (Below x) between earlier y px.1);
}

-- ---- one Add of a track

fresh_at : (later rest : List Event) (a : Adding) → Fresh (later ++ (added a ∷ rest)) → Absent a.id rest
fresh_at [] rest a p = p.0
fresh_at (added x ∷ later) rest a p = fresh_at later rest a p.1
fresh_at (sealed x ∷ later) rest a p = fresh_at later rest a p
fresh_at (other ∷ later) rest a p = fresh_at later rest a p

absent-at : (id : TrackId) (between earlier : List Event) (b : Adding) → Absent id (between ++ (added b ∷ earlier)) → same_track b.id id ≡ false
absent-at id [] earlier b p = p.0
absent-at id (added x ∷ between) earlier b p = absent-at id between earlier b p.1
absent-at id (sealed x ∷ between) earlier b p = absent-at id between earlier b p
absent-at id (other ∷ between) earlier b p = absent-at id between earlier b p

pub fresh-never : (log : List Event) → Fresh log → NeverAgain log
fresh-never log p later between earlier a b e i =
    let n = absent-at a.id between earlier b (fresh_at later (between ++ (added b ∷ earlier)) a (rw e at p)) in
    false≢true (sym n ∙ ap (λ (z : TrackId). same_track z a.id) (sym i) ∙ track-same a.id)

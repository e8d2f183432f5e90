-- SPDX-License-Identifier: MIT
-- What the functions over one record's bytes answer and write, over plain variables. Assumes nothing.
use Rattle.std.specs.Prelude.{Option, Some, None}
use mathlib.Core.Path.{◌≡◌, refl, sym, ◌∙◌, ap, ap₂}
use mathlib.Core.Bool.{Bool, true, false, not, false≢true}
use mathlib.Core.List.{List, [], ◌∷◌, ◌++◌}
use Prim.Native.Nat.{ℕ, zero, suc, ◌+◌, ◌*◌, ◌-◌, ◌<◌, ◌≤◌}
use native.Mathlib.Nat.{sub-zero}
use native.Mathlib.Omega.{arith}
use lib.Dec.{leb, ltb, eqb}
use lib.ListN.{length, get_or, take, drop, set, replicate, length-take, length-drop, length-replicate}
use lib.Seq.{drop-drop}
use borrow.Rule.Slice.PartMut.{put_mid}
use borrow.Author.Tests.{le-leb, lt-leb, leb-true, leb-false, lt-ltb, le-ltb, ltb-true, ltb-false, eq-eqb, ne_eqb}
use Rattle.octets.specs.Octets.{Octets, number, bytes, pasted, same, pick, both}
use Rattle.octets.proofs.Laws.{part-rest, number-add, number_lt, octets-drop, bytes-length, pasted-append, pasted_length}
use Rattle.suites.specs.Suites.{suite_of, number_of, Nk, Nn}
use Rattle.suites.specs.declared.sizes.Suite.{Suite}
use Rattle.suites.proofs.Laws.{Nk-most}
use Rattle.secure_objects.specs.Objects.{name_most, object_ceiling, counter}
use Rattle.secure_objects.specs.Derivation.{moq_key, moq_salt}
use Rattle.secure_objects.proofs.Laws.{counter-bytes, key-length, salt-length}
use Rattle.answers.proofs.Basics.{Two, yes', no', two, told-false, told-true}
use Rattle.track_record.specs.Layout.{record_size, mark_at, suite_at, flag_at, key_id_at, pair_at, pair_size, length_at, salt_at, key_at, key_room, name_at, mark_of, kind_of, flag, padded, row, encode, floor_in, decode_as, decode, fits_kind, fits, obeys}
use Rattle.track_record.specs.Record.{TrackId, track_id, same_track, Track, TrackRecord, empty, track, is_empty, holds, floor_of, salt_of, key_of, kind_for, fresh, advanced, retired}
use Rattle.track_record.specs.Inner.Rows.{Row, held_of, suite_in, start_row, with_pair, with_last, id_of}
use Rattle.track_record.specs.Inner.Rows.{Held}
use Rattle.track_record.specs.declared.Kind.{Kind}
use Rattle.track_record.specs.declared.Kind.TheVariants.{Sender, Receiver, Retired}
use Rattle.track_record.specs.declared.Role.{Role}
use Rattle.track_record.proofs.Codec.{InRange, Read, read, read-unmarked, read-long, read-unsuited, read-track, obeys-fits}
use Rattle.track_record.proofs.Records.{empty-is, parts_of}
use Rattle.std.specs.Option.{is_some}
use Rattle.track_record.proofs.Fields.{row_with, row-empty, write-key_id, write-pair, write-length, write-salt, write-name, write-key, wipe, padded-zeros, lent-whole}

-- ---- what a record is for

pub kind-retired : (m : ℕ) → (m ≡ 1 → ⊥) → (m ≡ 2 → ⊥) → Retired ≡ kind_of m
kind-retired m a b = sym (rw (ne_eqb m 1 a, ne_eqb m 2 b))

number-rest : (n i : ℕ) (l : List ℕ) → number n (take (length l - i) (drop i l)) ≡ number n (drop i l)
number-rest n i l = ap (number n) (part-rest i l)

module _ (l : List ℕ) where
  pub held_low : get_or l mark_at 0 < 1 → None ≡ held_of (decode l)
  held_low h = sym (ap held_of (read-unmarked l (rw (lt-leb 1 (get_or l mark_at 0) h))))

  pub held_high : 1 ≤ get_or l mark_at 0 → 3 < get_or l mark_at 0 → None ≡ held_of (decode l)
  held_high a h = sym (ap held_of (read-unmarked l (rw (le-leb 1 (get_or l mark_at 0) a, lt-leb (get_or l mark_at 0) 3 h))))

  pub held-long : (v : ℕ) → v ≡ number 2 (take (length l - length_at) (drop length_at l)) → name_most < v → None ≡ held_of (decode l)
  held-long v e h = sym (ap held_of (read-long l (rw (e ∙ number-rest 2 length_at l) at h)))

  pub held-unsuited : (f : Option Suite) → f ≡ suite_of (get_or l suite_at 0) → f ≡ None → None ≡ held_of (decode l)
  held-unsuited f e u = sym (ap held_of (read-unsuited l (sym e ∙ u)))

  pub held-track : (v : ℕ) (f : Option Suite) (s : Suite) (k : Kind) → 1 ≤ get_or l mark_at 0 → get_or l mark_at 0 ≤ 3 → v ≡ number 2 (take (length l - length_at) (drop length_at l)) → v ≤ name_most
      → f ≡ suite_of (get_or l suite_at 0) → f ≡ Some s → k ≡ kind_of (get_or l mark_at 0) → Some (k, s) ≡ held_of (decode l)
  unfolding decode_as
  held-track v f s k a b e h q u w =
      ap (λ (x : Kind). Some (x, s)) w
      ∙ sym (ap held_of (read-track l s (rw (le-leb 1 (get_or l mark_at 0) a, le-leb (get_or l mark_at 0) 3 b)) (rw (e ∙ number-rest 2 length_at l) at h) (sym q ∙ u)))

-- an answer that there is nothing says that the record is empty
pub held-none : (r : TrackRecord) (h : Option Held) (b : Bool) → h ≡ held_of r → is_some h ≡ not b → b ≡ is_empty r
held-none empty h b e n = by b (sym (ap is_some e) ∙ n)
  where
    by : (b : Bool) → false ≡ not b → b ≡ true
    by true q = refl
    by false q = absurd (false≢true q)
held-none (track t) h b e n = by b (sym (ap is_some e) ∙ n)
  where
    by : (b : Bool) → true ≡ not b → b ≡ false
    by true q = absurd (false≢true (sym q))
    by false q = refl

pub nothing-empty : (r : TrackRecord) (h : Option Held) → h ≡ held_of r → h ≡ None → true ≡ is_empty r
nothing-empty empty h e n = refl
nothing-empty (track t) h e n = let z : ◌≡◌ {A = ℕ} 0 1 = cc in absurd (omega arith)

pub something-held : (r : TrackRecord) (h : Option Held) (k : Kind) (s : Suite) → h ≡ held_of r → h ≡ Some (k, s) → false ≡ is_empty r
something-held empty h k s e n = let z : ◌≡◌ {A = ℕ} 0 1 = cc in absurd (omega arith)
something-held (track t) h k s e n = refl

-- ---- the last pair

-- group and object are the counter that stands there
pub pair_read : (l : List ℕ) (v w : ℕ) → v ≡ number 8 (take (length l - pair_at) (drop pair_at l)) → w ≡ number 4 (take (length l - 20) (drop 20 l)) → counter v w ≡ number pair_size (drop pair_at l)
unfolding counter
pair_read l v w eg eo =
    sym (number-add 8 4 (drop pair_at l)
    ∙ ap₂ (λ (x y : ℕ). x * object_ceiling + y) (sym (number-rest 8 pair_at l) ∙ sym eg) (ap (number 4) (drop-drop 8 pair_at l) ∙ sym (number-rest 4 20 l) ∙ sym eo))

pub object-low : (l : List ℕ) → Octets l → (w : ℕ) → w ≡ number 4 (take (length l - 20) (drop 20 l)) → w < object_ceiling
object-low l o w e = rw (e ∙ number-rest 4 20 l) (number_lt 4 (drop 20 l) (octets-drop 20 l o))

-- ---- the fields of a record that is not empty

module _ (l : List ℕ) (h : is_empty (decode l) ≡ false) where
  track-of : Track
  track-of = decode_as (read l h).suite l

  pub key_id-read : number 8 (take (length l - key_id_at) (drop key_id_at l)) ≡ (id_of (decode l)).key_id
  unfolding decode_as
  key_id-read = number-rest 8 key_id_at l ∙ sym (ap (λ (r : TrackRecord). (id_of r).key_id) (read l h).is)

  module _ (v end : ℕ) (e : v ≡ number 2 (take (length l - length_at) (drop length_at l))) (n : length l ≡ record_size) where
    pub name-inside : v ≤ name_most
    name-inside = rw (e ∙ number-rest 2 length_at l) (read l h).name-inside

    pub name-read : end ≡ name_at + v → (take (end - name_at) (drop name_at l) ≡ (id_of (decode l)).name) × (length (take (end - name_at) (drop name_at l)) ≤ name_most)
    unfolding decode_as
    name-read q =
        let k : end - name_at ≡ number 2 (drop length_at l) = omega (arith, e ∙ number-rest 2 length_at l) in
        (ap (λ (m : ℕ). take m (drop name_at l)) k ∙ sym (ap (λ (r : TrackRecord). (id_of r).name) (read l h).is), simp length-take (omega (arith, name-inside)))

  pub salt-read : take (key_at - salt_at) (drop salt_at l) ≡ salt_of (decode l)
  unfolding decode_as
  salt-read = sym (ap salt_of (read l h).is)

  floor-is : floor_of (decode l) ≡ floor_in l
  unfolding decode_as
  floor-is = ap floor_of (read l h).is

  pub below-never : (x : ℕ) → get_or l flag_at 0 ≡ 0 → false ≡ ltb x (floor_of (decode l))
  unfolding floor_in
  below-never x e = sym (ap (ltb x) (floor-is ∙ ap (λ (b : Bool). pick b 0 (number pair_size (drop pair_at l) + 1)) (eq-eqb (get_or l flag_at 0) 0 e)) ∙ le-ltb x 0 (omega arith))

  module _ (o : Octets l) (g o' v w : ℕ) (b : o' < object_ceiling) (f : get_or l flag_at 0 ≡ 0 → ⊥) (eg : v ≡ number 8 (take (length l - pair_at) (drop pair_at l))) (eo : w ≡ number 4 (take (length l - 20) (drop 20 l))) where
    low : w < object_ceiling
    low = object-low l o w eo

    floor-here : floor_of (decode l) ≡ v * object_ceiling + w + 1
    unfolding floor_in counter
    floor-here = floor-is ∙ ap (λ (t : Bool). pick t 0 (number pair_size (drop pair_at l) + 1)) (ne_eqb (get_or l flag_at 0) 0 f) ∙ ap (λ (x : ℕ). x + 1) (sym (pair_read l v w eg eo))

    pub below-group : (g ≡ v → ⊥) → ltb g v ≡ ltb (counter g o') (floor_of (decode l))
    unfolding counter
    below-group d = by (two (ltb g v))
      where
        by : Two (ltb g v) → ltb g v ≡ ltb (g * object_ceiling + o') (floor_of (decode l))
        by (yes' t) = let q = ltb-true g v t in t ∙ sym (lt-ltb (g * object_ceiling + o') (floor_of (decode l)) (omega (arith, floor-here, low)))
        by (no' t) = let q = ltb-false g v t in t ∙ sym (le-ltb (g * object_ceiling + o') (floor_of (decode l)) (omega (arith, floor-here, low)))

    pub below-object : g ≡ v → leb o' w ≡ ltb (counter g o') (floor_of (decode l))
    unfolding counter
    below-object q = by (two (leb o' w))
      where
        by : Two (leb o' w) → leb o' w ≡ ltb (g * object_ceiling + o') (floor_of (decode l))
        by (yes' t) = let u = leb-true o' w t in t ∙ sym (lt-ltb (g * object_ceiling + o') (floor_of (decode l)) (omega (arith, floor-here, low)))
        by (no' t) = let u = leb-false o' w t in t ∙ sym (le-ltb (g * object_ceiling + o') (floor_of (decode l)) (omega (arith, floor-here, low)))

-- the key of a record of a suite
pub suite-held : (r : TrackRecord) (s : Suite) → suite_in r ≡ Some s → is_empty r ≡ false
suite-held empty s e = let z : ◌≡◌ {A = ℕ} 0 1 = cc in absurd (omega arith)
suite-held (track t) s e = refl

pub key-read : (l : List ℕ) (s : Suite) (end : ℕ) → suite_in (decode l) ≡ Some s → end ≡ key_at + Nk s → take (end - key_at) (drop key_at l) ≡ key_of (decode l)
unfolding decode_as
key-read l s end e q =
    let r = read l (suite-held (decode l) s e) in
    let w : Some r.suite ≡ Some s = sym (ap suite_in r.is) ∙ e in
    let v : r.suite ≡ s = cc in
    let k : end - key_at ≡ Nk s = omega arith in
    ap (λ (m : ℕ). take m (drop key_at l)) (k ∙ ap Nk (sym v)) ∙ sym (ap key_of r.is)

-- ---- whether a record holds a track

pub holds_not : (id : TrackId) (r : TrackRecord) (t : Bool) → t ≡ is_empty r → t ≡ true → false ≡ holds id r
unfolding holds
holds_not id empty t e q = refl
holds_not id (track x) t e q = absurd (false≢true (sym e ∙ q))

module _ (name : List ℕ) (key_id : ℕ) (r : TrackRecord) (t : Bool) (e : t ≡ is_empty r) (q : t ≡ false) (v : ℕ) (k : v ≡ (id_of r).key_id) where
  pub holds-other : (v ≡ key_id → ⊥) → false ≡ holds (track_id name key_id) r
  unfolding holds same_track
  holds-other d = by r (sym e ∙ q) k
    where
      by : (x : TrackRecord) → is_empty x ≡ false → v ≡ (id_of x).key_id → false ≡ holds (track_id name key_id) x
      by empty n w = absurd (false≢true (sym n))
      by (track x) n w = sym (rw (ne_eqb x.id.key_id key_id (λ z. d (w ∙ z))))

  pub holds_named : (n : List ℕ) (b : Bool) → v ≡ key_id → n ≡ (id_of r).name → b ≡ same n name → b ≡ holds (track_id name key_id) r
  unfolding holds same_track
  holds_named n b z w s = by r (sym e ∙ q) k w
    where
      by : (x : TrackRecord) → is_empty x ≡ false → v ≡ (id_of x).key_id → n ≡ (id_of x).name → b ≡ holds (track_id name key_id) x
      by empty m u y = absurd (false≢true (sym m))
      by (track x) m u y = s ∙ ap (λ (a : List ℕ). same a name) y ∙ sym (rw (eq-eqb x.id.key_id key_id (sym u ∙ z)))

-- ---- zeros

take-zeros : (n m : ℕ) → n ≤ m → take n (replicate {A = ℕ} m 0) ≡ replicate n 0
take-zeros zero m h = refl
take-zeros (suc n) zero h = absurd (omega arith)
take-zeros (suc n) (suc m) h = ap (λ (l : List ℕ). 0 ∷ l) (take-zeros n m (omega arith))

pub zeros-same : (b : List ℕ) (r : Bool) (m : ℕ) → length b ≤ m → r ≡ same (take (length b - 0) (replicate m 0)) b → r ≡ same (replicate (length b) 0) b
zeros-same b r m h e = e ∙ ap (λ (l : List ℕ). same l b) (ap (λ (k : ℕ). take k (replicate {A = ℕ} m 0)) (sub-zero (length b)) ∙ take-zeros (length b) m h)

-- ---- writing a record

pub started : (l a b c r : List ℕ) (kind : Kind) (s : Suite) (mk sn key_id : ℕ) (name : List ℕ) → l ≡ encode empty → length name ≤ name_most → mk ≡ mark_of kind → sn ≡ number_of s
    → a ≡ pasted l key_id_at (bytes 8 key_id) → b ≡ pasted a length_at (bytes 2 (length name)) → c ≡ pasted b name_at name → r ≡ set (set c suite_at sn) mark_at mk → r ≡ start_row kind s key_id name
unfolding encode row
started l a b c r kind s mk sn key_id name e h em es p q w z =
    let zs : List ℕ = replicate Nn 0 in
    let one : a ≡ row_with 0 0 0 key_id 0 0 zs [] [] = p ∙ ap (λ (x : List ℕ). pasted x key_id_at (bytes 8 key_id)) (e ∙ row-empty) ∙ write-key_id 0 0 0 0 0 0 zs [] [] key_id in
    let two : b ≡ row_with 0 0 0 key_id 0 (length name) zs [] [] = q ∙ ap (λ (x : List ℕ). pasted x length_at (bytes 2 (length name))) one ∙ write-length 0 0 0 key_id 0 0 zs [] [] (length name) in
    let three : c ≡ row_with 0 0 0 key_id 0 (length name) zs [] name = w ∙ ap (λ (x : List ℕ). pasted x name_at name) two ∙ write-name 0 0 0 key_id 0 (length name) zs [] [] refl name (omega arith) h in
    z ∙ ap (λ (x : List ℕ). set (set x suite_at sn) mark_at mk) three ∙ ap₂ (λ (x y : ℕ). row_with x y 0 key_id 0 (length name) zs [] name) em es

-- a pair written in two parts
pub pair-written : (l a b : List ℕ) (group object : ℕ) → object < object_ceiling → length l ≡ record_size → a ≡ pasted l pair_at (bytes 8 group) → b ≡ pasted a 20 (bytes 4 object) → set b flag_at 1 ≡ with_pair (counter group object) l
pair-written l a b group object h n p q =
    let lg = bytes-length 8 group in
    let lo = bytes-length 4 object in
    let k : 20 ≡ pair_at + length (bytes 8 group) = omega arith in
    ap (λ (x : List ℕ). set x flag_at 1)
    (q ∙ ap₂ (λ (x : List ℕ) (i : ℕ). pasted x i (bytes 4 object)) p k ∙ pasted-append l pair_at (bytes 8 group) (bytes 4 object) (omega arith) ∙ ap (pasted l pair_at) (sym (counter-bytes group object h)))

flag-after : (c : ℕ) → flag (c + 1) ≡ 1
flag-after c = rw (ne_eqb (c + 1) 0 (λ z. omega arith))

-- a row with a pair written to it
with_pair_lem : (m s f k : ℕ) (name salt key : List ℕ) (c : ℕ) → with_pair c (row m s f k name salt key) ≡ row m s (c + 1) k name salt key
unfolding row
with_pair_lem m s f k name salt key c =
    let d : c + 1 - 1 ≡ c = omega arith in
    ap (λ (x : List ℕ). set x flag_at 1) (write-pair m s (flag f) k (f - 1) (length name) salt key name c)
    ∙ ap₂ (λ (x y : ℕ). row_with m s x k y (length name) salt key name) (sym (flag-after c)) (sym d)

-- a row that was started, with salt and key
salted : (m s f k : ℕ) (name salt key x y : List ℕ) (l : List ℕ) → length salt ≡ Nn → length key ≤ key_room → l ≡ row m s f k name (replicate Nn 0) [] → x ≡ pasted l salt_at salt → y ≡ pasted x key_at key → y ≡ row m s f k name salt key
unfolding row
salted m s f k name salt key x y l hs hk e p q =
    q
    ∙ ap (λ (t : List ℕ). pasted t key_at key)
    (p ∙ ap (λ (t : List ℕ). pasted t salt_at salt) e ∙ write-salt m s (flag f) k (f - 1) (length name) (replicate Nn 0) [] name (length-replicate {A = ℕ} Nn 0) salt hs)
    ∙ write-key m s (flag f) k (f - 1) (length name) salt [] name hs key hk

pub filled : (role : Role) (s : Suite) (key_id : ℕ) (name base : List ℕ) (k : Kind) (l x y p q : List ℕ) (end : ℕ) → k ≡ kind_for role → length l ≡ record_size → l ≡ start_row k s key_id name → p ≡ moq_salt s base name key_id
    → x ≡ put_mid salt_at (key_at - salt_at) l p → end ≡ key_at + Nk s → q ≡ moq_key s base name key_id → y ≡ put_mid key_at (end - key_at) x q → y ≡ encode (fresh role s (track_id name key_id) base)
unfolding encode fresh
filled role s key_id name base k l x y p q end ek n e ep ex ee eq ey =
    let lp : length p ≡ Nn = ap length ep ∙ salt-length s base name key_id in
    let lq : length q ≡ Nk s = ap length eq ∙ key-length s base name key_id in
    let m = Nk-most s in
    let one = ex ∙ lent-whole l p salt_at (key_at - salt_at) lp (omega arith) in
    let nx : length x ≡ record_size = ap length one ∙ pasted_length l salt_at p (omega arith) ∙ n in
    let two = ey ∙ lent-whole x q key_at (end - key_at) (omega arith) (omega arith) in
    salted (mark_of k) (number_of s) 0 key_id name p q x y l lp (omega arith) e one two
    ∙ (λ i. row (mark_of (ek i)) (number_of s) 0 key_id name (ep i) (eq i))

-- ---- what a record's bytes read as, written anew

pub last_none : (l out : List ℕ) → get_or l flag_at 0 ≡ 0 → out ≡ with_last l out
unfolding with_last
last_none l out e = sym (rw (eq-eqb (get_or l flag_at 0) 0 e))

pub last_written : (l out r : List ℕ) (v w : ℕ) → (get_or l flag_at 0 ≡ 0 → ⊥) → v ≡ number 8 (take (length l - pair_at) (drop pair_at l)) → w ≡ number 4 (take (length l - 20) (drop 20 l))
    → r ≡ with_pair (counter v w) out → r ≡ with_last l out
unfolding with_last
last_written l out r v w f eg eo e = e ∙ ap (λ (n : ℕ). with_pair n out) (pair_read l v w eg eo) ∙ sym (rw (ne_eqb (get_or l flag_at 0) 0 f))

module _ (l : List ℕ) (kind : Kind) (s : Suite) (h : held_of (decode l) ≡ Some (kind, s)) where
  pub told-held : is_empty (decode l) ≡ false
  told-held = sym (something-held (decode l) (held_of (decode l)) kind s refl h)

  told-suite : suite_in (decode l) ≡ Some s
  told-suite = by (decode l) h
    where
      by : (r : TrackRecord) → held_of r ≡ Some (kind, s) → suite_in r ≡ Some s
      by empty e = let z : ◌≡◌ {A = ℕ} 0 1 = cc in absurd (omega arith)
      by (track t) e = ap Some (parts_of t.kind kind t.suite s e).1

  pub suite-told : suite_in (decode l) ≡ Some s
  suite-told = told-suite

  there-kind : ((decode_as (read l told-held).suite l).kind ≡ kind) × ((read l told-held).suite ≡ s)
  unfolding decode_as
  there-kind =
      let e : Some (kind_of (get_or l mark_at 0), (read l told-held).suite) ≡ Some (kind, s) = sym (ap held_of (read l told-held).is) ∙ h in
      parts_of (kind_of (get_or l mark_at 0)) kind (read l told-held).suite s e

  pub written_back : (key_id : ℕ) (name a b c d salt key : List ℕ) → key_id ≡ (id_of (decode l)).key_id → name ≡ (id_of (decode l)).name → salt ≡ salt_of (decode l) → length salt ≡ Nn → key ≡ key_of (decode l) → length key ≡ Nk s
      → a ≡ start_row kind s key_id name → b ≡ with_last l a → c ≡ pasted b salt_at salt → d ≡ pasted c key_at key → d ≡ encode (decode l)
  unfolding encode with_last floor_in decode_as
  written_back key_id name a b c d salt key ek en es ls ey ly p q w z =
      let r = read l told-held in
      let t = decode_as r.suite l in
      let m = Nk-most s in
      let one : b ≡ row (mark_of kind) (number_of s) (floor_in l) key_id name (replicate Nn 0) [] = by (two (eqb (get_or l flag_at 0) 0)) in
      salted (mark_of kind) (number_of s) (floor_in l) key_id name salt key c d b ls (omega arith) one w z
      ∙ (λ i. row (mark_of (sym there-kind.0 i)) (number_of (sym there-kind.1 i)) (floor_in l) (ek i) (en i) (es i) (ey i))
      ∙ ap (λ (x : TrackRecord). row (mark_of t.kind) (number_of r.suite) (floor_in l) (id_of x).key_id (id_of x).name (salt_of x) (key_of x)) r.is
      ∙ sym (ap encode r.is)
    where
      by : Two (eqb (get_or l flag_at 0) 0) → b ≡ row (mark_of kind) (number_of s) (floor_in l) key_id name (replicate Nn 0) []
      by (yes' x) = q ∙ rw x p
      by (no' x) = q ∙ rw x (ap (with_pair (number pair_size (drop pair_at l))) p ∙ with_pair_lem (mark_of kind) (number_of s) 0 key_id name (replicate Nn 0) [] (number pair_size (drop pair_at l)))

-- ---- whether a record fits its kind

module _ (l : List ℕ) (kind : Kind) (s : Suite) (h : held_of (decode l) ≡ Some (kind, s)) where
  abbrev here : Track
  here = decode_as (read l (told-held l kind s h)).suite l

  fits-is : fits (decode l) ≡ fits_kind kind here
  unfolding fits
  fits-is = ap fits (read l (told-held l kind s h)).is ∙ ap (λ (k : Kind). fits_kind k here) (there-kind l kind s h).0

  pub fits-sender : kind ≡ Sender → true ≡ fits (decode l)
  fits-sender e = sym (fits-is ∙ ap (λ (k : Kind). fits_kind k here) e)

  pub fits-receiver : kind ≡ Receiver → eqb (get_or l flag_at 0) 0 ≡ fits (decode l)
  unfolding decode_as floor_in
  fits-receiver e = by (two (eqb (get_or l flag_at 0) 0)) ∙ sym (fits-is ∙ ap (λ (k : Kind). fits_kind k here) e)
    where
      by : Two (eqb (get_or l flag_at 0) 0) → eqb (get_or l flag_at 0) 0 ≡ eqb here.floor 0
      by (yes' x) = rw x
      by (no' x) = rw x (sym (ne_eqb (number pair_size (drop pair_at l) + 1) 0 (λ z. omega arith)))

  module _ (e : kind ≡ Retired) (salt : List ℕ) (es : salt ≡ salt_of (decode l)) (ls : length salt ≡ Nn) where
    retired-is : fits (decode l) ≡ both (same (replicate (length salt) 0) salt) (same (replicate (Nk s) 0) (key_of (decode l)))
    unfolding decode_as
    retired-is =
        let r = read l (told-held l kind s h) in
        fits-is ∙ ap (λ (k : Kind). fits_kind k here) e
        ∙ ap₂ (λ (x y : List ℕ). both (same (replicate Nn 0) x) (same (replicate (Nk r.suite) 0) y)) (sym (es ∙ ap salt_of r.is)) (sym (ap key_of r.is))
        ∙ ap₂ (λ (x y : ℕ). both (same (replicate x 0) salt) (same (replicate y 0) (key_of (decode l)))) (sym ls) (ap Nk (there-kind l kind s h).1)

    pub fits-salted : (t : Bool) → t ≡ same (replicate (length salt) 0) salt → not t ≡ true → false ≡ fits (decode l)
    fits-salted t q u = sym (retired-is ∙ ap (λ (b : Bool). both b (same (replicate (Nk s) 0) (key_of (decode l)))) (told-false t _ q u))

    pub fits-retired : (key : List ℕ) (t b : Bool) → key ≡ key_of (decode l) → length key ≡ Nk s → t ≡ same (replicate (length salt) 0) salt → not t ≡ false → b ≡ same (replicate (length key) 0) key → b ≡ fits (decode l)
    fits-retired key t b ey ly q u w =
        w
        ∙ ap₂ (λ (n : ℕ) (x : List ℕ). same (replicate n 0) x) ly ey
        ∙ sym (retired-is ∙ ap (λ (x : Bool). both x (same (replicate (Nk s) 0) (key_of (decode l)))) (told-true t _ q u))

-- ---- judging

right : (b : Bool) → both b true ≡ b
right true = refl
right false = refl

pub zeros-empty : replicate record_size 0 ≡ encode empty
unfolding encode
zeros-empty = refl

module _ (l : List ℕ) where
  pub judged-empty : (h : Option Held) (r : Bool) → h ≡ held_of (decode l) → h ≡ None → length l ≡ record_size → r ≡ same (replicate (length l) 0) l → r ≡ obeys l
  unfolding obeys encode fits
  judged-empty h r e n k w =
      let q : decode l ≡ empty = empty-is (decode l) (sym (nothing-empty (decode l) h e n)) in
      w ∙ ap (λ (m : ℕ). same (replicate m 0) l) k ∙ sym (rw q both-true-right)
    where
      both-true-right : both (same (replicate record_size 0) l) true ≡ same (replicate record_size 0) l
      both-true-right = right (same (replicate record_size 0) l)

  pub judged-other : (w : List ℕ) (r : Bool) → w ≡ encode (decode l) → r ≡ same w l → not r ≡ true → false ≡ obeys l
  unfolding obeys
  judged-other w r e q t = sym (ap (λ (b : Bool). both b (fits (decode l))) (ap (λ (x : List ℕ). same x l) (sym e) ∙ told-false r _ q t))

  pub judged-fits : (w : List ℕ) (r b : Bool) → w ≡ encode (decode l) → r ≡ same w l → not r ≡ false → b ≡ fits (decode l) → b ≡ obeys l
  unfolding obeys
  judged-fits w r b e q t f = f ∙ sym (ap (λ (x : Bool). both x (fits (decode l))) (ap (λ (x : List ℕ). same x l) (sym e) ∙ told-true r _ q t))

-- ---- a record that obeys the layout, changed

module _ (l : List ℕ) (o : Octets l) (w : Row l) (h : is_empty (decode l) ≡ false) where
  there : Read l
  there = read l h

  bytes-are : l ≡ encode (track (decode_as there.suite l))
  bytes-are = sym (obeys-fits l o w.0 w.1).1 ∙ ap encode there.is

  fit-there : InRange (decode_as there.suite l)
  fit-there = rw there.is at (obeys-fits l o w.0 w.1).0

  pub advanced-row : (c : ℕ) → with_pair c l ≡ encode (advanced c (decode l))
  unfolding encode advanced
  advanced-row c =
      let t = decode_as there.suite l in
      ap (with_pair c) bytes-are
      ∙ with_pair_lem (mark_of t.kind) (number_of t.suite) t.floor t.id.key_id t.id.name t.salt t.key c
      ∙ sym (ap (λ (r : TrackRecord). encode (advanced c r)) there.is)

  pub retired-row : (x p : List ℕ) → p ≡ replicate (length (take (name_at - salt_at) (drop salt_at l))) 0 → x ≡ put_mid salt_at (name_at - salt_at) l p → set x mark_at 3 ≡ encode (retired (decode l))
  unfolding encode retired row
  retired-row x p e q =
      let t = decode_as there.suite l in
      let k = Nk-most t.suite in
      let lk : length t.key ≤ key_room = omega (arith, fit-there.key-length) in
      let n : length (take (name_at - salt_at) (drop salt_at l)) ≡ Nn + key_room = simp (length-take, length-drop) (omega (arith, w.0)) in
      let z : p ≡ replicate (Nn + key_room) 0 = e ∙ ap (λ (j : ℕ). replicate {A = ℕ} j 0) n in
      let lp : length p ≡ name_at - salt_at = ap length z ∙ length-replicate {A = ℕ} (Nn + key_room) 0 in
      ap (λ (y : List ℕ). set y mark_at 3)
      (q ∙ lent-whole l p salt_at (name_at - salt_at) lp (omega (arith, w.0)) ∙ ap₂ (λ (a b : List ℕ). pasted a salt_at b) bytes-are z
      ∙ wipe (mark_of t.kind) (number_of t.suite) (flag t.floor) t.id.key_id (t.floor - 1) (length t.id.name) t.salt t.key t.id.name fit-there.salt-length lk)
      ∙ ap (λ (y : List ℕ). (3 ∷ number_of t.suite ∷ flag t.floor ∷ 0 ∷ []) ++ (bytes 8 t.id.key_id ++ (bytes pair_size (t.floor - 1) ++ (bytes 2 (length t.id.name) ++ ((0 ∷ 0 ∷ []) ++ (replicate Nn 0 ++ (y ++ padded name_most t.id.name)))))))
      (sym (padded-zeros key_room (Nk t.suite) k))
      ∙ sym (ap (λ (r : TrackRecord). encode (retired r)) there.is)

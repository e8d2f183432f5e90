-- SPDX-License-Identifier: MIT
-- A record written is read back, and what obeys the layout is a record in range. Assumes nothing.
use Rattle.std.specs.Prelude.{Option, Some, None}
use mathlib.Core.Path.{◌≡◌, refl, sym, ◌∙◌, ap}
use mathlib.Core.Bool.{Bool, true, false, false≢true}
use mathlib.Core.List.{List, [], ◌∷◌, ◌++◌, append_assoc}
use Prim.Native.Nat.{ℕ, zero, suc, ◌+◌, ◌-◌, ◌^◌, ◌<◌, ◌≤◌}
use native.Mathlib.Nat.{mod-eq_of_lt}
use native.Mathlib.Omega.{arith}
use lib.Dec.{leb, eqb}
use lib.ListN.{length, get_or, take, drop, replicate, length-append, length-take, length-drop, length-replicate}
use lib.Seq.{drop_at, take_at, drop-drop}
use borrow.Author.Tests.{leb-true, leb-false, le-leb, lt-leb, ne_eqb}
use Rattle.octets.specs.Octets.{Octets, number, bytes, same, pick, both}
use Rattle.octets.proofs.Laws.{bytes-length, bytes-octets, number-bytes, number_append, number_lt, octets-append, octets-take, octets-drop, octets-replicate, same_refl, same-eq}
use Rattle.suites.specs.Suites.{suite_of, number_of, Nk, Nn}
use Rattle.suites.specs.declared.sizes.Suite.{Suite}
use Rattle.suites.proofs.Laws.{Nk-most, number-known, number-byte}
use Rattle.secure_objects.specs.Objects.{name_most, ceiling}
use Rattle.answers.proofs.Basics.{Two, yes', no', two, both_true, both-and}
use Rattle.track_record.specs.Layout.{record_size, mark_at, suite_at, flag_at, key_id_at, pair_at, pair_size, length_at, salt_at, key_at, key_room, name_at, mark_of, kind_of, is_mark, flag, padded, row, encode, floor_in, decode_as, decode_in, decode, fits_kind, fits, obeys}
use Rattle.track_record.specs.Record.{Track, TrackRecord, empty, track, is_empty}
use Rattle.track_record.specs.declared.Kind.{Kind}
use Rattle.track_record.specs.declared.Kind.TheVariants.{Sender, Receiver, Retired}

-- ---- records in range

pub record InRange (t : Track) : Type 0 where
  pub key_id-below : t.id.key_id < 2 ^ 64
  pub floor-most : t.floor ≤ ceiling
  pub name-most : length t.id.name ≤ name_most
  pub name-octets : Octets t.id.name
  pub salt-length : length t.salt ≡ Nn
  pub salt-octets : Octets t.salt
  pub key-length : length t.key ≡ Nk t.suite
  pub key-octets : Octets t.key
  pub kind_fits : fits_kind t.kind t ≡ true

abbrev pub Fit : TrackRecord → Type 0
Fit empty = Unit {0}
Fit (track t) = InRange t

-- ---- a row

pub padded-length : (n : ℕ) (l : List ℕ) → length l ≤ n → length (padded n l) ≡ n
padded-length n l h = simp (length-append, length-replicate) (omega arith)

padded-octets : (n : ℕ) (l : List ℕ) → Octets l → Octets (padded n l)
padded-octets n l o = octets-append l (replicate (n - length l) 0) o (octets-replicate (n - length l) 0 (omega arith))

flag-most : (floor : ℕ) → flag floor ≤ 1
flag-most floor = by (two (eqb floor 0))
  where
    by : Two (eqb floor 0) → flag floor ≤ 1
    by (yes' t) = rw t (omega arith)
    by (no' t) = rw t (omega arith)

octets-front : (a b c : ℕ) (l : List ℕ) → a < 256 → b < 256 → c < 256 → Octets l → Octets ((a ∷ b ∷ c ∷ 0 ∷ []) ++ l)
octets-front a b c l p q r o zero = p
octets-front a b c l p q r o (suc zero) = q
octets-front a b c l p q r o (suc (suc zero)) = r
octets-front a b c l p q r o (suc (suc (suc zero))) = omega arith
octets-front a b c l p q r o (suc (suc (suc (suc i)))) = o i

octets-two : Octets (0 ∷ 0 ∷ [])
octets-two zero = omega arith
octets-two (suc zero) = omega arith
octets-two (suc (suc i)) = omega arith

module _ (mark suite floor key_id : ℕ) (name salt key : List ℕ) where
  pub row-length : length name ≤ name_most → length salt ≡ Nn → length key ≤ key_room → length (row mark suite floor key_id name salt key) ≡ record_size
  unfolding row
  row-length hn hs hk =
      let a = padded-length key_room key hk in
      let b = padded-length name_most name hn in
      let c = length-append (padded key_room key) (padded name_most name) in
      let d = length-append salt (padded key_room key ++ padded name_most name) in
      simp (length-append (bytes 8 key_id), length-append (bytes pair_size (floor - 1)), length-append (bytes 2 (length name)), bytes-length) (omega arith)

  row-octets : mark < 256 → suite < 256 → Octets name → Octets salt → Octets key → Octets (row mark suite floor key_id name salt key)
  unfolding row
  row-octets a b on os ok =
      let r7 = padded key_room key ++ padded name_most name in
      let r6 = salt ++ r7 in
      let r5 = (0 ∷ 0 ∷ []) ++ r6 in
      let r4 = bytes 2 (length name) ++ r5 in
      let r3 = bytes pair_size (floor - 1) ++ r4 in
      octets-front mark suite (flag floor) (bytes 8 key_id ++ r3) a b (omega (arith, flag-most floor))
      (octets-append (bytes 8 key_id) r3 (bytes-octets 8 key_id)
      (octets-append (bytes pair_size (floor - 1)) r4 (bytes-octets pair_size (floor - 1))
      (octets-append (bytes 2 (length name)) r5 (bytes-octets 2 (length name))
      (octets-append (0 ∷ 0 ∷ []) r6 octets-two
      (octets-append salt r7 os (octets-append (padded key_room key) (padded name_most name) (padded-octets key_room key ok) (padded-octets name_most name on)))))))

-- ---- reading the parts of a row

number-front : (n v : ℕ) (rest : List ℕ) → v < 256 ^ n → number n (bytes n v ++ rest) ≡ v
number-front n v rest h =
    let b = bytes-length n v in
    number_append n (bytes n v) rest (omega arith) ∙ number-bytes n v ∙ mod-eq_of_lt h

padded-front : (n : ℕ) (l rest : List ℕ) → take (length l) (padded n l ++ rest) ≡ l
padded-front n l rest = ap (take (length l)) (append_assoc l (replicate (n - length l) 0) rest) ∙ take_at l (replicate (n - length l) 0 ++ rest) (length l) refl

-- the floor is read back from the flag and one below it
floor-back : (floor n : ℕ) → n ≡ floor - 1 → pick (eqb (flag floor) 0) 0 (n + 1) ≡ floor
floor-back zero n e = refl
floor-back (suc k) n e = rw (ne_eqb (suc k) 0 (λ z. omega arith)) (omega arith)

pub record RowRead (l : List ℕ) (suite floor key_id : ℕ) (name salt key : List ℕ) : Type 0 where
  pub suite-is : get_or l suite_at 0 ≡ suite
  pub key_id-is : number 8 (drop key_id_at l) ≡ key_id
  pub floor-is : floor_in l ≡ floor
  pub length-is : number 2 (drop length_at l) ≡ length name
  pub name-is : take (length name) (drop name_at l) ≡ name
  pub salt-is : take Nn (drop salt_at l) ≡ salt
  pub key-is : take (length key) (drop key_at l) ≡ key

module _ (mark suite floor key_id : ℕ) (name salt key : List ℕ) where
  row-mark : get_or (row mark suite floor key_id name salt key) mark_at 0 ≡ mark
  unfolding row
  row-mark = refl

  row_read : key_id < 2 ^ 64 → floor ≤ ceiling → length name ≤ name_most → length salt ≡ Nn → length key ≤ key_room
      → RowRead (row mark suite floor key_id name salt key) suite floor key_id name salt key
  unfolding row floor_in
  row_read hi hf hn hs hk =
      let r8 = padded name_most name in
      let r7 = padded key_room key ++ r8 in
      let r6 = salt ++ r7 in
      let r5 = (0 ∷ 0 ∷ []) ++ r6 in
      let r4 = bytes 2 (length name) ++ r5 in
      let r3 = bytes pair_size (floor - 1) ++ r4 in
      let l = (mark ∷ suite ∷ flag floor ∷ 0 ∷ []) ++ (bytes 8 key_id ++ r3) in
      let d12 : drop pair_at l ≡ r3 = drop_at (bytes 8 key_id) r3 8 (bytes-length 8 key_id) in
      let d24 : drop length_at l ≡ r4 = sym (drop-drop pair_size pair_at l) ∙ ap (drop pair_size) d12 ∙ drop_at (bytes pair_size (floor - 1)) r4 pair_size (bytes-length pair_size (floor - 1)) in
      let d28 : drop salt_at l ≡ r6 = sym (drop-drop 4 length_at l) ∙ ap (drop 4) d24 ∙ sym (drop-drop 2 2 r4) ∙ ap (drop 2) (drop_at (bytes 2 (length name)) r5 2 (bytes-length 2 (length name))) in
      let d40 : drop key_at l ≡ r7 = sym (drop-drop Nn salt_at l) ∙ ap (drop Nn) d28 ∙ drop_at salt r7 Nn hs in
      let d88 : drop name_at l ≡ r8 = sym (drop-drop key_room key_at l) ∙ ap (drop key_room) d40 ∙ drop_at (padded key_room key) r8 key_room (padded-length key_room key hk) in
      record {
        suite-is = refl;
        key_id-is = number-front 8 key_id r3 hi;
        floor-is = floor-back floor (number pair_size (drop pair_at l)) (ap (number pair_size) d12 ∙ number-front pair_size (floor - 1) r4 (omega arith));
        length-is = ap (number 2) d24 ∙ number-front 2 (length name) r5 (omega arith);
        name-is = ap (take (length name)) d88 ∙ take_at name (replicate (name_most - length name) 0) (length name) refl;
        salt-is = ap (take Nn) d28 ∙ take_at salt r7 Nn hs;
        key-is = ap (take (length key)) d40 ∙ padded-front key_room key r8;
      }

-- ---- reading

-- What is known of bytes that are read as a track.
pub record Read (l : List ℕ) : Type 0 where
  pub suite : Suite
  pub marked : is_mark (get_or l mark_at 0) ≡ true
  pub name-inside : number 2 (drop length_at l) ≤ name_most
  pub suited : suite_of (get_or l suite_at 0) ≡ Some suite
  pub is : decode l ≡ track (decode_as suite l)

pub data View (l : List ℕ) : Type 0 where
  nothing : decode l ≡ empty → View l
  something : Read l → View l

both_false : (a b : Bool) → b ≡ false → both a b ≡ false
both_false true b e = e
both_false false b e = refl

module _ (l : List ℕ) where
  pub read-track : (s : Suite) → is_mark (get_or l mark_at 0) ≡ true → number 2 (drop length_at l) ≤ name_most → suite_of (get_or l suite_at 0) ≡ Some s → decode l ≡ track (decode_as s l)
  unfolding decode decode_in
  read-track s m n k = rw (m, le-leb (number 2 (drop length_at l)) name_most n, k)

  pub read-unmarked : is_mark (get_or l mark_at 0) ≡ false → decode l ≡ empty
  unfolding decode
  read-unmarked m = rw m

  pub read-long : name_most < number 2 (drop length_at l) → decode l ≡ empty
  unfolding decode
  read-long n = rw (both_false (is_mark (get_or l mark_at 0)) (leb (number 2 (drop length_at l)) name_most) (lt-leb (number 2 (drop length_at l)) name_most n))

  pub read-unsuited : suite_of (get_or l suite_at 0) ≡ None → decode l ≡ empty
  unfolding decode decode_in
  read-unsuited k = by (both (is_mark (get_or l mark_at 0)) (leb (number 2 (drop length_at l)) name_most))
    where
      by : (t : Bool) → pick t (decode_in (suite_of (get_or l suite_at 0)) l) empty ≡ empty
      by true = rw k
      by false = refl

  pub view : View l
  view = by (two (is_mark (get_or l mark_at 0))) (two (leb (number 2 (drop length_at l)) name_most)) (suite_of (get_or l suite_at 0)) refl
    where
      by : Two (is_mark (get_or l mark_at 0)) → Two (leb (number 2 (drop length_at l)) name_most) → (f : Option Suite) → suite_of (get_or l suite_at 0) ≡ f → View l
      by (no' m) n f k = nothing (read-unmarked m)
      by (yes' m) (no' n) f k = nothing (read-long (leb-false (number 2 (drop length_at l)) name_most n))
      by (yes' m) (yes' n) None k = nothing (read-unsuited k)
      by (yes' m) (yes' n) (Some s) k =
          let h = leb-true (number 2 (drop length_at l)) name_most n in
          something (record { suite = s; marked = m; name-inside = h; suited = k; is = read-track s m h k })

  -- what is not empty is read as a track
  pub read : is_empty (decode l) ≡ false → Read l
  read e = by view
    where
      by : View l → Read l
      by (nothing q) = absurd (false≢true (sym e ∙ ap is_empty q))
      by (something r) = r

-- ---- a record written is read back

abbrev track_of : (kind : Kind) (s : Suite) (name : List ℕ) (key_id floor : ℕ) (salt key : List ℕ) → Track
track_of kind s name key_id floor salt key = record { kind = kind; suite = s; id = record { name = name; key_id = key_id }; floor = floor; salt = salt; key = key }

kind-mark : (k : Kind) → (kind_of (mark_of k) ≡ k) × (is_mark (mark_of k) ≡ true) × (mark_of k < 256)
kind-mark Sender = (refl, refl, omega arith)
kind-mark Receiver = (refl, refl, omega arith)
kind-mark Retired = (refl, refl, omega arith)

-- a track from its fields
joined : {k k' : Kind} {s : Suite} {n n' : List ℕ} {i i' f f' : ℕ} {a a' b b' : List ℕ} → k ≡ k' → n ≡ n' → i ≡ i' → f ≡ f' → a ≡ a' → b ≡ b'
    → ◌≡◌ {A = Track} (track_of k s n i f a b) (track_of k' s n' i' f' a' b')
joined {s = s} p q r u v w = λ x. track_of (p x) s (q x) (r x) (u x) (v x) (w x)

pub encode-length : (r : TrackRecord) → Fit r → length (encode r) ≡ record_size
unfolding encode
encode-length empty f = length-replicate {A = ℕ} record_size 0
encode-length (track t) f =
    let k = Nk-most t.suite in
    row-length (mark_of t.kind) (number_of t.suite) t.floor t.id.key_id t.id.name t.salt t.key f.name-most f.salt-length (rw f.key-length k)

pub encode-octets : (r : TrackRecord) → Fit r → Octets (encode r)
unfolding encode
encode-octets empty f = octets-replicate record_size 0 (omega arith)
encode-octets (track t) f =
    row-octets (mark_of t.kind) (number_of t.suite) t.floor t.id.key_id t.id.name t.salt t.key (kind-mark t.kind).2 (number-byte t.suite) f.name-octets f.salt-octets f.key-octets

pub decode-encode : (r : TrackRecord) → Fit r → decode (encode r) ≡ r
unfolding encode decode_as
decode-encode empty f = read-unmarked (replicate record_size 0) refl
decode-encode (track t) f = read-track l t.suite marked inside suited ∙ ap track same-track
  where
    l : List ℕ
    l = row (mark_of t.kind) (number_of t.suite) t.floor t.id.key_id t.id.name t.salt t.key

    mark-is : get_or l mark_at 0 ≡ mark_of t.kind
    mark-is = row-mark (mark_of t.kind) (number_of t.suite) t.floor t.id.key_id t.id.name t.salt t.key

    p : RowRead l (number_of t.suite) t.floor t.id.key_id t.id.name t.salt t.key
    p = row_read (mark_of t.kind) (number_of t.suite) t.floor t.id.key_id t.id.name t.salt t.key f.key_id-below f.floor-most f.name-most f.salt-length (rw f.key-length (Nk-most t.suite))

    marked : is_mark (get_or l mark_at 0) ≡ true
    marked = ap is_mark mark-is ∙ (kind-mark t.kind).1

    inside : number 2 (drop length_at l) ≤ name_most
    inside = rw p.length-is f.name-most

    suited : suite_of (get_or l suite_at 0) ≡ Some t.suite
    suited = ap suite_of p.suite-is ∙ number-known t.suite

    name-is : take (number 2 (drop length_at l)) (drop name_at l) ≡ t.id.name
    name-is = ap (λ (n : ℕ). take n (drop name_at l)) p.length-is ∙ p.name-is

    key-is : take (Nk t.suite) (drop key_at l) ≡ t.key
    key-is = ap (λ (n : ℕ). take n (drop key_at l)) (sym f.key-length) ∙ p.key-is

    kind-is : kind_of (get_or l mark_at 0) ≡ t.kind
    kind-is = ap kind_of mark-is ∙ (kind-mark t.kind).0

    same-track : decode_as t.suite l ≡ t
    same-track = joined kind-is name-is p.key_id-is p.floor-is p.salt-is key-is

-- ---- what obeys the layout is in range

part_length : (n i : ℕ) (l : List ℕ) → length l ≡ record_size → i + n ≤ record_size → length (take n (drop i l)) ≡ n
part_length n i l e h = simp (length-take, length-drop) (omega arith)

floor-read : (flagged n : ℕ) → n < ceiling → pick (eqb flagged 0) 0 (n + 1) ≤ ceiling
floor-read flagged n h = by (two (eqb flagged 0))
  where
    by : Two (eqb flagged 0) → pick (eqb flagged 0) 0 (n + 1) ≤ ceiling
    by (yes' t) = rw t (omega arith)
    by (no' t) = rw t (omega arith)

module _ (l : List ℕ) (o : Octets l) (n : length l ≡ record_size) where
  track-in-range : (r : Read l) → fits_kind (decode_as r.suite l).kind (decode_as r.suite l) ≡ true → InRange (decode_as r.suite l)
  unfolding decode_as floor_in
  track-in-range r e =
      let k = Nk-most r.suite in
      let m = part_length (number 2 (drop length_at l)) name_at l n (omega (arith, r.name-inside)) in
      record {
        key_id-below = number_lt 8 (drop key_id_at l) (octets-drop key_id_at l o);
        floor-most = floor-read (get_or l flag_at 0) (number pair_size (drop pair_at l)) (number_lt pair_size (drop pair_at l) (octets-drop pair_at l o));
        name-most = rw m r.name-inside;
        name-octets = octets-take (number 2 (drop length_at l)) (drop name_at l) (octets-drop name_at l o);
        salt-length = part_length Nn salt_at l n (omega arith);
        salt-octets = octets-take Nn (drop salt_at l) (octets-drop salt_at l o);
        key-length = part_length (Nk r.suite) key_at l n (omega arith);
        key-octets = octets-take (Nk r.suite) (drop key_at l) (octets-drop key_at l o);
        kind_fits = e;
      }

  in-range : fits (decode l) ≡ true → Fit (decode l)
  unfolding fits
  in-range e = by (view l)
    where
      by : View l → Fit (decode l)
      by (nothing q) = rw q tt
      by (something r) = let f : fits_kind (decode_as r.suite l).kind (decode_as r.suite l) ≡ true = rw r.is at e in rw r.is (track-in-range r f)

pub obeys-fits : (l : List ℕ) → Octets l → length l ≡ record_size → obeys l ≡ true → Fit (decode l) × (encode (decode l) ≡ l)
unfolding obeys
obeys-fits l o n e =
    let t = both_true (same (encode (decode l)) l) (fits (decode l)) e in
    (in-range l o n t.1, same-eq (encode (decode l)) l t.0)

fit-fits : (r : TrackRecord) → Fit r → fits r ≡ true
unfolding fits
fit-fits empty f = refl
fit-fits (track t) f = f.kind_fits

pub fits-obeys : (r : TrackRecord) → Fit r → obeys (encode r) ≡ true
unfolding obeys
fits-obeys r f = rw (decode-encode r f) (both-and _ _ (same_refl (encode r)) (fit-fits r f))

-- SPDX-License-Identifier: MIT
-- A change of epoch in bytes, step by step, over plain variables. Assumes nothing.
use mathlib.Core.Path.{◌≡◌, refl, sym, ◌∙◌, ap, ap₂}
use mathlib.Core.Bool.{Bool, true, false, not}
use mathlib.Core.List.{List, [], ◌∷◌, ◌++◌, append_assoc, append-nil}
use Prim.Native.Nat.{ℕ, suc, ◌+◌, ◌*◌, ◌/◌, ◌%◌, ◌-◌, ◌^◌, ◌<◌, ◌≤◌}
use native.Mathlib.Omega.{arith}
use lib.Dec.{ltb, eqb}
use lib.ListN.{length, get_or, take, drop, replicate, length-append, length-take, length-drop}
use lib.Seq.{take_at, drop_at, drop-drop, take-add, take-suc, take_all}
use borrow.Rule.Slice.PartMut.{put_mid}
use borrow.Author.Tests.{lt-ltb, le-ltb, lt-leb, le-leb, ltb-true, ltb-false, not-true, not-false}
use Rattle.octets.specs.Octets.{Octets, both, pasted}
use Rattle.octets.proofs.Laws.{lent-pasted, part-rest}
use Rattle.answers.specs.Answers.{done, store_invalid, group_part_too_large, group_kid_too_long, first, settled}
use Rattle.answers.proofs.Basics.{told-false, told-true}
use Rattle.group.specs.Group.{kid_bits, epoch_in}
use Rattle.key_record.specs.Layout.{record_size, encode, decode}
use Rattle.key_record.specs.Record.{KeyRecord, empty, is_receiving, kid_of}
use Rattle.store.specs.Store.{encode_all, records, sound}
use Rattle.store.specs.Inner.Places.{Within}
use Rattle.store.proofs.Empties.{zeros}
use Rattle.store.proofs.Moves.{encode-append, mid-last}
use Rattle.store.proofs.Places.{place-row, place-bytes}
use Rattle.store.proofs.Stores.{AllFit, encode-all-length, sound-stored, stored-length}
use Rattle.change_epoch.specs.Epoch.{of_epoch, others, without_epoch, epoch_causes, epoch_at, change_epoch}
use Rattle.change_epoch.proofs.Epochs.{others-gone, others-stay, others-append, others-most, others-fit}

-- ---- one record

pub epoch-none : (E bits : ℕ) (r : KeyRecord) (b : Bool) → b ≡ is_receiving r → not b ≡ true → false ≡ of_epoch E bits r
unfolding of_epoch
epoch-none E bits r b e t = sym (ap (λ (x : Bool). both x (eqb (epoch_in E (kid_of r)) bits)) (told-false b _ e t))

pub epoch-told : (E bits : ℕ) (r : KeyRecord) (b : Bool) (kid low : ℕ) → b ≡ is_receiving r → not b ≡ false → kid ≡ kid_of r → low ≡ kid % 2 ^ E → eqb low bits ≡ of_epoch E bits r
unfolding of_epoch epoch_in
epoch-told E bits r b kid low e t k l = rw (told-true b _ e t) (ap (λ (x : ℕ). eqb x bits) (l ∙ ap (λ (x : ℕ). x % 2 ^ E) k))

-- ---- a record copied down

module _ (s x : List ℕ) (to from end : ℕ) (below : to ≤ from) (inside : from + record_size ≤ length s) (next : end ≡ from + record_size) where
  -- the bytes from the place that is written to the end of the record
  part-splits : take (end - to) (drop to s) ≡ take (from - to) (drop to s) ++ take record_size (drop from s)
  part-splits =
      let w : end - to ≡ (from - to) + record_size = omega arith in
      let f : to + (from - to) ≡ from = omega arith in
      ap (λ (k : ℕ). take k (drop to s)) w
      ∙ take-add (from - to) record_size (drop to s)
      ∙ ap (λ (t : List ℕ). take (from - to) (drop to s) ++ take record_size t) (drop-drop (from - to) to s ∙ ap (λ (k : ℕ). drop k s) f)

  pub row-length : length (take record_size (drop from s)) ≡ record_size
  row-length = simp (length-take, length-drop) (omega arith)

  front_length : length (take (from - to) (drop to s)) ≡ from - to
  front_length = simp (length-take, length-drop) (omega arith)

  part_length : length (take (end - to) (drop to s)) ≡ end - to
  part_length = simp (length-take, length-drop) (omega arith)

  pub copied-down : x ≡ drop (from - to) (take (end - to) (drop to s)) ++ drop (length (take (end - to) (drop to s)) - (from - to)) (take (end - to) (drop to s))
      → put_mid to (end - to) s x ≡ pasted s to (take record_size (drop from s))
  copied-down e =
      let n = row-length in
      let w : length (take (end - to) (drop to s)) - (from - to) ≡ length (take record_size (drop from s)) = omega (arith, part_length) in
      lent-pasted s x (take record_size (drop from s)) to (end - to) (omega arith) (omega arith)
      (e ∙ ap₂ (λ (a : List ℕ) (k : ℕ). a ++ drop k (take (end - to) (drop to s))) (ap (drop (from - to)) part-splits ∙ drop_at (take (from - to) (drop to s)) (take record_size (drop from s)) (from - to) front_length) w)

-- ---- the records that stay, up to one

-- the first n of them in bytes
pub staying : (E bits n : ℕ) (s : List ℕ) → List ℕ
staying E bits n s = encode_all (others E bits (take n (records s)))

-- where the first i records of s were read, and those of them that stay written, up to to
pub record Gathered (E bits : ℕ) (s t : List ℕ) (to i : ℕ) : Type 0 where
  pub inside : i * record_size ≤ length s
  pub below : to ≤ i * record_size
  pub written : to ≡ length (staying E bits i s)
  pub bytes-are : t ≡ staying E bits i s ++ drop to s

pub gathered_none : (E bits : ℕ) (s : List ℕ) → Gathered E bits s s 0 0
unfolding staying others encode_all
gathered_none E bits s = record { inside = omega arith; below = omega arith; written = refl; bytes-are = refl }

module _ (E bits : ℕ) (s : List ℕ) (o : Octets s) (is-sound : sound s ≡ true) (t : List ℕ) (to i : ℕ) (g : Gathered E bits s t to i) where
  abbrev from : ℕ
  from = i * record_size

  abbrev end : ℕ
  end = from + record_size

  abbrev r : KeyRecord
  r = get_or (records s) i empty

  count : length s ≡ length (records s) * record_size
  count = stored-length s (records s) (sound-stored s o is-sound)

  pub same_length : length t ≡ length s
  same_length = ap length g.bytes-are ∙ simp (length-append, length-drop) (omega (arith, g.written, g.below, g.inside))

  -- what is not yet read is as it was
  unread : drop from t ≡ drop from s
  unread =
      let f : to + (from - to) ≡ from = omega (arith, g.below) in
      ap (λ (k : ℕ). drop k t) (sym f)
      ∙ sym (drop-drop (from - to) to t)
      ∙ ap (drop (from - to)) (ap (drop to) g.bytes-are ∙ drop_at (staying E bits i s) (drop to s) to (sym g.written))
      ∙ drop-drop (from - to) to s
      ∙ ap (λ (k : ℕ). drop k s) f

  module _ (more : i < length s / record_size) where
    within : Within s i
    within = (is-sound, omega (arith, more, count))

    pub room : end ≤ length t
    room = omega (arith, more, same_length)

    row_is : take (end - from) (drop from t) ≡ take (end - from) (drop from s)
    row_is = ap (take (end - from)) unread

    decoded : decode (take (end - from) (drop from t)) ≡ r
    decoded = ap decode row_is ∙ (place-row s i within end refl).1

    encoded : take (end - from) (drop from t) ≡ encode r
    encoded = row_is ∙ place-bytes s i within end refl o

    one_more : take (i + 1) (records s) ≡ take i (records s) ++ (r ∷ [])
    one_more = let next : i + 1 ≡ suc i = omega arith in ap (λ (k : ℕ). take k (records s)) next ∙ take-suc (records s) i empty within.1

    module _ (b : Bool) (e : b ≡ of_epoch E bits (decode (take (end - from) (drop from t)))) where
      test-is : of_epoch E bits r ≡ b
      test-is = ap (of_epoch E bits) (sym decoded) ∙ sym e

      -- a record that goes is passed over
      passed : not b ≡ false → staying E bits (i + 1) s ≡ staying E bits i s
      unfolding staying others
      passed n =
          ap (λ (l : List KeyRecord). encode_all (others E bits l)) one_more
          ∙ ap encode_all (others-append E bits (take i (records s)) (r ∷ []) ∙ ap (λ (l : List KeyRecord). others E bits (take i (records s)) ++ l) (others-gone E bits r [] (test-is ∙ not-false b n)) ∙ append-nil (others E bits (take i (records s))))

      pub gathered-past : (u : List ℕ) (to' : ℕ) → not b ≡ false → u ≡ t → to' ≡ to → Gathered E bits s u to' (i + 1)
      gathered-past u to' n q k = record {
        inside = omega (arith, room, same_length);
        below = omega (arith, g.below);
        written = k ∙ g.written ∙ ap length (sym (passed n));
        bytes-are = q ∙ g.bytes-are ∙ ap₂ (λ (l : List ℕ) (j : ℕ). l ++ drop j s) (sym (passed n)) (sym k);
      }

      -- a record that stays is copied down
      longer : not b ≡ true → staying E bits (i + 1) s ≡ staying E bits i s ++ take (end - from) (drop from t)
      unfolding staying others encode_all
      longer n =
          ap (λ (l : List KeyRecord). encode_all (others E bits l)) one_more
          ∙ ap encode_all (others-append E bits (take i (records s)) (r ∷ []) ∙ ap (λ (l : List KeyRecord). others E bits (take i (records s)) ++ l) (others-stay E bits r [] (test-is ∙ not-true b n)))
          ∙ encode-append (others E bits (take i (records s))) (r ∷ [])
          ∙ ap (λ (l : List ℕ). encode_all (others E bits (take i (records s))) ++ l) (append-nil (encode r) ∙ sym encoded)

      pub gathered-on : (u : List ℕ) (to' : ℕ) → not b ≡ true → u ≡ pasted t to (take record_size (drop from t)) → to' ≡ to + record_size → Gathered E bits s u to' (i + 1)
      unfolding pasted
      gathered-on u to' n q k =
          let w : end - from ≡ record_size = omega arith in
          let row : take record_size (drop from t) ≡ take (end - from) (drop from t) = ap (λ (j : ℕ). take j (drop from t)) (sym w) in
          let len : length (take (end - from) (drop from t)) ≡ record_size = simp (length-take, length-drop) (omega (arith, room)) in
          let up : to + length (take (end - from) (drop from t)) ≡ to + record_size = ap (λ (j : ℕ). to + j) len in
          record {
            inside = omega (arith, room, same_length);
            below = omega (arith, g.below);
            written = k ∙ sym (ap length (longer n) ∙ simp length-append (omega (arith, len, g.written)));
            bytes-are =
                q
                ∙ ap (λ (l : List ℕ). take to t ++ (l ++ drop (to + length l) t)) row
                ∙ ap₂ (λ (a c : List ℕ). a ++ (take (end - from) (drop from t) ++ c))
                (ap (take to) g.bytes-are ∙ take_at (staying E bits i s) (drop to s) to (sym g.written))
                (ap (λ (j : ℕ). drop j t) up
                ∙ sym (drop-drop record_size to t)
                ∙ ap (drop record_size) (ap (drop to) g.bytes-are ∙ drop_at (staying E bits i s) (drop to s) to (sym g.written))
                ∙ drop-drop record_size to s
                ∙ ap (λ (j : ℕ). drop j s) (sym k))
                ∙ sym (append_assoc (staying E bits i s) (take (end - from) (drop from t)) (drop to' s))
                ∙ ap (λ (l : List ℕ). l ++ drop to' s) (sym (longer n));
          }

  -- where all were read
  pub gathered-all : length s / record_size ≤ i → (to ≡ length (encode_all (others E bits (records s)))) × (t ≡ encode_all (others E bits (records s)) ++ drop to s)
  unfolding staying
  gathered-all past =
      let all : staying E bits i s ≡ encode_all (others E bits (records s)) =
      ap (λ (l : List KeyRecord). encode_all (others E bits l)) (take_all i (records s) (omega (arith, past, count)))
      in
      (g.written ∙ ap length all, g.bytes-are ∙ ap (λ (l : List ℕ). l ++ drop to s) all)

-- ---- the call

abbrev Leaves : (s : List ℕ) (E bits number : ℕ) (store : List ℕ) → Type 0
Leaves s E bits number store = (number ≡ (change_epoch s E bits).number) × (store ≡ (change_epoch s E bits).store)

module _ (s : List ℕ) (E bits : ℕ) (b : Bool) (e : b ≡ sound s) where
  pub epoch-unsound : not b ≡ true → Leaves s E bits store_invalid s
  unfolding change_epoch epoch_at epoch_causes first settled
  epoch-unsound t = let f = told-false b _ e t in (rw f, rw f)

  module _ (t : not b ≡ false) where
    pub epoch-wide : kid_bits < E → Leaves s E bits group_kid_too_long s
    unfolding change_epoch epoch_at epoch_causes first settled
    epoch-wide h = let f = told-true b _ e t in let w = lt-ltb kid_bits E h in (rw (f, w), rw (f, w))

    module _ (h : E ≤ kid_bits) (v : Bool) (d : v ≡ ltb bits (2 ^ E)) where
      narrow : ltb kid_bits E ≡ false
      narrow = le-ltb kid_bits E h

      pub epoch-large : not v ≡ true → Leaves s E bits group_part_too_large s
      unfolding change_epoch epoch_at epoch_causes first settled
      epoch-large n =
          let f = told-true b _ e t in
          let l = le-leb (2 ^ E) bits (ltb-false bits (2 ^ E) (told-false v _ d n)) in
          (rw (f, narrow, l), rw (f, narrow, l))

      module _ (o : Octets s) (n : not v ≡ false) (end : ℕ) (u : List ℕ) (k : end ≡ length (encode_all (others E bits (records s)))) (q : u ≡ encode_all (others E bits (records s)) ++ drop end s) where
        fit : AllFit (others E bits (records s))
        fit = others-fit E bits (records s) (sound-stored s o (told-true b _ e t)).table.fit

        pub end-inside : end ≤ length u
        end-inside = omega (arith, k, ap length q ∙ length-append (encode_all (others E bits (records s))) (drop end s))

        -- the empty records at the end, in bytes
        tail-is : replicate (length u - end) 0 ≡ encode_all (replicate (length (records s) - length (others E bits (records s))) empty)
        tail-is =
            let a = stored-length s (records s) (sound-stored s o (told-true b _ e t)) in
            let c = encode-all-length (others E bits (records s)) fit in
            let m = others-most E bits (records s) in
            let w : length u ≡ end + (length s - end) = ap length q ∙ length-append (encode_all (others E bits (records s))) (drop end s) ∙ ap₂ ◌+◌ (sym k) (length-drop end s) in
            let z : length u - end ≡ (length (records s) - length (others E bits (records s))) * record_size = omega arith in
            ap (λ (j : ℕ). replicate {A = ℕ} j 0) z ∙ sym (zeros (length (records s) - length (others E bits (records s))))

        pub epoch-done : (x : List ℕ) → x ≡ replicate (length (take (length u - end) (drop end u))) 0 → Leaves s E bits done (put_mid end (length u - end) u x)
        unfolding change_epoch epoch_at epoch_causes without_epoch first settled
        epoch-done x c =
            let f = told-true b _ e t in
            let l = lt-leb (2 ^ E) bits (ltb-true bits (2 ^ E) (told-true v _ d n)) in
            let w : length (take (length u - end) (drop end u)) ≡ length u - end = ap length (part-rest end u) ∙ length-drop end u in
            let bytes : put_mid end (length u - end) u x ≡ encode_all (others E bits (records s) ++ replicate (length (records s) - length (others E bits (records s))) empty) =
            mid-last u x end end-inside
            ∙ ap₂ (λ (a c : List ℕ). a ++ c) (ap (take end) q ∙ take_at (encode_all (others E bits (records s))) (drop end s) end (sym k)) (c ∙ ap (λ (j : ℕ). replicate {A = ℕ} j 0) w ∙ tail-is)
            ∙ sym (encode-append (others E bits (records s)) (replicate (length (records s) - length (others E bits (records s))) empty))
            in
            (rw (f, narrow, l), rw (f, narrow, l) bytes)

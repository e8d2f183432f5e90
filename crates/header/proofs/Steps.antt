-- SPDX-License-Identifier: MIT
-- The steps of the writer and of the reader, over plain variables. Assumes nothing.
use mathlib.Core.Path.{◌≡◌, refl, sym, ◌∙◌, ap, ap₂}
use mathlib.Core.List.{List, [], ◌∷◌, ◌++◌}
use Prim.Native.Nat.{ℕ, ◌+◌, ◌*◌, ◌/◌, ◌%◌, ◌-◌, ◌<◌, ◌≤◌, min}
use native.Mathlib.Omega.{arith}
use lib.Dec.{leb}
use lib.ListN.{length, get_or, take, drop, set, length-drop, take-append-drop}
use lib.Seq.{drop-drop}
use borrow.Author.Tests.{le-leb, lt-leb, leb-true, leb-false, eq-eqb, ne_eqb}
use borrow.Rule.Slice.PartMut.{put_mid}
use Rattle.octets.specs.Octets.{number, bytes, pasted}
use Rattle.octets.proofs.Laws.{part-rest, part-from, lent-from, bytes-length, set-pasted, pasted-append, pasted-from}
use Rattle.header.specs.Header.{flag, code, width, config, max_header, header, write_header, read_bytes, read_field, with_counter, read_counter, read_header, field, header_of}
use Rattle.header.specs.declared.Field.{Field}
use Rattle.std.specs.Prelude.{Option, Some, None}
use Rattle.header.proofs.Laws.{Two, yes', no', two, field-inside, header-size}

-- ---- writing

-- the config byte of two fields' bits
pub config-of : (kid ctr x y : ℕ) → x ≡ flag kid * 8 + code kid → y ≡ flag ctr * 8 + code ctr → x * 16 + y ≡ config kid ctr
unfolding config
config-of kid ctr x y p q = omega arith

module _ (kid ctr k c : ℕ) (out : List ℕ) (kw : k ≡ width kid) (cw : c ≡ width ctr) where
  whole : length (header kid ctr) ≡ 1 + k + c
  whole = rw (header-size, kw, cw)

  pub header-most : k ≤ 8 → c ≤ 8 → length (header kid ctr) ≤ max_header
  header-most m n = rw whole (omega arith)

  pub no_room : length out < 1 + k + c → (None ≡ (write_header kid ctr 0 out).answer) × (out ≡ (write_header kid ctr 0 out).room)
  unfolding write_header
  no_room h =
      let t = lt-leb (0 + length (header kid ctr)) (length out) (omega (arith, whole)) in
      (rw t, rw t)

  module _ (b : ℕ) (p q : List ℕ) (is : b ≡ config kid ctr) (first : p ≡ pasted (set out 0 b) 1 (bytes k kid)) (second : q ≡ pasted p (1 + k) (bytes c ctr)) where
    all : 1 + k + c ≤ length out → q ≡ pasted out 0 (header kid ctr)
    unfolding header
    all h =
        let nk = bytes-length k kid in
        let nc = bytes-length c ctr in
        let one : set out 0 b ≡ pasted out 0 (b ∷ []) = set-pasted out 0 b (omega arith) in
        let two : p ≡ pasted out 0 (b ∷ bytes k kid) = first ∙ ap (λ (l : List ℕ). pasted l 1 (bytes k kid)) one ∙ pasted-append out 0 (b ∷ []) (bytes k kid) (omega arith) in
        let three : q ≡ pasted out 0 (b ∷ (bytes k kid ++ bytes c ctr)) =
        second
        ∙ ap₂ (λ (l : List ℕ) (i : ℕ). pasted l i (bytes c ctr)) two (omega arith)
        ∙ pasted-append out 0 (b ∷ bytes k kid) (bytes c ctr) (omega arith)
        in
        let four : b ∷ (bytes k kid ++ bytes c ctr) ≡ header kid ctr = rw (kw, cw, is) in
        three ∙ ap (pasted out 0) four

    pub wrote : 1 + k + c ≤ length out → (Some (1 + k + c) ≡ (write_header kid ctr 0 out).answer) × (q ≡ (write_header kid ctr 0 out).room)
    unfolding write_header
    wrote h =
        let t = le-leb (0 + length (header kid ctr)) (length out) (omega (arith, whole)) in
        (rw (t, whole), rw t (all h))

-- at an offset: the header at the front of the part that is lent from there on, which begins at i
module _ (kid ctr offset i : ℕ) (out : List ℕ) (from : i ≡ min offset (length out)) where
  -- the room is as short for the one as for the other
  part-short : leb (0 + length (header kid ctr)) (length (drop offset out)) ≡ leb (offset + length (header kid ctr)) (length out)
  part-short = by (two (leb (offset + length (header kid ctr)) (length out)))
    where
      by : Two (leb (offset + length (header kid ctr)) (length out)) → leb (0 + length (header kid ctr)) (length (drop offset out)) ≡ leb (offset + length (header kid ctr)) (length out)
      by (yes' t) = let h = leb-true (offset + length (header kid ctr)) (length out) t in le-leb (0 + length (header kid ctr)) (length (drop offset out)) (simp length-drop (omega arith)) ∙ sym t
      by (no' t) =
          let h = leb-false (offset + length (header kid ctr)) (length out) t in
          let n = header-size kid ctr in
          lt-leb (0 + length (header kid ctr)) (length (drop offset out)) (simp length-drop (omega arith)) ∙ sym t

  pub wrote_at : (w : Option ℕ) (p : List ℕ) → w ≡ (write_header kid ctr 0 (take (length out - i) (drop i out))).answer → p ≡ (write_header kid ctr 0 (take (length out - i) (drop i out))).room
      → (w ≡ (write_header kid ctr offset out).answer) × (put_mid i (length out - i) out p ≡ (write_header kid ctr offset out).room)
  unfolding write_header
  wrote_at w p a r = by (two (leb (offset + length (header kid ctr)) (length out)))
    where
      a' : w ≡ (write_header kid ctr 0 (drop offset out)).answer
      a' = rw (part-from out offset i from) at a

      r' : p ≡ (write_header kid ctr 0 (drop offset out)).room
      r' = rw (part-from out offset i from) at r

      by : Two (leb (offset + length (header kid ctr)) (length out)) → (w ≡ (write_header kid ctr offset out).answer) × (put_mid i (length out - i) out p ≡ (write_header kid ctr offset out).room)
      by (yes' t) =
          let s = part-short ∙ t in
          let q : p ≡ pasted (drop offset out) 0 (header kid ctr) = rw s at r' in
          (rw t (rw s at a'), rw t (lent-from out p offset i from ∙ ap (λ (x : List ℕ). take offset out ++ x) q ∙ pasted-from out offset (header kid ctr)))
      by (no' t) =
          let s = part-short ∙ t in
          let q : p ≡ drop offset out = rw s at r' in
          (rw t (rw s at a'), rw t (lent-from out p offset i from ∙ ap (λ (x : List ℕ). take offset out ++ x) q ∙ take-append-drop offset out))

-- ---- reading a field

module _ (x k : ℕ) (l : List ℕ) where
  pub short-form : x ≡ 0 → Some (field k 0) ≡ read_field x k l
  unfolding read_field
  short-form e = rw (eq-eqb x 0 e)

  pub cut : (x ≡ 0 → ⊥) → length l < k + 1 → None ≡ read_field x k l
  unfolding read_field read_bytes
  cut d h = rw (ne_eqb x 0 d, lt-leb (k + 1) (length l) h)

  pub whole-field : (v : ℕ) → (x ≡ 0 → ⊥) → k + 1 ≤ length l → v ≡ number (k + 1) l → Some (field v (k + 1)) ≡ read_field x k l
  unfolding read_field read_bytes
  whole-field v d h e = rw (ne_eqb x 0 d, le-leb (k + 1) (length l) h, ← e)

-- ---- reading the header

pub nothing : (l : List ℕ) → length l ≡ 0 → None ≡ read_header l
unfolding read_header
nothing [] e = refl
nothing (b ∷ l) e = absurd (omega arith)

-- the KID's field is read behind the first byte
opened : (l : List ℕ) (f : Option Field) → (length l ≡ 0 → ⊥) → f ≡ read_field (get_or l 0 0 / 128) (get_or l 0 0 / 16 % 8) (take (length l - 1) (drop 1 l))
    → read_header l ≡ read_counter (get_or l 0 0) (drop 1 l) f
unfolding read_header
opened [] f d e = absurd (d refl)
opened (b ∷ l) f d e = ap (read_counter b l) (ap (read_field (b / 128) (b / 16 % 8)) (sym (part-rest 1 (b ∷ l))) ∙ sym e)

module _ (l : List ℕ) (f : Option Field) (some : length l ≡ 0 → ⊥) (first : f ≡ read_field (get_or l 0 0 / 128) (get_or l 0 0 / 16 % 8) (take (length l - 1) (drop 1 l))) where
  pub no-kid : f ≡ None → None ≡ read_header l
  unfolding read_counter
  no-kid e = sym (opened l f some first ∙ ap (read_counter (get_or l 0 0) (drop 1 l)) e)

  module _ (kid a : ℕ) (is : f ≡ Some (field kid a)) where
    pub kid-inside : 1 + a ≤ length l
    kid-inside =
        let h = field-inside _ _ kid a _ (sym first ∙ is) in
        omega (arith, simp (part-rest, length-drop) at h)

    module _ (g : Option Field) (second : g ≡ read_field (get_or l 0 0 / 8 % 2) (get_or l 0 0 % 8) (take (length l - (1 + a)) (drop (1 + a) l))) where
      after : read_header l ≡ with_counter kid a g
      unfolding read_counter
      after =
          opened l f some first
          ∙ ap (read_counter (get_or l 0 0) (drop 1 l)) is
          ∙ ap (λ (t : List ℕ). with_counter kid a (read_field (get_or l 0 0 / 8 % 2) (get_or l 0 0 % 8) t)) (drop-drop a 1 l ∙ sym (part-rest (1 + a) l))
          ∙ ap (with_counter kid a) (sym second)

      pub no-counter : g ≡ None → None ≡ read_header l
      unfolding with_counter
      no-counter e = sym (after ∙ ap (with_counter kid a) e)

      pub both_read : (ctr c : ℕ) → g ≡ Some (field ctr c) → header_of (record { 0 = kid }) (record { 0 = ctr }) (1 + a + c) ≡ read_header l
      unfolding with_counter
      both_read ctr c e = sym (after ∙ ap (with_counter kid a) e)

      pub counter-inside : (ctr c : ℕ) → g ≡ Some (field ctr c) → 1 + a + c ≤ length l
      counter-inside ctr c e =
          let h = field-inside _ _ ctr c _ (sym second ∙ e) in
          let i = kid-inside in
          omega (arith, simp (part-rest, length-drop) at h)

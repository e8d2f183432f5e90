-- SPDX-License-Identifier: MIT
-- A row's fields, written one at a time. Assumes nothing.
use mathlib.Core.Path.{◌≡◌, refl, sym, ◌∙◌, ap, ap₂}
use mathlib.Core.List.{List, [], ◌∷◌, ◌++◌, append_assoc, append-nil}
use Prim.Native.Nat.{ℕ, zero, suc, ◌+◌, ◌-◌, ◌≤◌}
use native.Mathlib.Nat.{add_assoc, sub-zero}
use native.Mathlib.Omega.{arith}
use lib.ListN.{length, take, drop, set, replicate, length-append, length-take, length-drop, length-replicate, replicate-append-replicate, drop_of_length-le}
use lib.Seq.{drop_at, drop-drop, drop-append-le, take-append-add}
use borrow.Rule.Slice.PartMut.{put_mid}
use Rattle.octets.specs.Octets.{bytes, pasted}
use Rattle.octets.proofs.Laws.{bytes-length, pasted-front, lent-pasted}
use Rattle.suites.specs.Suites.{Nn}
use Rattle.secure_objects.specs.Objects.{name_most}
use Rattle.track_record.specs.Layout.{record_size, mark_at, suite_at, flag_at, key_id_at, pair_at, pair_size, length_at, salt_at, key_at, key_room, name_at, flag, padded, row}
use Rattle.track_record.proofs.Codec.{padded-length}

-- ---- pasting into a list of parts

-- past a first part
past : (a l x : List ℕ) (i j : ℕ) → j ≡ length a + i → pasted (a ++ l) j x ≡ a ++ pasted l i x
unfolding pasted
past a l x i j e =
    rw e
    (ap₂ (λ (p q : List ℕ). p ++ (x ++ q)) (take-append-add a l i)
    (ap (λ (k : ℕ). drop k (a ++ l)) (add_assoc (length a) i (length x)) ∙ sym (drop-drop (i + length x) (length a) (a ++ l)) ∙ ap (drop (i + length x)) (drop_at a l (length a) refl))
    ∙ append_assoc a (take i l) (x ++ drop (i + length x) l))

-- over the whole of a first part
over : (a l x : List ℕ) → length a ≡ length x → pasted (a ++ l) 0 x ≡ x ++ l
over a l x e = pasted-front (a ++ l) x ∙ ap (λ (t : List ℕ). x ++ t) (drop_at a l (length x) e)

-- over the front of zeros
zero-sub : (n : ℕ) → 0 ≡ 0 - n
zero-sub n = omega arith

drop-zeros : (n m : ℕ) → drop n (replicate {A = ℕ} m 0) ≡ replicate (m - n) 0
drop-zeros zero m = ap (λ (k : ℕ). replicate {A = ℕ} k 0) (sym (sub-zero m))
drop-zeros (suc n) zero = ap (λ (k : ℕ). replicate {A = ℕ} k 0) (zero-sub (suc n))
drop-zeros (suc n) (suc m) = drop-zeros n m ∙ ap (λ (k : ℕ). replicate {A = ℕ} k 0) same
  where
    same : m - n ≡ suc m - suc n
    same = omega arith

over_zeros : (n : ℕ) (x l : List ℕ) → length x ≤ n → pasted (padded n [] ++ l) 0 x ≡ padded n x ++ l
over_zeros n x l h =
    pasted-front (replicate (n - 0) 0 ++ l) x
    ∙ ap (λ (t : List ℕ). x ++ t) (drop-append-le (length x) (replicate (n - 0) 0) l (rw (length-replicate, sub-zero) h) ∙ ap (λ (t : List ℕ). t ++ l) (drop-zeros (length x) (n - 0) ∙ ap (λ (k : ℕ). replicate {A = ℕ} (k - length x) 0) (sub-zero n)))
    ∙ sym (append_assoc x (replicate (n - length x) 0) l)

-- what fills a part that is lent is pasted there
pub lent-whole : (l p : List ℕ) (i k : ℕ) → length p ≡ k → i + k ≤ length l → put_mid i k l p ≡ pasted l i p
lent-whole l p i k e h =
    lent-pasted l p p i k (omega arith) h
    (sym (ap (λ (t : List ℕ). p ++ t) (drop_of_length-le (take k (drop i l)) {i = length p} (simp (length-take, length-drop) (omega arith))) ∙ append-nil p))

-- ---- a row with all of its fields given

abbrev pub row_with : (mark suite flag key_id pair length : ℕ) (salt key name : List ℕ) → List ℕ
row_with mark suite flag key_id pair len salt key name =
    (mark ∷ suite ∷ flag ∷ 0 ∷ []) ++ (bytes 8 key_id ++ (bytes pair_size pair ++ (bytes 2 len ++ ((0 ∷ 0 ∷ []) ++ (salt ++ (padded key_room key ++ padded name_most name))))))

pub row-with : (mark suite floor key_id : ℕ) (name salt key : List ℕ) → row mark suite floor key_id name salt key ≡ row_with mark suite (flag floor) key_id (floor - 1) (length name) salt key name
unfolding row
row-with mark suite floor key_id name salt key = refl

-- zeros are a row
pub row-empty : replicate record_size 0 ≡ row_with 0 0 0 0 0 0 (replicate Nn 0) [] []
unfolding bytes
row-empty = refl

module _ (m s f k p n : ℕ) (salt key name : List ℕ) where
  pub write-mark : (x : ℕ) → set (row_with m s f k p n salt key name) mark_at x ≡ row_with x s f k p n salt key name
  write-mark x = refl

  pub write-suite : (x : ℕ) → set (row_with m s f k p n salt key name) suite_at x ≡ row_with m x f k p n salt key name
  write-suite x = refl

  pub write-flag : (x : ℕ) → set (row_with m s f k p n salt key name) flag_at x ≡ row_with m s x k p n salt key name
  write-flag x = refl

  -- past the first four bytes
  four : (j i : ℕ) (x l : List ℕ) → j ≡ 4 + i → pasted ((m ∷ s ∷ f ∷ 0 ∷ []) ++ l) j x ≡ (m ∷ s ∷ f ∷ 0 ∷ []) ++ pasted l i x
  four j i x l e = past (m ∷ s ∷ f ∷ 0 ∷ []) l x i j e

  pub write-key_id : (x : ℕ) → pasted (row_with m s f k p n salt key name) key_id_at (bytes 8 x) ≡ row_with m s f x p n salt key name
  write-key_id x =
      four key_id_at 0 (bytes 8 x) (bytes 8 k ++ rest) refl
      ∙ ap (λ (t : List ℕ). (m ∷ s ∷ f ∷ 0 ∷ []) ++ t) (over (bytes 8 k) rest (bytes 8 x) (bytes-length 8 k ∙ sym (bytes-length 8 x)))
    where
      rest : List ℕ
      rest = bytes pair_size p ++ (bytes 2 n ++ ((0 ∷ 0 ∷ []) ++ (salt ++ (padded key_room key ++ padded name_most name))))

  -- past the Key ID too
  twelve : (j i : ℕ) (x l : List ℕ) → j ≡ 12 + i → pasted ((m ∷ s ∷ f ∷ 0 ∷ []) ++ (bytes 8 k ++ l)) j x ≡ (m ∷ s ∷ f ∷ 0 ∷ []) ++ (bytes 8 k ++ pasted l i x)
  twelve j i x l e =
      let b = bytes-length 8 k in
      four j (8 + i) x (bytes 8 k ++ l) (omega arith) ∙ ap (λ (t : List ℕ). (m ∷ s ∷ f ∷ 0 ∷ []) ++ t) (past (bytes 8 k) l x i (8 + i) (omega arith))

  pub write-pair : (x : ℕ) → pasted (row_with m s f k p n salt key name) pair_at (bytes pair_size x) ≡ row_with m s f k x n salt key name
  write-pair x =
      twelve pair_at 0 (bytes pair_size x) (bytes pair_size p ++ rest) refl
      ∙ ap (λ (t : List ℕ). (m ∷ s ∷ f ∷ 0 ∷ []) ++ (bytes 8 k ++ t)) (over (bytes pair_size p) rest (bytes pair_size x) (bytes-length pair_size p ∙ sym (bytes-length pair_size x)))
    where
      rest : List ℕ
      rest = bytes 2 n ++ ((0 ∷ 0 ∷ []) ++ (salt ++ (padded key_room key ++ padded name_most name)))

  -- past the pair too
  abbrev front : List ℕ → List ℕ
  front l = (m ∷ s ∷ f ∷ 0 ∷ []) ++ (bytes 8 k ++ (bytes pair_size p ++ l))

  past-pair : (j i : ℕ) (x l : List ℕ) → j ≡ length_at + i → pasted (front l) j x ≡ front (pasted l i x)
  past-pair j i x l e =
      let b = bytes-length pair_size p in
      twelve j (pair_size + i) x (bytes pair_size p ++ l) (omega arith)
      ∙ ap (λ (t : List ℕ). (m ∷ s ∷ f ∷ 0 ∷ []) ++ (bytes 8 k ++ t)) (past (bytes pair_size p) l x i (pair_size + i) (omega arith))

  pub write-length : (x : ℕ) → pasted (row_with m s f k p n salt key name) length_at (bytes 2 x) ≡ row_with m s f k p x salt key name
  write-length x =
      past-pair length_at 0 (bytes 2 x) (bytes 2 n ++ rest) refl ∙ ap front (over (bytes 2 n) rest (bytes 2 x) (bytes-length 2 n ∙ sym (bytes-length 2 x)))
    where
      rest : List ℕ
      rest = (0 ∷ 0 ∷ []) ++ (salt ++ (padded key_room key ++ padded name_most name))

  -- past the name's length and the two zeros too
  past-zeros : (j i : ℕ) (x l : List ℕ) → j ≡ salt_at + i → pasted (front (bytes 2 n ++ ((0 ∷ 0 ∷ []) ++ l))) j x ≡ front (bytes 2 n ++ ((0 ∷ 0 ∷ []) ++ pasted l i x))
  past-zeros j i x l e =
      let b = bytes-length 2 n in
      past-pair j (4 + i) x (bytes 2 n ++ ((0 ∷ 0 ∷ []) ++ l)) (omega arith)
      ∙ ap front (past (bytes 2 n) ((0 ∷ 0 ∷ []) ++ l) x (2 + i) (4 + i) (omega arith) ∙ ap (λ (t : List ℕ). bytes 2 n ++ t) (past (0 ∷ 0 ∷ []) l x i (2 + i) refl))

  abbrev behind : List ℕ → List ℕ
  behind l = front (bytes 2 n ++ ((0 ∷ 0 ∷ []) ++ l))

  module _ (hs : length salt ≡ Nn) where
    pub write-salt : (x : List ℕ) → length x ≡ Nn → pasted (row_with m s f k p n salt key name) salt_at x ≡ row_with m s f k p n x key name
    write-salt x hx =
        past-zeros salt_at 0 x (salt ++ (padded key_room key ++ padded name_most name)) refl ∙ ap behind (over salt (padded key_room key ++ padded name_most name) x (hs ∙ sym hx))

    past-salt : (j i : ℕ) (x l : List ℕ) → j ≡ key_at + i → pasted (behind (salt ++ l)) j x ≡ behind (salt ++ pasted l i x)
    past-salt j i x l e = past-zeros j (Nn + i) x (salt ++ l) (omega arith) ∙ ap behind (past salt l x i (Nn + i) (omega arith))

    pub write-name : (x : List ℕ) → length key ≤ key_room → length x ≤ name_most → pasted (row_with m s f k p n salt key []) name_at x ≡ row_with m s f k p n salt key x
    write-name x hk hx =
        let c = padded-length key_room key hk in
        past-salt name_at key_room x (padded key_room key ++ padded name_most []) refl
        ∙ ap (λ (t : List ℕ). behind (salt ++ t))
        (past (padded key_room key) (padded name_most []) x 0 key_room (omega arith)
        ∙ ap (λ (t : List ℕ). padded key_room key ++ t) (ap (λ (t : List ℕ). pasted t 0 x) (sym (append-nil (padded name_most []))) ∙ over_zeros name_most x [] hx ∙ append-nil (padded name_most x)))

    pub write-key : (x : List ℕ) → length x ≤ key_room → pasted (row_with m s f k p n salt [] name) key_at x ≡ row_with m s f k p n salt x name
    write-key x hx =
        past-salt key_at 0 x (padded key_room [] ++ padded name_most name) refl ∙ ap (λ (t : List ℕ). behind (salt ++ t)) (over_zeros key_room x (padded name_most name) hx)

    -- salt and key become zeros
    pub wipe : length key ≤ key_room → pasted (row_with m s f k p n salt key name) salt_at (replicate (Nn + key_room) 0) ≡ row_with m s f k p n (replicate Nn 0) [] name
    wipe hk =
        let c = padded-length key_room key hk in
        let d = length-append salt (padded key_room key) in
        past-zeros salt_at 0 (replicate (Nn + key_room) 0) (salt ++ (padded key_room key ++ padded name_most name)) refl
        ∙ ap behind
        (ap (λ (t : List ℕ). pasted t 0 (replicate (Nn + key_room) 0)) (sym (append_assoc salt (padded key_room key) (padded name_most name)))
        ∙ over (salt ++ padded key_room key) (padded name_most name) (replicate (Nn + key_room) 0) (rw length-replicate (omega arith)))

-- zeros in a room of zeros are the room
pub padded-zeros : (n m : ℕ) → m ≤ n → padded n (replicate m 0) ≡ padded n []
padded-zeros n m h =
    ap (λ (k : ℕ). replicate m 0 ++ replicate (n - k) 0) (length-replicate m 0)
    ∙ replicate-append-replicate m (n - m) 0
    ∙ ap (λ (k : ℕ). replicate k 0) all
  where
    all : m + (n - m) ≡ n - 0
    all = omega arith

-- SPDX-License-Identifier: MIT
-- Records inserted and taken out, in bytes, over plain variables. Assumes nothing.
use mathlib.Core.Path.{◌≡◌, refl, sym, ◌∙◌, ap, ap₂}
use mathlib.Core.List.{List, [], ◌∷◌, ◌++◌, append_assoc, append-nil}
use Prim.Native.Nat.{ℕ, zero, suc, ◌+◌, ◌*◌, ◌-◌, ◌<◌, ◌≤◌}
use native.Mathlib.Omega.{arith}
use lib.ListN.{length, take, drop, length-append, length-take, length-drop, take-append-drop, drop_of_length-le}
use lib.Seq.{take_at, drop_at, drop-drop, take-append-add, length-take-le}
use borrow.Rule.Slice.PartMut.{put_mid}
use Rattle.octets.proofs.Laws.{part-rest}
use Rattle.key_record.specs.Layout.{record_size, encode}
use Rattle.key_record.specs.Record.{KeyRecord, empty}
use Rattle.key_record.proofs.Codec.{encode-length}
use Rattle.store.specs.Store.{encode_all}
use Rattle.store.specs.Inner.Places.{closed}
use Rattle.store.proofs.Stores.{AllFit, Stored, stored-length, past_one}

-- ---- parts of a table, in bytes

pub encode-append : (xs ys : List KeyRecord) → encode_all (xs ++ ys) ≡ encode_all xs ++ encode_all ys
unfolding encode_all
encode-append [] ys = refl
encode-append (x ∷ xs) ys = ap (λ (t : List ℕ). encode x ++ t) (encode-append xs ys) ∙ sym (append_assoc (encode x) (encode_all xs) (encode_all ys))

encode-drop : (n : ℕ) (rs : List KeyRecord) → AllFit rs → encode_all (drop n rs) ≡ drop (n * record_size) (encode_all rs)
unfolding encode_all
encode-drop zero rs f = refl
encode-drop (suc n) [] f = sym (drop_of_length-le [] {i = suc n * record_size} (omega arith))
encode-drop (suc n) (x ∷ xs) f = encode-drop n xs f.1 ∙ sym (past_one x xs n f.0)

encode-take : (n : ℕ) (rs : List KeyRecord) → AllFit rs → encode_all (take n rs) ≡ take (n * record_size) (encode_all rs)
unfolding encode_all
encode-take zero rs f = refl
encode-take (suc n) [] f = sym (taken_none (suc n * record_size))
  where
    taken_none : (k : ℕ) → take {A = ℕ} k [] ≡ []
    taken_none zero = refl
    taken_none (suc k) = refl
encode-take (suc n) (x ∷ xs) f =
    let up : suc n * record_size ≡ record_size + n * record_size = omega arith in
    ap (λ (t : List ℕ). encode x ++ t) (encode-take n xs f.1)
    ∙ sym (ap (λ (k : ℕ). take k (encode x ++ encode_all xs)) (up ∙ ap (λ (k : ℕ). k + n * record_size) (sym (encode-length x f.0))) ∙ take-append-add (encode x) (encode_all xs) (n * record_size))

-- ---- a part of the bytes written anew

mid : (a b w q : List ℕ) (at n : ℕ) → length a ≡ at → length b ≡ n → put_mid at n (a ++ (b ++ w)) q ≡ a ++ (q ++ w)
mid a b w q at n e f =
    ap₂ (λ (x y : List ℕ). x ++ (q ++ drop n y)) (take_at a (b ++ w) at e) (drop_at a (b ++ w) at e) ∙ ap (λ (y : List ℕ). a ++ (q ++ y)) (drop_at b w n f)

-- the last part
pub mid-last : (s q : List ℕ) (at : ℕ) → at ≤ length s → put_mid at (length s - at) s q ≡ take at s ++ q
mid-last s q at h =
    ap (λ (y : List ℕ). take at s ++ (q ++ y)) (drop_of_length-le (drop at s) {i = length s - at} (simp length-drop (omega arith)))
    ∙ ap (λ (y : List ℕ). take at s ++ y) (append-nil q)

-- ---- the gap that opens, and what is written into it

module _ (s x : List ℕ) (at end : ℕ) (inside : at + record_size ≤ length s) (next : end ≡ at + record_size)
    (moved : x ≡ take record_size (take (length s - at) (drop at s)) ++ take (length (take (length s - at) (drop at s)) - record_size) (take (length s - at) (drop at s))) where
  abbrev low : List ℕ
  low = take at s

  abbrev high : List ℕ
  high = take (length s - at - record_size) (drop at s)

  abbrev gap : List ℕ
  gap = take record_size (drop at s)

  low-length : length low ≡ at
  low-length = length-take-le at s (omega arith)

  gap_length : length gap ≡ record_size
  gap_length = simp (length-take, length-drop) (omega arith)

  width : end - at ≡ record_size
  width = omega arith

  opened : put_mid at (length s - at) s x ≡ low ++ (gap ++ high)
  opened =
      mid-last s x at (omega arith)
      ∙ ap (λ (t : List ℕ). low ++ t) (moved ∙ ap (λ (t : List ℕ). take record_size t ++ take (length t - record_size) t) (part-rest at s) ∙ ap (λ (k : ℕ). gap ++ take (k - record_size) (drop at s)) (length-drop at s))

  pub opened-length : length (put_mid at (length s - at) s x) ≡ length s
  opened-length = ap length opened ∙ simp (length-append, length-take, length-drop) (omega arith)

  module _ (y : List ℕ) (one : length y ≡ record_size) where
    cleared : put_mid at (end - at) (put_mid at (length s - at) s x) y ≡ low ++ (y ++ high)
    cleared = ap₂ (λ (t : List ℕ) (k : ℕ). put_mid at k t y) opened width ∙ mid low gap high y at record_size low-length gap_length

    pub cleared-length : length (put_mid at (end - at) (put_mid at (length s - at) s x) y) ≡ length s
    cleared-length = ap length cleared ∙ simp (length-append, length-take, length-drop) (omega arith)

    pub gap_is : take (end - at) (drop at (put_mid at (end - at) (put_mid at (length s - at) s x) y)) ≡ y
    gap_is =
        ap₂ (λ (k : ℕ) (t : List ℕ). take k (drop at t)) width cleared
        ∙ ap (take record_size) (drop_at low (y ++ high) at low-length)
        ∙ take_at y high record_size one

    pub gap-filled : (z : List ℕ) → put_mid at (end - at) (put_mid at (end - at) (put_mid at (length s - at) s x) y) z ≡ low ++ (z ++ high)
    gap-filled z = ap₂ (λ (t : List ℕ) (k : ℕ). put_mid at k t z) cleared width ∙ mid low y high z at record_size low-length one

-- a record inserted, in bytes
pub inserted : (s : List ℕ) (rs : List KeyRecord) → Stored s rs → (i : ℕ) (r : KeyRecord) → i < length rs
    → encode_all (take i rs ++ (r ∷ take (length rs - suc i) (drop i rs))) ≡ take (i * record_size) s ++ (encode r ++ take (length s - i * record_size - record_size) (drop (i * record_size) s))
unfolding encode_all
inserted s rs st i r h =
    let f = st.table.fit in
    let n = stored-length s rs st in
    let rest : (length rs - suc i) * record_size ≡ length s - i * record_size - record_size = omega arith in
    encode-append (take i rs) (r ∷ take (length rs - suc i) (drop i rs))
    ∙ ap₂ (λ (a b : List ℕ). a ++ (encode r ++ b)) (encode-take i rs f) (encode-take (length rs - suc i) (drop i rs) (drop-fit i rs f) ∙ ap₂ take rest (encode-drop i rs f))
    ∙ ap (λ (t : List ℕ). take (i * record_size) t ++ (encode r ++ take (length s - i * record_size - record_size) (drop (i * record_size) t))) st.bytes-are
  where
    drop-fit : (k : ℕ) (l : List KeyRecord) → AllFit l → AllFit (drop k l)
    drop-fit zero l a = a
    drop-fit (suc k) [] a = tt
    drop-fit (suc k) (x ∷ xs) a = drop-fit k xs a.1

-- ---- the gap that closes

module _ (s x : List ℕ) (at : ℕ) (inside : at + record_size ≤ length s)
    (moved : x ≡ drop record_size (take (length s - at) (drop at s)) ++ drop (length (take (length s - at) (drop at s)) - record_size) (take (length s - at) (drop at s))) where
  abbrev kept-bytes : List ℕ
  kept-bytes = take at s ++ drop record_size (drop at s)

  abbrev over : List ℕ
  over = drop (length s - at - record_size) (drop at s)

  kept-length : length kept-bytes ≡ length s - record_size
  kept-length = simp (length-append, length-take, length-drop) (omega arith)

  over-length : length over ≡ record_size
  over-length = simp length-drop (omega arith)

  moved_down : put_mid at (length s - at) s x ≡ kept-bytes ++ (over ++ [])
  moved_down =
      mid-last s x at (omega arith)
      ∙ ap (λ (t : List ℕ). take at s ++ t) (moved ∙ ap (λ (t : List ℕ). drop record_size t ++ drop (length t - record_size) t) (part-rest at s) ∙ ap (λ (k : ℕ). drop record_size (drop at s) ++ drop (k - record_size) (drop at s)) (length-drop at s))
      ∙ sym (append_assoc (take at s) (drop record_size (drop at s)) over)
      ∙ ap (λ (t : List ℕ). kept-bytes ++ t) (sym (append-nil over))

  pub moved_length : length (put_mid at (length s - at) s x) ≡ length s
  moved_length = ap length moved_down ∙ simp (length-append, length-take, length-drop) (omega arith)

  pub gap-closed : (y : List ℕ) (last n : ℕ) → last ≡ length s - record_size → n ≡ record_size → put_mid last n (put_mid at (length s - at) s x) y ≡ kept-bytes ++ (y ++ [])
  gap-closed y last n l e = ap₂ (λ (t : List ℕ) (k : ℕ). put_mid last k t y) moved_down e ∙ mid kept-bytes over [] y last record_size (kept-length ∙ sym l) over-length

-- a record taken out, in bytes
pub taken_out : (s : List ℕ) (rs : List KeyRecord) → Stored s rs → (i : ℕ) → i < length rs
    → encode_all (closed i rs) ≡ (take (i * record_size) s ++ drop record_size (drop (i * record_size) s)) ++ (encode empty ++ [])
unfolding encode_all closed
taken_out s rs st i h =
    let f = st.table.fit in
    let up : suc i * record_size ≡ i * record_size + record_size = omega arith in
    encode-append (take i rs) (drop (suc i) rs ++ (empty ∷ []))
    ∙ ap₂ (λ (a b : List ℕ). a ++ b) (encode-take i rs f) (encode-append (drop (suc i) rs) (empty ∷ []) ∙ ap (λ (b : List ℕ). b ++ (encode empty ++ [])) (encode-drop (suc i) rs f))
    ∙ ap (λ (t : List ℕ). take (i * record_size) t ++ (drop (suc i * record_size) t ++ (encode empty ++ []))) st.bytes-are
    ∙ ap (λ (t : List ℕ). take (i * record_size) s ++ (t ++ (encode empty ++ []))) (ap (λ (k : ℕ). drop k s) up ∙ sym (drop-drop record_size (i * record_size) s))
    ∙ sym (append_assoc (take (i * record_size) s) (drop record_size (drop (i * record_size) s)) (encode empty ++ []))

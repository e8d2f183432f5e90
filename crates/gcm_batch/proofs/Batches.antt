-- SPDX-License-Identifier: MIT
-- Laws of the key stream, batch by batch.
-- Assumes nothing.
use mathlib.Core.Path.{◌≡◌, refl, ap, ap₂, sym, ◌∙◌}
use mathlib.Core.List.{List, [], ◌++◌, append-nil, append_assoc}
use Prim.Native.Nat.{ℕ, zero, suc, ◌+◌, ◌*◌, ◌-◌, ◌/◌, ◌%◌, ◌^◌, ◌≤◌, ◌<◌, min}
use mathlib.Core.Logic.{◌⊎◌, inl, inr}
use native.Mathlib.Nat.{zero-add}
use native.Mathlib.Omega.{arith}
use borrow.Rule.Slice.PartMut.{put_mid}
use lib.ListN.{length, take, drop, length-drop, drop_of_length-le, take-append-drop}
use lib.Seq.{drop_at, take_at, take-add, take_all, drop-drop, length-take-le}
use Rattle.octets.specs.Octets.{bytes, xors}
use Rattle.octets.proofs.Laws.{xors-length, part-rest}
use Rattle.aes.specs.Aes.{encrypt, blocks}
use Rattle.bitslice.proofs.Turns.{le-or-lt}
use Rattle.aes_batch.specs.Inner.Batch.{Blocks, counters_of, front_of}
use Rattle.gcm.specs.Counter.{counter_block, key_stream, ctr, ctr_from}
use Rattle.gcm.specs.Inner.Limits.{max_bytes}
use Rattle.gcm.proofs.Streams.{xors-append, stream-length, stream-add, ctr-stream, ctr-nil, ctr-enough, stream-behind, enough-zero, cut, from-length}

pub part_length : (l : List ℕ) (i e : ℕ) → i ≤ e → e ≤ length l → length (take (e - i) (drop i l)) ≡ e - i
part_length l i e h k = length-take-le (e - i) (drop i l) (simp length-drop (omega arith))

-- Blocks of a batch that are encrypted counter blocks are key stream.
pub stream-part : (key nonce : List ℕ) (f : ℕ → List ℕ) (s : List ℕ) (count k : ℕ) → Blocks key f s
    → (n : ℕ) → k + n ≤ 16 → ((m : ℕ) → m < n → f (k + m) ≡ counter_block nonce (count + m)) → take (16 * n) (drop (16 * k) s) ≡ key_stream key nonce count n
unfolding key_stream
stream-part key nonce f s count k b zero h g = refl
stream-part key nonce f s count k b (suc n) h g =
    let e : 16 * suc n ≡ 16 * n + 16 = omega arith in
    let d : 16 * k + 16 * n ≡ 16 * (k + n) = omega arith in
    rw (e, take-add (16 * n) 16 (drop (16 * k) s), drop-drop (16 * n) (16 * k) s, d, b.each (k + n) (omega arith), g n (omega arith))
    (ap (λ (x : List ℕ). x ++ encrypt key (counter_block nonce (count + n))) (stream-part key nonce f s count k b n (omega arith) (λ m l. g m (omega arith))))

-- The data of a front.
pub front_rest : (key nonce s : List ℕ) → Blocks key (front_of nonce 0) s → drop 32 s ≡ key_stream key nonce 2 14
unfolding counter_block
front_rest key nonce s b =
    sym (take_all 224 (drop 32 s) (rw (length-drop 32 s) (omega (arith, b.sized))))
    ∙ stream-part key nonce (front_of nonce 0) s 2 2 b 14 (omega arith) (λ m h. numbered m)
  where
    numbered : (m : ℕ) → front_of nonce 0 (2 + m) ≡ nonce ++ bytes 4 (2 + m)
    numbered m = let e : 2 + m ≡ suc (1 + m) = omega arith in rw (e, zero-add (suc (1 + m)))

module _ (key nonce : List ℕ) where
  -- The batch of sixteen blocks that byte p of the key stream lies in, where its blocks from k on are those of the stream.
  pub batch-part : (f : ℕ → List ℕ) (s l : List ℕ) (k count at p : ℕ) → Blocks key f s
      → ((m : ℕ) → m < 16 - k → f (k + m) ≡ counter_block nonce (p / 256 * 16 + k + m)) → p ≡ 16 * count + at → 16 * k ≤ p % 256
      → length l ≤ 256 - p % 256 → xors l (take (256 - p % 256) (drop (p % 256) s)) ≡ ctr_from key nonce count at l
  batch-part f s l k count at p b g e d h =
      let c : ℕ = p / 256 * 16 + k in
      let i : ℕ = p % 256 - 16 * k in
      let n : ℕ = 16 - k in
      let w : 16 * k + i ≡ p % 256 = omega arith in
      let q : 16 * c + i ≡ 16 * count + at = omega arith in
      let r : drop (16 * k) s ≡ key_stream key nonce c n =
      sym (take_all (16 * n) (drop (16 * k) s) (rw (length-drop (16 * k) s) (omega (arith, b.sized))))
      ∙ stream-part key nonce f s c k b n (omega arith) g in
      ap (xors l) (take_all (256 - p % 256) (drop (p % 256) s) (rw (length-drop (p % 256) s) (omega (arith, b.sized))))
      ∙ ap (λ (j : ℕ). xors l (drop j s)) (sym w)
      ∙ ap (xors l) (sym (drop-drop i (16 * k) s))
      ∙ ap (λ (t : List ℕ). xors l (drop i t)) r
      ∙ ap (λ (j : ℕ). xors l (drop i (key_stream key nonce j n))) (sym (zero-add c))
      ∙ ap (xors l) (sym (stream-behind key nonce 0 c n i))
      ∙ ap (λ (j : ℕ). xors l (drop j (key_stream key nonce 0 (c + n)))) q
      ∙ enough-zero key nonce count at (c + n) l (omega arith)

  -- That of the stream, and that with the block of zeros in front.
  pub counters-part : (s l : List ℕ) (count at p : ℕ) → p ≡ 16 * count + at → Blocks key (counters_of nonce (p / 256 * 16)) s
      → length l ≤ 256 - p % 256 → xors l (take (256 - p % 256) (drop (p % 256) s)) ≡ ctr_from key nonce count at l
  unfolding counter_block
  counters-part s l count at p e b h =
      batch-part (counters_of nonce (p / 256 * 16)) s l 0 count at p b numbered e (omega arith) h
    where
      numbered : (m : ℕ) → m < 16 → counters_of nonce (p / 256 * 16) (0 + m) ≡ nonce ++ bytes 4 (p / 256 * 16 + 0 + m)
      numbered m k = let x : p / 256 * 16 + (0 + m) ≡ p / 256 * 16 + 0 + m = omega arith in ap (λ (i : ℕ). nonce ++ bytes 4 i) x

  pub front-part : (s l : List ℕ) (count at p : ℕ) → p ≡ 16 * count + at → Blocks key (front_of nonce (p / 256 * 16)) s → 16 ≤ p % 256
      → length l ≤ 256 - p % 256 → xors l (take (256 - p % 256) (drop (p % 256) s)) ≡ ctr_from key nonce count at l
  unfolding counter_block
  front-part s l count at p e b d h =
      batch-part (front_of nonce (p / 256 * 16)) s l 1 count at p b numbered e (omega arith) h
    where
      numbered : (m : ℕ) → m < 15 → front_of nonce (p / 256 * 16) (1 + m) ≡ nonce ++ bytes 4 (p / 256 * 16 + 1 + m)
      numbered m k =
          let x : 1 + m ≡ suc m = omega arith in
          let y : p / 256 * 16 + suc m ≡ p / 256 * 16 + 1 + m = omega arith in
          ap (front_of nonce (p / 256 * 16)) x ∙ ap (λ (i : ℕ). nonce ++ bytes 4 i) y

  -- The bytes from i to e more.
  pub step : (l z o r : List ℕ) (count at i e : ℕ) → i ≤ e → e ≤ length l
      → o ≡ ctr_from key nonce count at (take i l) ++ drop i z → r ≡ ctr_from key nonce count (at + i) (take (e - i) (drop i l))
      → put_mid i (e - i) o r ≡ ctr_from key nonce count at (take e l) ++ drop e z
  step l z o r count at i e h k f g =
      let x = ctr_from key nonce count at (take i l) in
      let n : length (take i l) ≡ i = length-take-le i l (omega arith) in
      let w : length x ≡ i = from-length key nonce count at (take i l) ∙ n in
      let u : take i o ≡ x = ap (take i) f ∙ take_at x (drop i z) i w in
      let v : drop i o ≡ drop i z = ap (drop i) f ∙ drop_at x (drop i z) i w in
      let s : i + (e - i) ≡ e = omega arith in
      let y : drop (e - i) (drop i z) ≡ drop e z = drop-drop (e - i) i z ∙ rw s in
      let t : ctr_from key nonce count at (take e l) ≡ x ++ r =
      ap (λ (j : ℕ). ctr_from key nonce count at (take j l)) (sym s)
      ∙ ap (ctr_from key nonce count at) (take-add i (e - i) l)
      ∙ cut key nonce count at (take i l) (take (e - i) (drop i l))
      ∙ ap (λ (j : ℕ). x ++ ctr_from key nonce count (at + j) (take (e - i) (drop i l))) n
      ∙ ap (λ (b : List ℕ). x ++ b) (sym g) in
      rw (u, v, y, t) (sym (append_assoc x r (drop e z)))

  pub done : (l z o : List ℕ) (count at i : ℕ) → length l ≤ i → length z ≡ length l
      → o ≡ ctr_from key nonce count at (take i l) ++ drop i z → o ≡ ctr_from key nonce count at l
  done l z o count at i h e f = f ∙ rw (take_all i l h, drop_of_length-le z {i = i} (omega arith)) (append-nil _)

-- The first bytes by a front, and the others behind it.
pub apply-front : (key nonce l f : List ℕ) (n : ℕ) → Blocks key (front_of nonce 0) f → n ≡ min (0 + 224) (length l)
    → xors (take n l) (drop 32 f) ++ ctr key nonce 16 (drop n l) ≡ ctr key nonce 2 l
apply-front key nonce l f n b e = by (le-or-lt 224 (length l))
  where
    by : (224 ≤ length l) ⊎ (length l < 224) → xors (take n l) (drop 32 f) ++ ctr key nonce 16 (drop n l) ≡ ctr key nonce 2 l
    by (inr h) =
        let g : n ≡ length l = omega arith in
        rw (front_rest key nonce f b, take_all n l (omega arith), drop_of_length-le l {i = n} (omega arith), ctr-nil key nonce 16)
        (append-nil _ ∙ ctr-enough key nonce l 2 14 (omega arith))
    by (inl h) =
        let g : n ≡ 224 = omega arith in
        let r : ℕ = blocks (length (drop n l)) in
        let w : length (drop n l) ≡ length l - n = length-drop n l in
        let m : length (take n l) ≡ length (key_stream key nonce 2 14) = length-take-le n l (omega arith) ∙ g ∙ sym (stream-length key nonce 2 14) in
        ap₂ (λ (x y : List ℕ). xors (take n l) x ++ y) (front_rest key nonce f b) (ctr-stream key nonce 16 (drop n l))
        ∙ sym (xors-append (take n l) (drop n l) (key_stream key nonce 2 14) (key_stream key nonce 16 r) m)
        ∙ ap₂ xors (take-append-drop n l) (sym (stream-add key nonce 2 14 r))
        ∙ ctr-enough key nonce l 2 (14 + r) (omega arith)

-- What is written behind a part p of a list.
behind : (p r w : List ℕ) (n : ℕ) → length p ≡ n → put_mid n (length (p ++ r) - n) (p ++ r) w ≡ p ++ w
behind p r w n e =
    let d : drop (length (p ++ r) - n) (drop n (p ++ r)) ≡ [] =
    drop_of_length-le (drop n (p ++ r)) {i = length (p ++ r) - n} (rw (length-drop n (p ++ r)) (omega arith)) in
    rw (take_at p r n e, d, append-nil w)

-- The two parts of the code: the first n bytes by the front f, the others behind it.
module _ (l f p : List ℕ) (n : ℕ) (e : n ≡ min (0 + 224) (length l)) (g : p ≡ xors (take (n - 0) l) (take (length f - 32) (drop 32 f))) where
  whole : n - 0 ≡ n
  whole = omega arith

  first-length : length p ≡ n
  first-length = ap length g ∙ xors-length (take (n - 0) l) _ ∙ ap (λ (i : ℕ). length (take i l)) whole ∙ length-take-le n l (omega arith)

  pub rest-length : (z : List ℕ) → length z ≡ length l
      → length (take (length (p ++ drop (n - 0) z) - n) (drop n (p ++ drop (n - 0) z))) ≡ length (take (length l - n) (drop n l))
  rest-length z h =
      ap length (part-rest n (p ++ drop (n - 0) z)) ∙ ap length (drop_at p (drop (n - 0) z) n first-length) ∙ length-drop (n - 0) z
      ∙ rw (whole, h) (sym (ap length (part-rest n l) ∙ length-drop n l))

  pub counts_behind : length l ≤ max_bytes → 16 + blocks (length (take (length l - n) (drop n l))) < 2 ^ 32
  counts_behind h =
      let d : length (take (length l - n) (drop n l)) ≡ length l - n = ap length (part-rest n l) ∙ length-drop n l in
      rw d (omega arith)

  pub front-applied : (key nonce w r : List ℕ) → Blocks key (front_of nonce 0) f → w ≡ ctr key nonce 16 (take (length l - n) (drop n l))
      → put_mid n (length (p ++ r) - n) (p ++ r) w ≡ ctr key nonce 2 l
  front-applied key nonce w r b h =
      let x : p ≡ xors (take n l) (drop 32 f) = g ∙ rw (whole, part-rest 32 f) in
      let y : w ≡ ctr key nonce 16 (drop n l) = h ∙ rw (part-rest n l) in
      behind p r w n first-length ∙ ap₂ (λ (u v : List ℕ). u ++ v) x y ∙ apply-front key nonce l f n b e

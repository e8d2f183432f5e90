-- SPDX-License-Identifier: MIT
-- Laws of counter mode from any byte on: however the bytes are cut, and batch by batch.
-- Assumes nothing.
use mathlib.Core.Path.{◌≡◌, refl, ap, ap₂, sym, ◌∙◌}
use mathlib.Core.List.{List, [], ◌++◌}
use mathlib.Core.Logic.{◌⊎◌, inl, inr}
use Prim.Native.Nat.{ℕ, ◌+◌, ◌*◌, ◌-◌, ◌%◌, ◌^◌, ◌≤◌, ◌<◌, min}
use native.Mathlib.Omega.{arith}
use borrow.Author.Tests.{lt-ltb, le-ltb}
use borrow.Rule.Slice.PartMut.{put_mid}
use lib.ListN.{length, take, drop, length-append, length-take, length-drop}
use lib.Seq.{length-take-le}
use Rattle.octets.specs.Octets.{xors}
use Rattle.octets.proofs.Laws.{part-rest}
use Rattle.bitslice.proofs.Turns.{le-or-lt}
use Rattle.aes_batch.specs.Inner.Batch.{Blocks, front_of}
use Rattle.gcm.specs.Counter.{ctr}
use Rattle.gcm.proofs.Streams as Streams
use Rattle.gcm_batch.proofs.Batches.{front-part, step, done}
use Rattle.piece_stream.specs.CounterFrom.{ctr_from}
use Rattle.piece_stream.specs.Inner.Fronts.{batch_at, in_front}

module _ (key nonce : List ℕ) where
  -- However cut.
  pub cut : (count at : ℕ) (x y : List ℕ) → ctr_from key nonce count at (x ++ y) ≡ ctr_from key nonce count at x ++ ctr_from key nonce count (at + length x) y
  cut = Streams.cut key nonce

  pub from_start : (count : ℕ) (l : List ℕ) → ctr_from key nonce count 0 l ≡ ctr key nonce count l
  from_start = Streams.from_start key nonce

  pub from-length : (count at : ℕ) (l : List ℕ) → length (ctr_from key nonce count at l) ≡ length l
  from-length = Streams.from-length key nonce

  pub from-none : (count at : ℕ) → ctr_from key nonce count at [] ≡ []
  from-none = Streams.from-none key nonce

  -- As many bytes as a front has key stream for.
  pub by_front : (s l : List ℕ) (count at n : ℕ) → Blocks key (front_of nonce (batch_at count at)) s → n ≡ in_front ((16 * count + at) % 256) (length l)
      → xors (take n l) (take (256 - (16 * count + at) % 256) (drop ((16 * count + at) % 256) s)) ≡ ctr_from key nonce count at (take n l)
  unfolding xors
  by_front s l count at n b e = by (le-or-lt 16 ((16 * count + at) % 256))
    where
      i : ℕ
      i = (16 * count + at) % 256

      by : (16 ≤ i) ⊎ (i < 16) → xors (take n l) (take (256 - i) (drop i s)) ≡ ctr_from key nonce count at (take n l)
      by (inl h) =
          let q : n ≡ min (256 - i) (length l) = e ∙ rw (le-ltb i 16 h) in
          front-part key nonce s (take n l) count at (16 * count + at) refl b h (omega (arith, q, length-take n l))
      by (inr h) =
          let q : n ≡ 0 = e ∙ rw (lt-ltb i 16 h) in
          rw q (sym (from-none count at))

  -- The first n bytes by a front, and the others behind it.
  module _ (s l z p : List ℕ) (count at n : ℕ) (b : Blocks key (front_of nonce (batch_at count at)) s) (e : n ≡ in_front ((16 * count + at) % 256) (length l)) (h : n ≤ length l) (d : length z ≡ length l) (g : p ≡ xors (take (n - 0) l) (take (256 - (16 * count + at) % 256) (drop ((16 * count + at) % 256) s))) where
    whole : n - 0 ≡ n
    whole = omega arith

    first_part : p ≡ ctr_from key nonce count at (take n l)
    first_part = g ∙ rw whole (by_front s l count at n b e)

    joined_length : length (p ++ drop (n - 0) z) ≡ length l
    joined_length =
        length-append p (drop (n - 0) z)
        ∙ rw (first_part, from-length count at (take n l), length-take-le n l h, whole, length-drop n z, d) (omega arith)

    pub rest-length : length (take (length (p ++ drop (n - 0) z) - n) (drop n (p ++ drop (n - 0) z))) ≡ length (take (length l - n) (drop n l))
    rest-length =
        ap length (part-rest n (p ++ drop (n - 0) z)) ∙ length-drop n (p ++ drop (n - 0) z) ∙ ap (λ (i : ℕ). i - n) joined_length
        ∙ sym (ap length (part-rest n l) ∙ length-drop n l)

    pub rest-counts : 16 * count + (at + length l) < 2 ^ 32 → 16 * count + (at + n + length (take (length l - n) (drop n l))) < 2 ^ 32
    rest-counts k = rw (part-rest n l, length-drop n l) (omega arith)

    pub front-applied : (w : List ℕ) → w ≡ ctr_from key nonce count (at + n) (take (length l - n) (drop n l))
        → put_mid n (length (p ++ drop (n - 0) z) - n) (p ++ drop (n - 0) z) w ≡ ctr_from key nonce count at l
    front-applied w k =
        let o = p ++ drop (n - 0) z in
        let f : o ≡ ctr_from key nonce count at (take n l) ++ drop n z = ap₂ (λ (x : List ℕ) (i : ℕ). x ++ drop i z) first_part whole in
        done key nonce l z (put_mid n (length o - n) o w) count at (length l) (omega arith) d
        (ap (λ (i : ℕ). put_mid n (i - n) o w) joined_length ∙ step key nonce l z o w count at n (length l) h (omega arith) f k)

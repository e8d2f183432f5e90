-- SPDX-License-Identifier: MIT
-- Running hashes in bytes: read back, fed twice, ended. Assumes nothing.
use mathlib.Core.Path.{◌≡◌, refl, sym, ◌∙◌, ap, ap₂}
use mathlib.Core.List.{List, [], ◌∷◌, ◌++◌, append_assoc}
use Prim.Native.Nat.{ℕ, zero, suc, ◌+◌, ◌*◌, ◌/◌, ◌%◌, ◌-◌, ◌^◌, ◌<◌, ◌≤◌}
use native.Mathlib.Nat.{zero-add, mod-eq_of_lt, mod-lt, zero-mul, one-mul, div-le_self, lt_of_le_of_lt}
use borrow.Author.Tests.{ltb-true}
use native.Mathlib.Omega.{arith}
use lib.Bits.{xor_lt}
use lib.ListN.{length, get_or, take, drop, replicate, length-append, length-replicate, take-append-drop}
use lib.Seq.{take_at, drop_at, take_all, take-take, take-append-le, drop-append-add, drop-drop, length-take-le, get_or-drop}
use Rattle.octets.specs.Octets.{number, bytes}
use Rattle.octets.proofs.Laws.{number_append, number-bytes, bytes-length}
use Rattle.sha2_common.specs.Sha2.{adds, compress, chain, run, words, joined, hash}
use Rattle.sha2_common.specs.Sizes.{sha256, initial256}
use Rattle.sha2_common.specs.Running.{State, left, room_of, waits, fresh, fed, finished}
use Rattle.sha2_common.proofs.Laws.{run-append, run-whole, whole, whole_length, waits-fed, left-length, chain_length, joined_length, words-of-256, fed-none, fed-more, fed-end}
use Rattle.ghash.specs.Ghash.{R, halve, sum, product, absorb_blocks, absorb}
use Rattle.piece_hash.specs.Held.{room_in, held, kept, fed_hash, digest_of, kept_block, absorb_whole, left_over, fed_blocks, blocks_of}
use Rattle.piece_hash.proofs.Blocks as Blocks

-- ---- SHA-256: words

-- eight words below 2^32
abbrev pub Words : List ℕ → Type 0
Words [] = Unit {0}
Words (x ∷ v) = (x < 2 ^ 32) × Words v

adds-words : (h v : List ℕ) → Words (adds sha256 h v)
adds-words [] v = tt
adds-words (x ∷ h) v = (mod-lt (x + get_or v 0 0) (omega arith), adds-words h (drop 1 v))

compress-words : (h b : List ℕ) → Words (compress sha256 h b)
unfolding compress
compress-words h b = adds-words h _

chain-words : (n : ℕ) (h m : List ℕ) → Words h → Words (chain sha256 n h m)
unfolding chain
chain-words zero h m w = w
chain-words (suc n) h m w = chain-words n (compress sha256 h (take 64 m)) (drop 64 m) (compress-words h (take 64 m))

pub run-words : (h m : List ℕ) → Words h → Words (run sha256 h m)
unfolding run
run-words h m w = chain-words (length m / 64) h m w

pub run_length : (h m : List ℕ) → length (run sha256 h m) ≡ length h
unfolding run
run_length h m = chain_length sha256 (length m / 64) h m

pub initial-words : Words sha256.initial
unfolding initial256
initial-words = (omega arith, (omega arith, (omega arith, (omega arith, (omega arith, (omega arith, (omega arith, (omega arith, tt))))))))

-- word k of a value, read from its bytes
module _ (z : List ℕ) where
  word_at : (v : List ℕ) (k : ℕ) → k < length v → Words v → number 4 (drop (4 * k) (joined sha256 v ++ z)) ≡ get_or v k 0
  unfolding joined
  word_at [] k h w = absurd (omega arith)
  word_at (x ∷ v) zero h w =
      ap (number 4) (append_assoc (bytes 4 x) (joined sha256 v) z)
      ∙ number_append 4 (bytes 4 x) (joined sha256 v ++ z) (rw (bytes-length 4 x) (omega arith)) ∙ number-bytes 4 x ∙ mod-eq_of_lt w.0
  word_at (x ∷ v) (suc k) h w =
      let b : 4 * suc k ≡ length (bytes 4 x) + 4 * k = rw (bytes-length 4 x) (omega arith) in
      ap (λ (l : List ℕ). number 4 (drop (4 * suc k) l)) (append_assoc (bytes 4 x) (joined sha256 v) z)
      ∙ ap (λ (i : ℕ). number 4 (drop i (bytes 4 x ++ (joined sha256 v ++ z)))) b
      ∙ ap (number 4) (drop-append-add (bytes 4 x) (joined sha256 v ++ z) (4 * k))
      ∙ word_at v k (omega (arith, h)) w.1

  words-taken : (v : List ℕ) (n : ℕ) → n ≤ length v → Words v → words sha256 n (joined sha256 v ++ z) ≡ take n v
  unfolding words
  words-taken v zero h w = refl
  words-taken v (suc n) h w =
      ap₂ (λ (a : List ℕ) (x : ℕ). a ++ (x ∷ [])) (words-taken v n (omega arith) w) (word_at v n h w) ∙ sym (lib.Seq.take-suc v n 0 h)

-- a running hash is what its bytes hold
pub held_kept : (h : State) (n : ℕ) → length h.value ≡ 8 → Words h.value → length h.room ≡ 64 → n ≡ h.len → held n (kept h) ≡ h
unfolding kept
held_kept h n l w r e =
    let j : length (joined sha256 h.value) ≡ 32 = joined_length sha256 h.value ∙ rw l in
    let a : words sha256 8 (joined sha256 h.value ++ h.room) ≡ h.value = words-taken h.room h.value 8 (omega arith) w ∙ take_all 8 h.value (omega arith) in
    let b : room_in (joined sha256 h.value ++ h.room) ≡ h.room =
    ap (take 64) (drop_at (joined sha256 h.value) h.room 32 j) ∙ take_all 64 h.room (omega arith) in
    rw (a, b, e)

-- ---- SHA-256: fed twice, and ended

B : 0 < 64
B = omega arith

left-append : (a z : List ℕ) (k : ℕ) → length a ≡ k * 64 → left sha256 (a ++ z) ≡ left sha256 z
unfolding left
left-append a z k e =
    let q : length (a ++ z) / 64 * 64 ≡ length a + length z / 64 * 64 = rw (length-append a z) (omega arith) in
    ap (λ (i : ℕ). drop i (a ++ z)) q ∙ drop-append-add a z (length z / 64 * 64)

module _ (w x y : List ℕ) where
  abbrev front-blocks : List ℕ
  front-blocks = take (length (w ++ x) / 64 * 64) (w ++ x)

  again : front-blocks ++ (left sha256 (w ++ x) ++ y) ≡ w ++ (x ++ y)
  again = sym (append_assoc front-blocks (left sha256 (w ++ x)) y) ∙ ap (λ (l : List ℕ). l ++ y) (whole sha256 B (w ++ x)) ∙ append_assoc w x y

  run-cut : (h : List ℕ) → run sha256 (run sha256 h (w ++ x)) (left sha256 (w ++ x) ++ y) ≡ run sha256 h (w ++ (x ++ y))
  run-cut h =
      ap (λ (g : List ℕ). run sha256 g (left sha256 (w ++ x) ++ y)) (sym (run-whole sha256 B h (w ++ x)))
      ∙ sym (run-append sha256 B (length (w ++ x) / 64) h front-blocks (left sha256 (w ++ x) ++ y) (whole_length sha256 B (w ++ x)))
      ∙ ap (run sha256 h) again

  left_cut : left sha256 (left sha256 (w ++ x) ++ y) ≡ left sha256 (w ++ (x ++ y))
  left_cut =
      sym (left-append front-blocks (left sha256 (w ++ x) ++ y) (length (w ++ x) / 64) (whole_length sha256 B (w ++ x))) ∙ ap (left sha256) again

-- fed x and then y is fed both
pub fed-join : (h : State) (x y : List ℕ) → length h.room ≡ 64 → fed sha256 (fed sha256 h x) y ≡ fed sha256 h (x ++ y)
fed-join h x y l =
    let w : waits sha256 (fed sha256 h x) ≡ left sha256 (waits sha256 h ++ x) = waits-fed sha256 B h x l in
    let n : h.len + length x + length y ≡ h.len + length (x ++ y) = rw (length-append x y) (omega arith) in
    state (ap (λ (v : List ℕ). run sha256 (run sha256 h.value (waits sha256 h ++ x)) (v ++ y)) w ∙ run-cut (waits sha256 h) x y h.value)
    (ap (λ (v : List ℕ). room_of sha256 (left sha256 (v ++ y))) w ∙ ap (room_of sha256) (left_cut (waits sha256 h) x y)) n
  where
    state : {v w r s : List ℕ} {m n : ℕ} → v ≡ w → r ≡ s → m ≡ n
        → ◌≡◌ {A = State} (record { value = v; room = r; len = m }) (record { value = w; room = s; len = n })
    state e f g = rw (e, f, g)

room-length : (w : List ℕ) → length w ≤ 64 → length (room_of sha256 w) ≡ 64
unfolding room_of
room-length w h = length-append w (replicate (64 - length w) 0) ∙ rw (length-replicate {A = ℕ} (64 - length w) 0) (omega arith)

pub fed-room : (h : State) (x : List ℕ) → length (fed sha256 h x).room ≡ 64
fed-room h x = room-length (left sha256 (waits sha256 h ++ x)) (rw (left-length sha256 B (waits sha256 h ++ x)) (omega arith))

pub fresh-room : length (fresh sha256).room ≡ 64
fresh-room = room-length [] (omega arith)

-- The bytes that a hash of words is held in, fed once more.
pub fed-again : (h : State) (n : ℕ) (x y : List ℕ) → length h.value ≡ 8 → Words h.value → length h.room ≡ 64 → n ≡ h.len + length x
    → fed_hash n (kept (fed sha256 h x)) y ≡ kept (fed sha256 h (x ++ y))
unfolding fed_hash
fed-again h n x y l w r e =
    ap (λ (s : State). kept (fed sha256 s y))
    (held_kept (fed sha256 h x) n (run_length h.value (waits sha256 h ++ x) ∙ l) (run-words h.value (waits sha256 h ++ x) w) (fed-room h x) e)
    ∙ ap kept (fed-join h x y r)

-- The digest of a message fed to a new hash.
pub digest-again : (n : ℕ) (x : List ℕ) → n ≡ length x → digest_of n (kept (fed sha256 (fresh sha256) x)) ≡ hash sha256 x
unfolding digest_of
digest-again n x e =
    let h : State = fed sha256 (fresh sha256) x in
    ap (finished sha256)
    (held_kept h n (run_length sha256.initial _ ∙ words-of-256) (run-words sha256.initial _ initial-words) (fed-room (fresh sha256) x) (e ∙ sym (zero-add (length x))))
    ∙ fed-end sha256 B h (finished sha256 h) x refl (fed-more sha256 B (fresh sha256) h [] x fresh-room refl (fed-none sha256 B (fresh sha256) refl))

-- ---- GHASH: read back, fed twice, and ended

-- a value of GHASH is below 2^128
two_pos : 0 < 2
two_pos = omega arith

zero-lt : 0 < 2 ^ 128
zero-lt = ltb-true 0 (2 ^ 128) refl

not-two : (b : ℕ) → suc (suc b) < 2 → ⊥
not-two b h = omega arith

bit-times : (b v : ℕ) → b < 2 → v < 2 ^ 128 → b * v < 2 ^ 128
bit-times zero v k h = rw (zero-mul v) zero-lt
bit-times (suc zero) v k h = rw (one-mul v) h
bit-times (suc (suc b)) v k h = absurd (not-two b k)

halve-lt : (v : ℕ) → v < 2 ^ 128 → halve v < 2 ^ 128
unfolding halve
halve-lt v h = xor_lt 128 (v / 2) (v % 2 * R) (lt_of_le_of_lt (div-le_self v 2) h) (bit-times (v % 2) R (mod-lt v two_pos) (ltb-true R (2 ^ 128) refl))

sum_lt : (n x v : ℕ) → v < 2 ^ 128 → sum n x v < 2 ^ 128
unfolding sum
sum_lt zero x v h = zero-lt
sum_lt (suc n) x v h =
    xor_lt 128 (x / 2 ^ n % 2 * v) (sum n x (halve v)) (bit-times (x / 2 ^ n % 2) v (mod-lt (x / 2 ^ n) two_pos) h) (sum_lt n x (halve v) (halve-lt v h))

pub blocks-lt : (h y : ℕ) (l : List ℕ) (n : ℕ) → h < 2 ^ 128 → y < 2 ^ 128 → absorb_blocks h y l n < 2 ^ 128
unfolding absorb_blocks product
blocks-lt h y l zero p q = q
blocks-lt h y l (suc n) p q = sum_lt 128 _ h p

pub whole-lt : (h y : ℕ) (w : List ℕ) → h < 2 ^ 128 → y < 2 ^ 128 → absorb_whole h y w < 2 ^ 128
unfolding absorb_whole
whole-lt h y w p q = blocks-lt h y w (length w / 16) p q

module _ (h y : ℕ) (c : List ℕ) (p : h < 2 ^ 128) (q : y < 2 ^ 128) (n : ℕ) (e : n ≡ length c % 16) where
  abbrev now : List ℕ
  now = kept_block (absorb_whole h y c) (left_over c)

  value-back : number 16 now ≡ absorb_whole h y c
  unfolding kept_block
  value-back =
      number_append 16 (bytes 16 (absorb_whole h y c)) (replicate 16 0 ++ room_of sha256 (left_over c)) (rw (bytes-length 16 (absorb_whole h y c)) (omega arith))
      ∙ number-bytes 16 (absorb_whole h y c) ∙ mod-eq_of_lt (whole-lt h y c p q)

  waits_back : take n (room_in now) ≡ left_over c
  unfolding kept_block room_of
  waits_back =
      let v = bytes 16 (absorb_whole h y c) in
      let w = left_over c in
      let z : List ℕ = replicate 16 0 in
      let r = w ++ replicate (64 - length w) 0 in
      let l : length (v ++ z) ≡ 32 = length-append v z ∙ rw (bytes-length 16 (absorb_whole h y c)) in
      take-take n 64 (drop 32 (v ++ (z ++ r))) (omega arith)
      ∙ ap (λ (t : List ℕ). take n (drop 32 t)) (sym (append_assoc v z r))
      ∙ ap (take n) (drop_at (v ++ z) r 32 l)
      ∙ take_at w (replicate (64 - length w) 0) n (Blocks.left-length c ∙ sym e)

  front_of_lem : List ℕ
  front_of_lem = take (16 * (length c / 16)) c

  joins : take (16 * (length c / 16)) c ++ left_over c ≡ c
  unfolding left_over
  joins = take-append-drop (16 * (length c / 16)) c

  sized : length (take (16 * (length c / 16)) c) ≡ 16 * (length c / 16)
  sized = length-take-le (16 * (length c / 16)) c (omega arith)

  cut : (d : List ℕ) → c ++ d ≡ take (16 * (length c / 16)) c ++ (left_over c ++ d)
  cut d = ap (λ (t : List ℕ). t ++ d) (sym joins) ∙ append_assoc (take (16 * (length c / 16)) c) (left_over c) d

  -- The bytes that GHASH is held in, fed once more.
  pub fed-blocks-again : (d : List ℕ) → fed_blocks h n now d ≡ kept_block (absorb_whole h y (c ++ d)) (left_over (c ++ d))
  unfolding fed_blocks
  fed-blocks-again d =
      let w = left_over c in
      let a = take (16 * (length c / 16)) c in
      let m = length c / 16 in
      let f : absorb_whole h y (c ++ d) ≡ absorb_whole h (absorb_whole h y c) (w ++ d) =
      ap (absorb_whole h y) (cut d) ∙ Blocks.whole_append h y a (w ++ d) m sized ∙ ap (λ (v : ℕ). absorb_whole h v (w ++ d)) (Blocks.whole-front h y c m refl) in
      let g : left_over (c ++ d) ≡ left_over (w ++ d) = ap left_over (cut d) ∙ Blocks.left-append a (w ++ d) m sized in
      ap₂ (λ (v : ℕ) (t : List ℕ). kept_block (absorb_whole h v (t ++ d)) (left_over (t ++ d))) value-back waits_back
      ∙ ap₂ kept_block (sym f) (sym g)

  -- The value once all of c has been absorbed.
  pub blocks-again : blocks_of h n now ≡ absorb h y c
  unfolding blocks_of absorb
  blocks-again =
      let w = left_over c in
      let a = take (16 * (length c / 16)) c in
      let m = length c / 16 in
      let k : (length c + 15) / 16 ≡ m + (length w + 15) / 16 = rw (Blocks.left-length c) (omega arith) in
      ap₂ (λ (v : ℕ) (t : List ℕ). absorb h v t) value-back waits_back
      ∙ ap (λ (v : ℕ). absorb_blocks h v w ((length w + 15) / 16)) (sym (Blocks.whole-front h y c m refl))
      ∙ sym (Blocks.blocks-append h y a w m ((length w + 15) / 16) sized)
      ∙ ap₂ (λ (t : List ℕ) (i : ℕ). absorb_blocks h y t i) joins (sym k)

-- ---- sizes

pub kept-length : (h : State) → length h.value ≡ 8 → length h.room ≡ 64 → length (kept h) ≡ 96
unfolding kept
kept-length h l r = length-append (joined sha256 h.value) h.room ∙ rw (joined_length sha256 h.value, l, r)

pub fed-fresh-length : (x : List ℕ) → length (kept (fed sha256 (fresh sha256) x)) ≡ 96
fed-fresh-length x = kept-length (fed sha256 (fresh sha256) x) (run_length sha256.initial _ ∙ words-of-256) (fed-room (fresh sha256) x)

pub block-length : (y : ℕ) (c : List ℕ) → length (kept_block y (left_over c)) ≡ 96
unfolding kept_block
block-length y c =
    length-append (bytes 16 y) (replicate 16 0 ++ room_of sha256 (left_over c))
    ∙ rw (bytes-length 16 y, length-append (replicate {A = ℕ} 16 0) (room_of sha256 (left_over c)), room-length (left_over c) (rw (Blocks.left-length c) (omega arith)))

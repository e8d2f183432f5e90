-- SPDX-License-Identifier: MIT
-- Two pieces are as one, over every possible state, whatever its bytes. Assumes nothing.
use mathlib.Core.Path.{◌≡◌, refl, sym, ◌∙◌, ap, ap₂}
use mathlib.Core.List.{List, [], ◌∷◌, ◌++◌, append_assoc}
use Prim.Native.Nat.{ℕ, zero, suc, ◌+◌, ◌*◌, ◌%◌, ◌^◌, ◌<◌, ◌≤◌}
use native.Mathlib.Nat.{mod-eq_of_lt}
use native.Mathlib.Omega.{arith}
use lib.ListN.{length, take, drop, length-append, length-drop, take-append-drop}
use lib.Seq.{take_at, drop_at, take-append-le, drop-append-le, drop-drop, length-take-le}
use Rattle.octets.specs.Octets.{Octets, number, bytes, pasted}
use Rattle.octets.proofs.Laws.{number_append, number-bytes, number_lt, number-take, bytes-length, octets-drop, octets-take}
use Rattle.sha2_common.specs.Sha2.{words}
use Rattle.sha2_common.specs.Sizes.{sha256}
use Rattle.sha2_common.specs.Running.{fed}
use Rattle.gcm.specs.Gcm.{hash_key}
use Rattle.suites.specs.declared.sizes.Suite.{Suite}
use Rattle.suites.specs.declared.sizes.Mode.{Mode}
use Rattle.suites.specs.declared.sizes.Mode.TheVariants.{CtrHmac, Gcm}
use Rattle.suites.specs.Suites.{mode_of, Nk}
use Rattle.aead.specs.Aead.{cipher_key, first_count}
use Rattle.suites.proofs.Laws.{Nk-most}
use Rattle.piece_stream.specs.CounterFrom.{ctr_from}
use Rattle.piece_stream.proofs.Laws as Stream
use Rattle.piece_hash.specs.Held.{room_in, held, fed_hash, kept_block, absorb_whole, left_over, fed_blocks}
use Rattle.piece_hash.proofs.Joins.{Words, fed-again, fed-room, run_length, kept-length, block-length, fed-blocks-again}
use Rattle.piece_line.specs.State.{aad_in, taken_in, nonce_in, key_in, hash_in}
use Rattle.piece_line.specs.Line.{before, hash_more, after, cipher_piece}
use Rattle.piece_line.proofs.Lines.{hash-key-lt}
use Rattle.piece_line.proofs.Steps.{cipher-length}

-- ---- the running hash, of any bytes

words-length : (n : ℕ) (b : List ℕ) → length (words sha256 n b) ≡ n
unfolding words
words-length zero b = refl
words-length (suc n) b = length-append (words sha256 n b) _ ∙ rw (words-length n b) (omega arith)

words_append : (a : List ℕ) (x : ℕ) → Words a → x < 2 ^ 32 → Words (a ++ (x ∷ []))
words_append [] x w h = (h, tt)
words_append (y ∷ a) x w h = (w.0, words_append a x w.1 h)

words-fit : (n : ℕ) (b : List ℕ) → Octets b → Words (words sha256 n b)
unfolding words
words-fit zero b o = tt
words-fit (suc n) b o = words_append (words sha256 n b) _ (words-fit n b o) (number_lt 4 (drop (4 * n) b) (octets-drop (4 * n) b o))

module _ (b : List ℕ) (l : length b ≡ 96) (o : Octets b) where
  room-sized : length (room_in b) ≡ 64
  room-sized = length-take-le 64 (drop 32 b) (rw (length-drop 32 b) (omega arith))

  hash-join : (n : ℕ) (x y : List ℕ) → fed_hash (n + length x) (fed_hash n b x) y ≡ fed_hash n b (x ++ y)
  unfolding fed_hash
  hash-join n x y = fed-again (held n b) (n + length x) x y (words-length 8 b) (words-fit 8 b o) room-sized refl

  waits-sized : (n : ℕ) → n < 16 → length (take n (room_in b)) ≡ n
  waits-sized n h = length-take-le n (room_in b) (rw room-sized (omega arith))

  blocks-join : (h t : ℕ) (x y : List ℕ) → h < 2 ^ 128
      → fed_blocks h ((t + length x) % 16) (fed_blocks h (t % 16) b x) y ≡ fed_blocks h (t % 16) b (x ++ y)
  unfolding fed_blocks
  blocks-join h t x y p =
      let w = take (t % 16) (room_in b) in
      let v = number 16 b in
      fed-blocks-again h v (w ++ x) p (number_lt 16 b o) ((t + length x) % 16) (rw (length-append w x, waits-sized (t % 16) (small t)) (sums t (length x))) y
      ∙ ap₂ (λ (a c : List ℕ). kept_block (absorb_whole h v a) (left_over c)) (append_assoc w x y) (append_assoc w x y)
    where
      small : (t : ℕ) → t % 16 < 16
      small t = omega arith

      sums : (t k : ℕ) → (t + k) % 16 ≡ (t % 16 + k) % 16
      sums t k = omega arith

  more-join : (m : Mode) (key : List ℕ) (aad t : ℕ) (x y : List ℕ)
      → hash_more m key aad (t + length x) (hash_more m key aad t b x) y ≡ hash_more m key aad t b (x ++ y)
  more-join CtrHmac key aad t x y =
      let q : before aad + (t + length x) ≡ before aad + t + length x = omega arith in
      ap (λ (i : ℕ). fed_hash i (fed_hash (before aad + t) b x) y) q ∙ hash-join (before aad + t) x y
  more-join Gcm key aad t x y = blocks-join (hash_key key) t x y (hash-key-lt key)

more-length : (m : Mode) (key : List ℕ) (aad t : ℕ) (b x : List ℕ) → length (hash_more m key aad t b x) ≡ 96
unfolding fed_hash fed_blocks
more-length CtrHmac key aad t b x =
    kept-length (fed sha256 (held (before aad + t) b) x) (run_length (words sha256 8 b) _ ∙ words-length 8 b) (fed-room (held (before aad + t) b) x)
more-length Gcm key aad t b x = block-length _ (take (t % 16) (room_in b) ++ x)

-- ---- the state

module _ (suite : Suite) (s : List ℕ) (l : 168 ≤ length s) where
  abbrev P : List ℕ
  P = take 68 s

  abbrev H : List ℕ → List ℕ
  H x = hash_more (mode_of suite) (key_in suite s) (aad_in s) (taken_in s) (hash_in s) x

  P-length : length P ≡ 68
  P-length = length-take-le 68 s (omega arith)

  T-length : (x : List ℕ) → length (bytes 4 (taken_in s + length x)) ≡ 4
  T-length x = bytes-length 4 (taken_in s + length x)

  H-length : (x : List ℕ) → length (H x) ≡ 96
  H-length x = more-length (mode_of suite) (key_in suite s) (aad_in s) (taken_in s) (hash_in s) x

  part_length : (x : List ℕ) → length (bytes 4 (taken_in s + length x) ++ H x) ≡ 100
  part_length x = length-append (bytes 4 (taken_in s + length x)) (H x) ∙ rw (T-length x, H-length x)

  flat : (x : List ℕ) → after suite s x ≡ P ++ (bytes 4 (taken_in s + length x) ++ (H x ++ drop 168 s))
  unfolding after pasted
  flat x =
      ap (λ (i : ℕ). P ++ ((bytes 4 (taken_in s + length x) ++ H x) ++ drop (68 + i) s)) (part_length x)
      ∙ ap (λ (t : List ℕ). P ++ t) (append_assoc (bytes 4 (taken_in s + length x)) (H x) (drop 168 s))

  -- fields in front of the count stay
  stays : (x : List ℕ) (i n : ℕ) → i + n ≤ 68 → take n (drop i (after suite s x)) ≡ take n (drop i s)
  stays x i n h =
      let r = bytes 4 (taken_in s + length x) ++ (H x ++ drop 168 s) in
      ap (λ (t : List ℕ). take n (drop i t)) (flat x)
      ∙ ap (take n) (drop-append-le i P r (omega (arith, P-length)))
      ∙ take-append-le n (drop i P) r (rw (length-drop i P, P-length) (omega arith))
      ∙ sym (ap (λ (t : List ℕ). take n (drop i t)) (sym (take-append-drop 68 s))
      ∙ ap (take n) (drop-append-le i P (drop 68 s) (omega (arith, P-length)))
      ∙ take-append-le n (drop i P) (drop 68 s) (rw (length-drop i P, P-length) (omega arith)))

  d68 : (x : List ℕ) → drop 68 (after suite s x) ≡ bytes 4 (taken_in s + length x) ++ (H x ++ drop 168 s)
  d68 x = ap (drop 68) (flat x) ∙ drop_at P (bytes 4 (taken_in s + length x) ++ (H x ++ drop 168 s)) 68 P-length

  d72 : (x : List ℕ) → drop 72 (after suite s x) ≡ H x ++ drop 168 s
  d72 x = sym (drop-drop 4 68 (after suite s x)) ∙ ap (drop 4) (d68 x) ∙ drop_at (bytes 4 (taken_in s + length x)) (H x ++ drop 168 s) 4 (T-length x)

  hash-then : (x : List ℕ) → hash_in (after suite s x) ≡ H x
  hash-then x = ap (take 96) (d72 x) ∙ take_at (H x) (drop 168 s) 96 (H-length x)

  taken_then : (x : List ℕ) → taken_in s + length x ≤ 32768 → taken_in (after suite s x) ≡ taken_in s + length x
  taken_then x h =
      ap (number 4) (d68 x)
      ∙ number_append 4 (bytes 4 (taken_in s + length x)) (H x ++ drop 168 s) (omega (arith, T-length x))
      ∙ number-bytes 4 (taken_in s + length x) ∙ mod-eq_of_lt (omega arith)

  key-then : (x : List ℕ) → key_in suite (after suite s x) ≡ key_in suite s
  key-then x = stays x 20 (Nk suite) (omega (arith, Nk-most suite))

  nonce-then : (x : List ℕ) → nonce_in (after suite s x) ≡ nonce_in s
  nonce-then x = stays x 8 12 (omega arith)

  aad-then : (x : List ℕ) → aad_in (after suite s x) ≡ aad_in s
  aad-then x = sym (number-two (drop 2 (after suite s x))) ∙ ap (number 2) (stays x 2 2 (omega arith)) ∙ number-two (drop 2 s)
    where
      number-two : (t : List ℕ) → number 2 (take 2 t) ≡ number 2 t
      number-two t = number-take 2 2 t (omega arith)

  P-then : (x : List ℕ) → take 68 (after suite s x) ≡ P
  P-then x = stays x 0 68 (omega arith)

  d168 : (x : List ℕ) → drop 168 (after suite s x) ≡ drop 168 s
  d168 x = sym (drop-drop 96 72 (after suite s x)) ∙ ap (drop 96) (d72 x) ∙ drop_at (H x) (drop 168 s) 96 (H-length x)

-- Two pieces of ciphertext are taken as one.
pub pieces-join : (suite : Suite) (s x y : List ℕ) → 168 ≤ length s → Octets s → taken_in s + length x ≤ 32768
    → after suite (after suite s x) y ≡ after suite s (x ++ y)
pieces-join suite s x y l o h =
    let r = after suite s x in
    let lr : 168 ≤ length r = longer in
    let b : Octets (hash_in s) = octets-take 96 (drop 72 s) (octets-drop 72 s o) in
    let lb : length (hash_in s) ≡ 96 = length-take-le 96 (drop 72 s) (rw (length-drop 72 s) (omega arith)) in
    let e : taken_in r ≡ taken_in s + length x = taken_then suite s l x h in
    let n : taken_in r + length y ≡ taken_in s + length (x ++ y) = rw (length-append x y) (omega arith) in
    let k : hash_more (mode_of suite) (key_in suite r) (aad_in r) (taken_in r) (hash_in r) y ≡ hash_more (mode_of suite) (key_in suite s) (aad_in s) (taken_in s) (hash_in s) (x ++ y) =
    ap₂ (λ (a c : List ℕ). hash_more (mode_of suite) a (aad_in r) (taken_in r) c y) (key-then suite s l x) (hash-then suite s l x)
    ∙ ap₂ (λ (i j : ℕ). hash_more (mode_of suite) (key_in suite s) i j (H suite s l x) y) (aad-then suite s l x) e
    ∙ more-join (hash_in s) lb b (mode_of suite) (key_in suite s) (aad_in s) (taken_in s) x y in
    flat suite r lr y
    ∙ ap₂ (λ (a c : List ℕ). a ++ (bytes 4 (taken_in r + length y) ++ (hash_more (mode_of suite) (key_in suite r) (aad_in r) (taken_in r) (hash_in r) y ++ c))) (P-then suite s l x) (d168 suite s l x)
    ∙ ap₂ (λ (i : ℕ) (a : List ℕ). take 68 s ++ (bytes 4 i ++ (a ++ drop 168 s))) n k
    ∙ sym (flat suite s l (x ++ y))
  where
    longer : 168 ≤ length (after suite s x)
    longer =
        rw (
          ap length (flat suite s l x),
          length-append (take 68 s) (bytes 4 (taken_in s + length x) ++ (H suite s l x ++ drop 168 s)),
          P-length suite s l,
          length-append (bytes 4 (taken_in s + length x)) (H suite s l x ++ drop 168 s),
          T-length suite s l x,
          length-append (H suite s l x) (drop 168 s),
          H-length suite s l x,
        ) (omega arith)

-- Their ciphertext is that of both, one after the other.
pub ciphers-join : (suite : Suite) (s x y : List ℕ) → 168 ≤ length s → taken_in s + length x ≤ 32768
    → cipher_piece suite s (x ++ y) ≡ cipher_piece suite s x ++ cipher_piece suite (after suite s (cipher_piece suite s x)) y
unfolding cipher_piece
ciphers-join suite s x y l h =
    let c = cipher_piece suite s x in
    let r = after suite s c in
    let w : length c ≡ length x = cipher-length suite s x in
    let e : taken_in r ≡ taken_in s + length x = taken_then suite s l c (omega arith) ∙ ap (λ (i : ℕ). taken_in s + i) w in
    Stream.cut (cipher_key suite (key_in suite s)) (nonce_in s) (first_count (mode_of suite)) (taken_in s) x y
    ∙ ap (λ (i : ℕ). c ++ ctr_from (cipher_key suite (key_in suite s)) (nonce_in s) (first_count (mode_of suite)) i y) (sym e)
    ∙ ap₂ (λ (a b : List ℕ). c ++ ctr_from (cipher_key suite a) b (first_count (mode_of suite)) (taken_in r) y) (sym (key-then suite s l c)) (sym (nonce-then suite s l c))

-- SPDX-License-Identifier: MIT
-- What the code comes to, over plain variables. Assumes nothing.
use mathlib.Core.Path.{◌≡◌, refl, sym, ◌∙◌, ap, ap₂}
use mathlib.Core.List.{List, [], ◌∷◌, ◌++◌, append-nil, append_assoc}
use Prim.Native.Nat.{ℕ, ◌+◌, ◌*◌, ◌/◌, ◌%◌, ◌-◌, ◌<◌, ◌≤◌}
use native.Mathlib.Omega.{arith}
use lib.ListN.{length, take, drop, replicate, length-append, length-drop, drop_of_length-le, take-append-drop}
use lib.Seq.{take-take, length-take-le, drop-append-add}
use Rattle.octets.specs.Octets.{number, bytes, pasted}
use Rattle.octets.proofs.Laws.{part-rest, pasted-append, pasted-front}
use Rattle.sha2_common.specs.Sha2.{words, joined}
use Rattle.sha2_common.specs.Sizes.{sha256}
use Rattle.sha2_common.specs.Running.{State, room_of, fed, finished}
use Rattle.sha2_common.proofs.Laws.{room-full, room-holds, drop-zeros}
use Rattle.sha2_common.proofs.Steps.{eight}
use Rattle.ghash.specs.Ghash.{absorb, absorb_blocks}
use Rattle.piece_hash.specs.Held.{room_in, held, kept, fed_hash, digest_of, kept_block, absorb_whole, left_over, fed_blocks, blocks_of}
use Rattle.piece_hash.proofs.Blocks.{absorb-blocks, whole_append, whole-short, whole-front, left-short}

-- Two strings written one behind the other fill a list.
pub filled : (l x y o r : List ℕ) (n : ℕ) → length x ≡ n → length x + length y ≡ length l → o ≡ pasted l 0 x → r ≡ pasted o n y → r ≡ x ++ y
filled l x y o r n m e f g =
    let z : drop (length (x ++ y)) l ≡ [] = drop_of_length-le l {i = length (x ++ y)} (rw (length-append x y) (omega arith)) in
    let q : n ≡ 0 + length x = omega arith in
    g ∙ ap₂ (λ (a : List ℕ) (i : ℕ). pasted a i y) f q
    ∙ pasted-append l 0 x y (omega arith) ∙ pasted-front l (x ++ y) ∙ rw z (append-nil (x ++ y))

-- ---- SHA-256

pub words-read : (b : List ℕ) (x0 x1 x2 x3 x4 x5 x6 x7 : ℕ) → x0 ≡ number 4 b → x1 ≡ number 4 (take (length b - 4) (drop 4 b))
    → x2 ≡ number 4 (take (length b - 8) (drop 8 b)) → x3 ≡ number 4 (take (length b - 12) (drop 12 b))
    → x4 ≡ number 4 (take (length b - 16) (drop 16 b)) → x5 ≡ number 4 (take (length b - 20) (drop 20 b))
    → x6 ≡ number 4 (take (length b - 24) (drop 24 b)) → x7 ≡ number 4 (take (length b - 28) (drop 28 b))
    → x0 ∷ x1 ∷ x2 ∷ x3 ∷ x4 ∷ x5 ∷ x6 ∷ x7 ∷ [] ≡ words sha256 8 b
unfolding words
words-read b x0 x1 x2 x3 x4 x5 x6 x7 e0 e1 e2 e3 e4 e5 e6 e7 =
    eight e0 (e1 ∙ at 4) (e2 ∙ at 8) (e3 ∙ at 12) (e4 ∙ at 16) (e5 ∙ at 20) (e6 ∙ at 24) (e7 ∙ at 28)
  where
    at : (n : ℕ) → number 4 (take (length b - n) (drop n b)) ≡ number 4 (drop n b)
    at n = ap (number 4) (part-rest n b)

pub word-lent : (b : List ℕ) (n : ℕ) → n + 4 ≤ length b → 4 ≤ length (take (length b - n) (drop n b))
word-lent b n h = rw (part-rest n b, length-drop n b) (omega arith)

room_of_lem : (w r : List ℕ) → r ≡ room_of sha256 (w ++ []) → r ≡ room_of sha256 w
room_of_lem w r e = e ∙ ap (room_of sha256) (append-nil w)

pub loaded : (b v w : List ℕ) (n : ℕ) → length b ≡ 96 → v ≡ words sha256 8 b → w ≡ room_of sha256 (take (length b - 32) (drop 32 b) ++ [])
    → record { value = v; room = w; len = n } ≡ held n b
loaded b v w n l e f =
    let m : length b - 32 ≡ 64 = omega arith in
    let g : w ≡ room_in b =
    room_of_lem (take (length b - 32) (drop 32 b)) w f ∙ ap (λ (i : ℕ). room_of sha256 (take i (drop 32 b))) m
    ∙ room-full sha256 (omega arith) (room_in b) (length-take-le 64 (drop 32 b) (rw (length-drop 32 b) (omega arith))) in
    ap₂ (λ (x y : List ℕ). record { value = x; room = y; len = n }) e g

pub saved : (h : State) (v b : List ℕ) → v ≡ joined sha256 h.value → b ≡ v ++ h.room → b ≡ kept h
unfolding kept
saved h v b e f = f ∙ ap (λ (x : List ℕ). x ++ h.room) e

pub fed-held : (g r : State) (n : ℕ) (b c o : List ℕ) → g ≡ held n b → r ≡ fed sha256 g c → o ≡ kept r → o ≡ fed_hash n b c
unfolding fed_hash
fed-held g r n b c o e f k = k ∙ ap kept (f ∙ ap (λ (s : State). fed sha256 s c) e)

pub finished-held : (g : State) (n : ℕ) (b d : List ℕ) → g ≡ held n b → d ≡ finished sha256 g → d ≡ digest_of n b
unfolding digest_of
finished-held g n b d e f = f ∙ ap (finished sha256) e

-- ---- GHASH

pub block-kept : (y : ℕ) (w v r o : List ℕ) → v ≡ bytes 16 y ++ drop 16 (replicate 32 0) → r ≡ room_of sha256 (w ++ []) → o ≡ v ++ r → o ≡ kept_block y w
unfolding kept_block
block-kept y w v r o e f g =
    let z : v ≡ bytes 16 y ++ replicate 16 0 = e ∙ ap (λ (x : List ℕ). bytes 16 y ++ x) (drop-zeros 16 32 (omega arith)) in
    g ∙ ap₂ (λ (x t : List ℕ). x ++ t) z (room_of_lem w r f) ∙ append_assoc (bytes 16 y) (replicate 16 0) (room_of sha256 w)

pub absorbed-short : (h y : ℕ) (f c : List ℕ) → length f + length c < 16 → y ≡ absorb_whole h y (f ++ c)
absorbed-short h y f c k = sym (whole-short h y (f ++ c) (rw (length-append f c) k))

-- The first block, and then the whole blocks behind it.
pub absorbed : (h y z r : ℕ) (f c x : List ℕ) (n e : ℕ) → length f + n ≡ 16 → n ≤ length c → e ≡ n + (length c - n) / 16 * 16
    → x ≡ f ++ take n c → z ≡ absorb h y (x ++ []) → r ≡ absorb h z (take (e - n) (drop n c) ++ []) → r ≡ absorb_whole h y (f ++ c)
absorbed h y z r f c x n e p q k u v w =
    let d : List ℕ = drop n c in
    let m : ℕ = length d / 16 in
    let l : length d ≡ length c - n = length-drop n c in
    let i : e - n ≡ 16 * m = omega arith in
    let lx : length x ≡ 16 * 1 = ap length u ∙ length-append f (take n c) ∙ rw (length-take-le n c q) (omega arith) in
    let a : f ++ c ≡ x ++ d = ap (λ (t : List ℕ). f ++ t) (sym (take-append-drop n c)) ∙ sym (append_assoc f (take n c) d) ∙ ap (λ (t : List ℕ). t ++ d) (sym u) in
    let zz : z ≡ absorb_blocks h y x 1 = v ∙ ap (absorb h y) (append-nil x) ∙ absorb-blocks h y x 1 lx in
    let lt : length (take (16 * m) d) ≡ 16 * m = length-take-le (16 * m) d (omega arith) in
    w ∙ ap (absorb h z) (append-nil _ ∙ ap (λ (j : ℕ). take j d) i)
    ∙ absorb-blocks h z (take (16 * m) d) m lt
    ∙ whole-front h z d m refl
    ∙ ap (λ (t : ℕ). absorb_whole h t d) zz
    ∙ sym (whole_append h y x d 1 lx)
    ∙ ap (absorb_whole h y) (sym a)

-- The bytes that wait.
pub waiting-in : (b : List ℕ) (n i : ℕ) → n < 16 → i ≡ 32 + n → take (i - 32) (drop 32 b) ≡ take n (room_in b)
waiting-in b n i k e =
    let q : i - 32 ≡ n = omega arith in
    rw q (sym (take-take n 64 (drop 32 b) (omega arith)))

waiting-length : (b : List ℕ) (n : ℕ) → length b ≡ 96 → n < 16 → length (take n (room_in b)) ≡ n
waiting-length b n l k = length-take-le n (room_in b) (rw (length-take-le 64 (drop 32 b) (rw (length-drop 32 b) (omega arith))) (omega arith))

pub kept-short : (y : ℕ) (b c r o : List ℕ) (n i e : ℕ) → length b ≡ 96 → n < 16 → i ≡ 32 + n → e ≡ n + length c → n + length c < 16
    → r ≡ room_of sha256 (take (i - 32) (drop 32 b) ++ c) → o ≡ kept_block y (take e r) → o ≡ kept_block y (left_over (take n (room_in b) ++ c))
kept-short y b c r o n i e l h d q k u v =
    let f = take n (room_in b) in
    let m : length (f ++ c) ≡ e = length-append f c ∙ rw (waiting-length b n l h) (sym q) in
    let w : r ≡ room_of sha256 (f ++ c) = u ∙ ap (λ (x : List ℕ). room_of sha256 (x ++ c)) (waiting-in b n i h d) in
    v ∙ ap (kept_block y) (ap (take e) w ∙ room-holds sha256 (omega arith) (f ++ c) e m ∙ sym (left-short (f ++ c) (rw m (omega arith))))

pub kept-long : (y : ℕ) (b c o : List ℕ) (n i : ℕ) → length b ≡ 96 → n < 16 → 16 ≤ n + length c → i ≡ length c - (n + length c) % 16
    → o ≡ kept_block y (take (length c - i) (drop i c)) → o ≡ kept_block y (left_over (take n (room_in b) ++ c))
unfolding left_over
kept-long y b c o n i m k l e v =
    let f = take n (room_in b) in
    let w : length f ≡ n = waiting-length b n m k in
    let q : 16 * (length (f ++ c) / 16) ≡ length f + i = rw (length-append f c) (omega arith) in
    v ∙ ap (kept_block y) (part-rest i c ∙ sym (ap (λ (j : ℕ). drop j (f ++ c)) q ∙ drop-append-add f c i))

pub fed-blocks : (h y z n i : ℕ) (b c o : List ℕ) → n < 16 → i ≡ 32 + n → y ≡ number 16 b → z ≡ absorb_whole h y (take (i - 32) (drop 32 b) ++ c)
    → o ≡ kept_block z (left_over (take n (room_in b) ++ c)) → o ≡ fed_blocks h n b c
unfolding fed_blocks
fed-blocks h y z n i b c o k e f g w =
    w ∙ ap (λ (t : ℕ). kept_block t (left_over (take n (room_in b) ++ c)))
    (g ∙ ap₂ (λ (v : ℕ) (x : List ℕ). absorb_whole h v (x ++ c)) f (waiting-in b n i k e))

pub ended-blocks : (h y z n i : ℕ) (b : List ℕ) → n < 16 → i ≡ 32 + n → y ≡ number 16 b → z ≡ absorb h y (take (i - 32) (drop 32 b) ++ [])
    → z ≡ blocks_of h n b
unfolding blocks_of
ended-blocks h y z n i b k e f g = g ∙ ap₂ (λ (v : ℕ) (x : List ℕ). absorb h v x) f (append-nil _ ∙ waiting-in b n i k e)

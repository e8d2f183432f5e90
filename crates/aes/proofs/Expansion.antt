-- SPDX-License-Identifier: MIT
-- Laws of the key schedule and of the cipher that reads it.
-- Assumes nothing.
use mathlib.Core.Path.{◌≡◌, refl, ap, sym, ◌∙◌}
use mathlib.Core.Bool.{Bool, true, false}
use mathlib.Core.List.{List, [], ◌∷◌, ◌++◌}
use Prim.Native.Nat.{ℕ, zero, suc, ◌+◌, ◌*◌, ◌-◌, ◌/◌, ◌%◌, ◌^◌, ◌≤◌, ◌<◌}
use mathlib.Core.Logic.{⊎_elim}
use native.Mathlib.Nat.{suc-mul, div-lt_iff_lt-mul, eq-or-lt_of_le, le_of_suc-le-suc, not-suc-le-zero}
use native.Mathlib.Numerals.{add-one}
use native.Mathlib.Omega.{arith}
use borrow.Author.Tests.{lt-ltb, le-ltb, ne_eqb}
use lib.Arith.{digits_div, digits_mod}
use lib.Bits.{bit_xor}
use lib.Dec.{ltb}
use lib.ListN.{length, get_or, set, take, drop, length-set, length-append, get_or-append}
use lib.Seq.{get_or-set_same, get_or-take, get_or_at, take-suc-set}
use Rattle.octets.specs.Octets.{number, both}
use Rattle.aes.specs.Aes.{word, byte, rot_word, sub_bytes, shift_rows, mix_columns, add_round_key, rounds, cipher, transformed, next_word, expansion, key_expansion, encrypt_state, Nr}
use Rattle.aes_tables.specs.Field.{x_power}
use Rattle.aes.proofs.Words.{x_times-lt, word_bytes, left-1}

pub x_power-lt : (n : ℕ) → x_power n < 256
unfolding x_power
x_power-lt zero = omega arith
x_power-lt (suc n) = x_times-lt (x_power n) (x_power-lt n)

-- The number of the round, of word i = j * nk + m of the key schedule.
pub round_number : (i j nk m : ℕ) → 4 ≤ nk → m < nk → i ≡ j * nk + m → i < 11 * nk → j ≤ 10
round_number i j nk m p l e r =
    let d : i / nk ≡ j = rw e (digits_div j l) in
    let u : i / nk < 11 = (div-lt_iff_lt-mul {k = nk} {x = i} {y = 11} (omega arith)).1 r in
    omega arith

pub turned : (w : ℕ) → w < 2 ^ 32 → w % 0x1000000 * 0x100 + w / 0x1000000 ≡ rot_word w
unfolding rot_word
turned w h =
    let e : word (byte 0 w) (byte 1 w) (byte 2 w) (byte 3 w) ≡ w = word_bytes w h in
    ap (λ (x : ℕ). x % 0x1000000 * 0x100 + x / 0x1000000) (sym e)
    ∙ left-1 (byte 0 w) (byte 1 w) (byte 2 w) (byte 3 w) (omega arith) (omega arith) (omega arith) (omega arith)

pub expansion-step : (nk : ℕ) (key ctx : List ℕ) (i v : ℕ) → i < length ctx → take i ctx ≡ expansion nk key i
    → v ≡ next_word nk key i (take i ctx) → take (i + 1) (set ctx i v) ≡ expansion nk key (i + 1)
unfolding expansion
expansion-step nk key ctx i v h e q = rw (add-one, take-suc-set ctx i v h, q, e)

-- ---- words behind the key, two at a time

later-word : (nk : ℕ) (key : List ℕ) (i : ℕ) (x : List ℕ) (v : ℕ) → 1 ≤ nk → nk ≤ i
    → v ≡ bit_xor (get_or x (i - nk) 0) (transformed nk i (get_or x (i - 1) 0)) → v ≡ next_word nk key i (take i x)
unfolding next_word
later-word nk key i x v l h e =
    rw (le-ltb i nk h, get_or-take i x (i - nk) 0 (omega arith), get_or-take i x (i - 1) 0 (omega arith)) e

both_false : (a : Bool) → both a false ≡ false
both_false true = refl
both_false false = refl

-- The second word of two is never transformed.
plain_word : (nk j m w : ℕ) → nk % 2 ≡ 0 → m % 2 ≡ 0 → m < nk → transformed nk (j * nk + m + 1) w ≡ w
unfolding transformed
plain_word nk j m w p q h =
    let e : j * nk + m + 1 ≡ j * nk + (m + 1) = omega arith in
    rw (e, digits_mod j {m = nk} {r = m + 1} (omega arith), ne_eqb (m + 1) 0 (λ z. omega arith), ne_eqb (m + 1) 4 (λ z. omega arith), both_false (ltb 6 nk))

pub pair_step : (nk : ℕ) (key x : List ℕ) (i j m w t v u : ℕ) → i + 1 < length x → 2 ≤ nk → nk ≤ i → nk % 2 ≡ 0 → m % 2 ≡ 0
    → m < nk → i ≡ j * nk + m → take i x ≡ expansion nk key i → w ≡ get_or x (i - 1) 0
    → t ≡ transformed nk (j * nk + m) w → v ≡ bit_xor (get_or x (i - nk) 0) t → u ≡ bit_xor (get_or (set x i v) (i + 1 - nk) 0) v
    → take (i + 2) (set (set x i v) (i + 1) u) ≡ expansion nk key (i + 2)
pair_step nk key x i j m w t v u l two h p q k e z f g a b =
    let there : t ≡ transformed nk i (get_or x (i - 1) 0) =
    g ∙ ap (λ (n : ℕ). transformed nk n w) (sym e) ∙ ap (transformed nk i) f in
    let first : v ≡ next_word nk key i (take i x) = later-word nk key i x v (omega arith) h (a ∙ ap (bit_xor (get_or x (i - nk) 0)) there) in
    let front : take (i + 1) (set x i v) ≡ expansion nk key (i + 1) = expansion-step nk key x i v (omega arith) z first in
    let back : i + 1 - 1 ≡ i = omega arith in
    let last : get_or (set x i v) (i + 1 - 1) 0 ≡ v = rw back (get_or-set_same x i v 0 (omega arith)) in
    let plain : transformed nk (i + 1) (get_or (set x i v) (i + 1 - 1) 0) ≡ v = rw (last, e) (plain_word nk j m v p q k) in
    let second : u ≡ next_word nk key (i + 1) (take (i + 1) (set x i v)) =
    later-word nk key (i + 1) (set x i v) u (omega arith) (omega arith) (rw plain b) in
    let on : i + 2 ≡ i + 1 + 1 = omega arith in
    rw on (expansion-step nk key (set x i v) (i + 1) u (simp length-set (omega arith)) front second)

-- What was written last of a pair.
pub pair-last : (x : List ℕ) (i v u : ℕ) → i + 1 < length x → u ≡ get_or (set (set x i v) (i + 1) u) (i + 2 - 1) 0
pair-last x i v u h =
    let e : i + 2 - 1 ≡ i + 1 = omega arith in
    rw e (sym (get_or-set_same (set x i v) (i + 1) u 0 (simp length-set h)))

-- One round more.
pub rounds-step : (w s t v : List ℕ) (r : ℕ) → t ≡ rounds w s r → v ≡ add_round_key w (r + 1) (mix_columns (shift_rows (sub_bytes t)))
    → v ≡ rounds w s (r + 1)
unfolding rounds
rounds-step w s t v r e f = f ∙ rw (e, add-one)

-- The rounds 1 to r, between the first round key and the last round, are the cipher.
pub encrypted : (key s a t : List ℕ) (r : ℕ) → r + 1 ≡ Nr key → a ≡ add_round_key (key_expansion key) 0 s → t ≡ rounds (key_expansion key) a r
    → add_round_key (key_expansion key) (Nr key) (shift_rows (sub_bytes t)) ≡ encrypt_state key s
unfolding encrypt_state cipher
encrypted key s a t r n e f =
    let m : Nr key - 1 ≡ r = omega arith in
    rw (f, e, m)

expansion-length : (nk : ℕ) (key : List ℕ) (n : ℕ) → length (expansion nk key n) ≡ n
unfolding expansion
expansion-length nk key zero = refl
expansion-length nk key (suc n) = simp (length-append, expansion-length nk key n, add-one)

last-or-before : (l : List ℕ) (v k n x : ℕ) → length l ≡ n → k < suc n → (k ≡ n → v ≡ x) → (k < n → get_or l k 0 ≡ x)
    → get_or (l ++ (v ∷ [])) k 0 ≡ x
last-or-before l v k n x e h a b =
    ⊎_elim (λ q. get_or_at l v [] 0 k (e ∙ sym q) ∙ a q) (λ m. get_or-append l (v ∷ []) 0 k (omega arith) ∙ b m)
    (eq-or-lt_of_le (le_of_suc-le-suc h))

first_word : (nk : ℕ) (key : List ℕ) (k n : ℕ) (w : List ℕ) → k < nk → k ≡ n → next_word nk key n w ≡ number 4 (drop (4 * k) key)
unfolding next_word
first_word nk key k n w h e = rw (← e, lt-ltb k nk h)

-- The first Nk words are the key.
pub key-word : (nk : ℕ) (key : List ℕ) (n k : ℕ) → k < n → k < nk → get_or (expansion nk key n) k 0 ≡ number 4 (drop (4 * k) key)
unfolding expansion
key-word nk key zero k h l = absurd (not-suc-le-zero h)
key-word nk key (suc n) k h l =
    last-or-before (expansion nk key n) _ k n _ (expansion-length nk key n) h
    (first_word nk key k n (expansion nk key n) l) (λ m. key-word nk key n k m l)

-- The next word of the key.
pub key_step : (nk : ℕ) (key x : List ℕ) (i v : ℕ) → i < length x → i < nk → take i x ≡ expansion nk key i
    → v ≡ number 4 (drop (4 * i) key) → take (i + 1) (set x i v) ≡ expansion nk key (i + 1)
key_step nk key x i v h l t e = expansion-step nk key x i v h t (e ∙ sym (first_word nk key i i (take i x) l refl))

-- Two words on, at the end of a turn.
pub next-turn : (j nk m : ℕ) → m + 2 ≡ nk → (j + 1) * nk + 0 ≡ j * nk + m + 2
next-turn j nk m e = rw (add-one, suc-mul j nk) (omega arith)

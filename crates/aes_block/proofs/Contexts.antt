-- SPDX-License-Identifier: MIT
-- Laws of a context: how it is filled, whose key it holds, and that the rounds by its words are the cipher.
-- Assumes nothing.
use mathlib.Core.Path.{◌≡◌, refl, ap, sym, subst, ◌∙◌}
use mathlib.Core.List.{List, [], ◌∷◌}
use Prim.Native.Nat.{ℕ, zero, suc, ◌+◌, ◌*◌, ◌-◌, ◌/◌, ◌^◌, ◌≤◌, ◌<◌}
use native.Mathlib.Numerals.{add-one}
use native.Mathlib.Omega.{arith}
use lib.ListN.{length, get_or, set, take, drop, length-set, length-drop}
use lib.Seq.{get_or-set_same, get_or-set_other, get_or-take, take-suc-set, take-set-le, take-add, take_all, take-suc, take-take}
use Rattle.octets.specs.Octets.{Octets, number, bytes}
use Rattle.octets.proofs.Laws.{bytes-number, octets-drop}
use Rattle.aes.specs.Aes.{sub_bytes, shift_rows, add_round_key, rounds, cipher, expansion, key_expansion, encrypt_state, Nk, Nr, KeySize}
use Rattle.aes.proofs.Expansion.{key-word}
use Rattle.aes_block.specs.Inner.Context.{Table, Filled, Context, Ready, word_bytes, key_of}

set-lt : (l : List ℕ) (i v k b : ℕ) → v < b → get_or l k 0 < b → get_or (set l i v) k 0 < b
set-lt [] i v k b h g = g
set-lt (x ∷ l) zero v zero b h g = h
set-lt (x ∷ l) zero v (suc k) b h g = g
set-lt (x ∷ l) (suc i) v zero b h g = g
set-lt (x ∷ l) (suc i) v (suc k) b h g = set-lt l i v k b h g

-- The table stays where a word is written in front of it.
pub table_kept : (n : ℕ) (ctx : List ℕ) (i v : ℕ) → i < 64 → v < 2 ^ 32 → Table n ctx → Table n (set ctx i v)
table_kept n ctx i v h l t =
    record {
      sized = simp length-set t.sized;
      words = λ k m. set-lt ctx i v k (2 ^ 32) l (t.words k m);
      entry = λ x m. get_or-set_other ctx i (64 + x) v 0 (omega arith) ∙ t.entry x m;
    }

module _ (w s : List ℕ) (m : ℕ) where
  key-in-front : (r : ℕ) → 4 * r + 4 ≤ m → add_round_key (take m w) r s ≡ add_round_key w r s
  unfolding add_round_key
  key-in-front r h =
      rw (
        get_or-take m w (4 * r + 0) 0 (omega arith),
        get_or-take m w (4 * r + 1) 0 (omega arith),
        get_or-take m w (4 * r + 2) 0 (omega arith),
        get_or-take m w (4 * r + 3) 0 (omega arith),
      )

rounds-in-front : (w s : List ℕ) (m r : ℕ) → 4 * r + 4 ≤ m → rounds (take m w) s r ≡ rounds w s r
unfolding rounds
rounds-in-front w s m zero h = refl
rounds-in-front w s m (suc r) h =
    rw (rounds-in-front w s m r (omega arith)) (key-in-front w _ m (suc r) h)

cipher-in-front : (w s : List ℕ) (m nr : ℕ) → 1 ≤ nr → 4 * nr + 4 ≤ m → cipher nr (take m w) s ≡ cipher nr w s
unfolding cipher
cipher-in-front w s m nr l h =
    rw (key-in-front w s m 0 (omega arith), rounds-in-front w (add_round_key w 0 s) m (nr - 1) (omega arith))
    (key-in-front w _ m nr h)

-- The rounds of the code, by the words of a context, are the cipher of its key.
pub enciphered : (key ctx s a t u v : List ℕ) (n r : ℕ) → Context key ctx → n ≡ get_or ctx 60 0 → r + 1 ≡ n
    → a ≡ add_round_key ctx 0 s → t ≡ rounds ctx a r → u ≡ shift_rows (sub_bytes t) → v ≡ add_round_key ctx n u → v ≡ encrypt_state key s
unfolding encrypt_state cipher
enciphered key ctx s a t u v n r k e f b p q h =
    let g : n ≡ Nr key = e ∙ k.rounds in
    let d : n - 1 ≡ r = omega arith in
    h ∙ ap (λ (x : List ℕ). add_round_key ctx n x) (q ∙ ap (λ (x : List ℕ). shift_rows (sub_bytes x)) (p ∙ rw (b, d)))
    ∙ sym (cipher-in-front ctx s (4 * (Nr key + 1)) n (omega arith) (omega arith))
    ∙ ap (λ (x : List ℕ). cipher n x s) k.schedule
    ∙ ap (λ (x : ℕ). cipher x (key_expansion key) s) g

-- What a copied key schedule makes of a context.
pub copied : (key w ctx : List ℕ) (n : ℕ) → KeySize (length key) → Table 256 ctx → take 60 ctx ≡ take 60 w
    → take (4 * (Nr key + 1)) w ≡ key_expansion key → n ≡ Nr key → Filled key ctx n
copied key w ctx n k t e f g =
    record {
      table = t;
      schedule =
          sym (take-take (4 * (Nr key + 1)) 60 ctx (omega (arith, k.most)))
          ∙ ap (take (4 * (Nr key + 1))) e
          ∙ take-take (4 * (Nr key + 1)) 60 w (omega (arith, k.most))
          ∙ f;
      count = g;
    }

-- A word copied.
pub copy_step : (w ctx : List ℕ) (i : ℕ) → i < length ctx → i < length w → take i ctx ≡ take i w
    → take (i + 1) (set ctx i (get_or w i 0)) ≡ take (i + 1) w
copy_step w ctx i h l e = rw (add-one, take-suc-set ctx i (get_or w i 0) h, e) (sym (take-suc w i 0 l))

key-bytes : (key w : List ℕ) (nk : ℕ) → Octets key → 4 * nk ≤ length key
    → ((k : ℕ) → k < nk → get_or w k 0 ≡ number 4 (drop (4 * k) key)) → (n : ℕ) → n ≤ nk → word_bytes n w ≡ take (4 * n) key
unfolding word_bytes
key-bytes key w nk o l f zero h = refl
key-bytes key w nk o l f (suc n) h =
    let b : bytes 4 (get_or w n 0) ≡ take 4 (drop (4 * n) key) =
    ap (bytes 4) (f n h) ∙ bytes-number 4 (drop (4 * n) key) (octets-drop (4 * n) key o) (simp length-drop (omega arith)) in
    let m : 4 * suc n ≡ 4 * n + 4 = omega arith in
    rw (key-bytes key w nk o l f n (omega arith), b, m) (sym (take-add (4 * n) 4 key))

-- A filled array with the number of rounds is the context of the key.
pub context : (key ctx : List ℕ) (n : ℕ) → Octets key → KeySize (length key) → Filled key ctx n → Context key (set ctx 60 n)
unfolding key_of key_expansion
context key ctx n o k f =
    let l : length ctx ≡ 320 = f.table.sized in
    let r : get_or (set ctx 60 n) 60 0 ≡ Nr key = get_or-set_same ctx 60 n 0 (omega arith) ∙ f.count in
    let m : length key / 4 * 4 ≡ length key = omega (arith, k.whole) in
    let s : take (4 * (Nr key + 1)) (set ctx 60 n) ≡ expansion (Nk key) key (4 * (Nr key + 1)) =
    take-set-le (4 * (Nr key + 1)) ctx 60 n (omega (arith, k.most)) ∙ f.schedule in
    let w : (i : ℕ) → i < Nk key → get_or (set ctx 60 n) i 0 ≡ number 4 (drop (4 * i) key) =
    λ i h. sym (get_or-take (4 * (Nr key + 1)) (set ctx 60 n) i 0 (omega arith)) ∙ ap (λ (x : List ℕ). get_or x i 0) s
    ∙ key-word (Nk key) key (4 * (Nr key + 1)) i (omega arith) h in
    let e : get_or (set ctx 60 n) 60 0 - 6 ≡ Nk key = omega arith in
    record {
      table = table_kept 256 ctx 60 n (omega arith) (omega (arith, f.count, k.most)) f.table;
      key_size = k;
      rounds = r;
      schedule = s;
      keyed =
          ap (λ (x : ℕ). word_bytes x (set ctx 60 n)) e
          ∙ key-bytes key (set ctx 60 n) (Nk key) o (omega arith) w (Nk key) (omega arith)
          ∙ take_all (4 * Nk key) key (omega arith);
    }

-- A context is of the key that it holds.
pub context-key : {key ctx : List ℕ} → Context key ctx → key_of ctx ≡ key
context-key k = k.keyed

pub context-ready : {key ctx : List ℕ} → Context key ctx → Ready ctx
context-ready {key} {ctx} k = subst (λ (x : List ℕ). Context x ctx) (sym k.keyed) k

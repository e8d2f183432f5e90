-- SPDX-License-Identifier: MIT
-- Laws of a context that is filled, one round key after the other.
-- Assumes nothing.
use mathlib.Core.Path.{◌≡◌, refl, sym, ◌∙◌, ap, subst}
use mathlib.Core.List.{List, [], ◌∷◌}
use Prim.Native.Nat.{ℕ, zero, suc, ◌+◌, ◌*◌, ◌-◌, ◌/◌, ◌%◌, ◌≤◌, ◌<◌}
use native.Mathlib.Nat.{div-add-mod'}
use native.Mathlib.Omega.{arith}
use borrow.Author.Count.{below_more}
use borrow.Rule.Slice.PartMut.{put_mid, same_len_mid, take_put}
use lib.ListN.{length, get_or, set, take, drop, length-set, length-drop}
use lib.Seq.{get_or-set_same, get_or-take, take-set-le, take_at, drop_at, take-take, length-take-le, take-add, take_all}
use Rattle.octets.specs.Octets.{Octets, number, bytes}
use Rattle.octets.proofs.Laws.{bytes-number, octets-drop}
use Rattle.aes.specs.Aes.{Nk, Nr, expansion, key_expansion, KeySize}
use Rattle.aes.proofs.Expansion.{key-word}
use Rattle.aes_rows.specs.Blocks.{column, KeyPlanes}
use Rattle.aes_keys.specs.Inner.Keys.{planes_at, key_bytes, key_of, Filled, RoundKeys, Context, Ready}

-- ---- parts of a list

-- A part is the end of a front.
part : (n m : ℕ) (l : List ℕ) → n ≤ length l → take m (drop n l) ≡ drop n (take (n + m) l)
part n m l h = sym (ap (drop n) (take-add n m l) ∙ drop_at (take n l) (take m (drop n l)) n (length-take-le n l h))

-- Lists with the same front have the same round keys there.
planes-front : (x y : List ℕ) (n s : ℕ) → take n x ≡ take n y → 32 * s + 32 ≤ n → n ≤ length x → n ≤ length y → planes_at x s ≡ planes_at y s
planes-front x y n s e h k l =
    part (32 * s) 32 x (omega arith)
    ∙ ap (drop (32 * s)) (sym (take-take (32 * s + 32) n x h) ∙ ap (take (32 * s + 32)) e ∙ take-take (32 * s + 32) n y h)
    ∙ sym (part (32 * s) 32 y (omega arith))

-- ---- one round key more

-- Round key r written, and those before it.
module _ (ctx p : List ℕ) (r : ℕ) (hp : length p ≡ 32) (hr : 32 * r + 32 ≤ length ctx) where
  planes-new : planes_at (put_mid (32 * r) 32 ctx p) r ≡ p
  planes-new = ap (take 32) (drop_at (take (32 * r) ctx) _ (32 * r) (length-take-le (32 * r) ctx (omega arith))) ∙ take_at p _ 32 hp

  put-length : length (put_mid (32 * r) 32 ctx p) ≡ length ctx
  put-length = same_len_mid (32 * r) 32 ctx p (hp ∙ sym (length-take-le 32 (drop (32 * r) ctx) (simp length-drop (omega arith))))

  planes-old : (s : ℕ) → s < r → planes_at (put_mid (32 * r) 32 ctx p) s ≡ planes_at ctx s
  planes-old s h =
      planes-front _ ctx (32 * r) s (take_put (32 * r) 32 ctx p (omega arith)) (omega arith) (rw put-length (omega arith)) (omega arith)

-- The words of round key r, in planes.
key-planes : (key w p : List ℕ) (r n : ℕ) → take n w ≡ key_expansion key → 4 * r + 4 ≤ n
    → Filled (get_or w (4 * r) 0) (get_or w (4 * r + 1) 0) (get_or w (4 * r + 2) 0) (get_or w (4 * r + 3) 0) p → KeyPlanes (key_expansion key) r p
key-planes key w p r n e h f = record { sized = f.sized; each = λ m c hm hc. f.each m c hm hc ∙ at c hc }
  where
    word : (i j : ℕ) → i ≡ j → j < n → get_or w i 0 ≡ get_or (key_expansion key) j 0
    word i j g l = ap (λ (k : ℕ). get_or w k 0) g ∙ sym (get_or-take n w j 0 l) ∙ ap (λ (x : List ℕ). get_or x j 0) e

    at : (c : ℕ) → c < 4 → get_or (get_or w (4 * r) 0 ∷ get_or w (4 * r + 1) 0 ∷ get_or w (4 * r + 2) 0 ∷ get_or w (4 * r + 3) 0 ∷ []) c 0 ≡ get_or (key_expansion key) (4 * r + c) 0
    at zero l = word (4 * r) (4 * r + 0) (omega arith) (omega arith)
    at (suc zero) l = word (4 * r + 1) (4 * r + 1) refl (omega arith)
    at (suc (suc zero)) l = word (4 * r + 2) (4 * r + 2) refl (omega arith)
    at (suc (suc (suc zero))) l = word (4 * r + 3) (4 * r + 3) refl (omega arith)
    at (suc (suc (suc (suc c)))) l = absurd (omega arith)

pub keys-start : (key ctx : List ℕ) → length ctx ≡ 481 → RoundKeys key 0 ctx
keys-start key ctx l = record { sized = l; planes = λ r h. absurd (omega arith) }

pub keys_step : (key w ctx p : List ℕ) (r : ℕ) → KeySize (length key) → r ≤ Nr key → RoundKeys key r ctx
    → take (4 * (Nr key + 1)) w ≡ key_expansion key
    → Filled (get_or w (4 * r) 0) (get_or w (4 * r + 1) 0) (get_or w (4 * r + 2) 0) (get_or w (4 * r + 3) 0) p
    → (n : ℕ) → n ≡ 32 → RoundKeys key (r + 1) (put_mid (32 * r) n ctx p)
keys_step key w ctx p r k h a e f n g =
    rw g
    (let inside : 32 * r + 32 ≤ length ctx = omega (arith, k.most, a.sized) in
    record {
      sized = put-length ctx p r f.sized inside ∙ a.sized;
      planes =
          below_more _ _
          (λ s l. subst (KeyPlanes (key_expansion key) s) (sym (planes-old ctx p r f.sized inside s l)) (a.planes s l))
          (subst (KeyPlanes (key_expansion key) r) (sym (planes-new ctx p r f.sized inside)) (key-planes key w p r (4 * (Nr key + 1)) e (omega arith) f));
    })

-- ---- the whole context

-- The first Nk words are the key.
key-bytes : (key ctx : List ℕ) → Octets key → KeySize (length key) → RoundKeys key (Nr key + 1) ctx
    → (n : ℕ) → n ≤ Nk key → key_bytes n ctx ≡ take (4 * n) key
unfolding key_bytes key_expansion
key-bytes key ctx o k a zero h = refl
key-bytes key ctx o k a (suc n) h =
    let e : 4 * (n / 4) + n % 4 ≡ n = omega (arith, div-add-mod' n 4) in
    let c : column (planes_at ctx (n / 4)) 0 (n % 4) ≡ number 4 (drop (4 * n) key) =
    (a.planes (n / 4) (omega arith)).each 0 (n % 4) (omega arith) (omega arith)
    ∙ ap (λ (i : ℕ). get_or (expansion (Nk key) key (4 * (Nr key + 1))) i 0) e
    ∙ key-word (Nk key) key (4 * (Nr key + 1)) n (omega arith) h in
    let b : bytes 4 (column (planes_at ctx (n / 4)) 0 (n % 4)) ≡ take 4 (drop (4 * n) key) =
    ap (bytes 4) c ∙ bytes-number 4 (drop (4 * n) key) (octets-drop (4 * n) key o) (simp length-drop (omega arith)) in
    let m : 4 * suc n ≡ 4 * n + 4 = omega arith in
    rw (key-bytes key ctx o k a n (omega arith), b, m) (sym (take-add (4 * n) 4 key))

pub context : (key ctx : List ℕ) (n : ℕ) → Octets key → KeySize (length key) → n ≡ Nr key → RoundKeys key (Nr key + 1) ctx
    → Context key (set ctx 480 n)
unfolding key_of
context key ctx n o k e a =
    let t : List ℕ = set ctx 480 n in
    let l : length t ≡ 481 = length-set ctx 480 n ∙ a.sized in
    let b : RoundKeys key (Nr key + 1) (set ctx 480 n) =
    record {
      sized = l;
      planes = λ r h.
          subst (KeyPlanes (key_expansion key) r)
          (sym (planes-front (set ctx 480 n) ctx 480 r (take-set-le 480 ctx 480 n (omega arith)) (omega (arith, k.most)) (omega arith) (omega (arith, a.sized))))
          (a.planes r h);
    } in
    let g : get_or (set ctx 480 n) 480 0 ≡ Nr key = get_or-set_same ctx 480 n 0 (omega (arith, a.sized)) ∙ e in
    let m : get_or (set ctx 480 n) 480 0 - 6 ≡ Nk key = omega arith in
    record {
      keys = b;
      key_size = k;
      rounds = g;
      keyed =
          ap (λ (x : ℕ). key_bytes x (set ctx 480 n)) m ∙ key-bytes key (set ctx 480 n) o k b (Nk key) (omega arith)
          ∙ take_all (4 * Nk key) key (omega (arith, k.whole));
    }

-- ---- what the crates above cite

-- A context is of the key that it holds.
pub context-key : {key ctx : List ℕ} → Context key ctx → key_of ctx ≡ key
context-key k = k.keyed

pub context-ready : {key ctx : List ℕ} → Context key ctx → Ready ctx
context-ready {key} {ctx} k = subst (λ (x : List ℕ). Context x ctx) (sym k.keyed) k

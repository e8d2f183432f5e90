-- SPDX-License-Identifier: MIT
-- What the code's steps come to, over plain lists and over the hash. Assumes nothing.
use mathlib.Core.Path.{◌≡◌, refl, sym, ◌∙◌, ap}
use mathlib.Core.List.{List, [], ◌∷◌, ◌++◌, append_assoc, append-nil}
use Prim.Native.Nat.{ℕ, suc, ◌+◌, ◌*◌, ◌/◌, ◌-◌, ◌<◌, ◌≤◌, min}
use native.Mathlib.Nat.{mul-zero, mul-suc, mul_comm, mul-le-mul_right, lt_of_mul-lt-mul_right, div-eq_of_lt-le}
use native.Mathlib.Numerals.{add-one}
use native.Mathlib.Omega.{arith}
use borrow.Rule.Slice.PartMut.{put_mid, same_len_mid}
use lib.ListN.{length, take, drop, replicate, length-append, length-drop, length-replicate, drop_of_length-le}
use lib.Seq.{take_at, drop_at, drop-drop, take_all, take-append-add, drop-length, length-take-le}
use Rattle.std.specs.Int.{div_ceil}
use Rattle.std.proofs.lemmas.Grind.{div_ceil_times}
use Rattle.octets.specs.Octets.{pasted, xors}
use Rattle.octets.proofs.Laws.{lent-pasted}
use Rattle.sha2_common.specs.Sha2.{Params, hash}
use Rattle.sha2_common.specs.Running.{State}
use Rattle.sha2_common.specs.Fed.{Fed}
use Rattle.sha2_common.proofs.Laws.{drop-zeros}
use Rattle.hmac.specs.Hmac.{ipad, opad, extended, masked, hmac}
use Rattle.hmac.specs.Hkdf.{hash_len, T, blocks, expand}
use Rattle.hmac.specs.Inner.Running.{Keyed}
use Rattle.hmac.proofs.Laws.{shortened-fits, shortened-long, masked-of, hmac-of, T-suc, blocks-suc, expand-of}

-- a slice that was written over whole
written : (o b z : List ℕ) → length z ≤ length b → o ≡ b ++ drop (length b) z → o ≡ b
written o b z h e = e ∙ ap (λ (l : List ℕ). b ++ l) (drop_of_length-le z h) ∙ append-nil b

-- B is out so far, up to at, and n bytes of t come next
pasted-next : (B o o₀ t l : List ℕ) (at n k : ℕ) → length B ≡ at → at + n ≤ length o₀ → n ≤ length t → k ≡ n → o ≡ B ++ drop at o₀
    → l ≡ take n t ++ drop (length (take n t)) (take k (drop at o)) → put_mid at k o l ≡ take (at + n) (B ++ t) ++ drop (at + n) o₀
unfolding pasted
pasted-next B o o₀ t l at n k e h m q f g =
    let x : length (take n t) ≡ n = length-take-le n t m in
    let y : length o ≡ length o₀ = rw f (simp (length-append, length-drop) (omega arith)) in
    let s : drop (at + n) o ≡ drop (at + n) o₀ =
    sym (drop-drop n at o) ∙ ap (drop n) (ap (drop at) f ∙ drop_at B (drop at o₀) at e) ∙ drop-drop n at o₀ in
    let u : take (at + n) (B ++ t) ≡ B ++ take n t = rw (← e) (take-append-add B t n) in
    lent-pasted o l (take n t) at k (omega arith) (omega arith) g
    ∙ rw (x, s, u, append_assoc B (take n t) (drop (at + n) o₀)) (ap (λ (a : List ℕ). a ++ (take n t ++ drop (at + n) o₀)) (ap (take at) f ∙ take_at B (drop at o₀) at e))

grown : (l a b i : ℕ) → a ≡ l * i → b ≡ l → a + b ≡ l * (i + 1)
grown l a b i e f = rw (e, f, add-one, mul-suc)

-- where i + 1 blocks of l bytes end in s bytes
ends : (l a n i s : ℕ) → a ≡ min (l * i) s → a < s → n ≡ min l (s - a) → (a + n ≡ min (l * (i + 1)) s) × (l * (i + 1) < s + l)
ends l a n i s e h f =
    let m : l * (i + 1) ≡ l * i + l = rw (add-one, mul-suc) in
    rw m (omega arith)

-- a block b that was copied, and masked with a pad
pub masked-with : (n : ℕ) (b o r : List ℕ) (pad : ℕ) → length b ≡ n → o ≡ b ++ drop (length b) (replicate n 0)
    → r ≡ xors o (replicate n pad) → r ≡ xors b (replicate n pad)
masked-with n b o r pad l e f =
    rw (f, written o b (replicate n 0) (omega (arith, length-replicate {A = ℕ} n 0)) e)

turn-ends : (i d : ℕ) → (i + 1) * d ≡ i * d + d
turn-ends i d = rw (mul_comm (i + 1) d, add-one, mul-suc, mul_comm d i)

module _ (p : Params) where
  -- In these steps n is the block's size, as the code has it.
  zeros-behind : (n : ℕ) (x o : List ℕ) → p.block ≡ n → length x ≤ n → o ≡ x ++ drop (length x) (replicate n 0)
      → o ≡ x ++ replicate (p.block - length x) 0
  zeros-behind n x o b h e = e ∙ ap (λ (l : List ℕ). x ++ l) (drop-zeros (length x) n h ∙ ap (λ (i : ℕ). replicate (i - length x) 0) (sym b))

  pub extended_fits : (n : ℕ) (k o : List ℕ) → p.block ≡ n → length k ≤ n → o ≡ k ++ drop (length k) (replicate n 0) → o ≡ extended p k
  unfolding extended
  extended_fits n k o b h e = rw (shortened-fits p k (omega arith)) (zeros-behind n k o b h e)

  pub extended-long : (n : ℕ) (k d o : List ℕ) → p.block ≡ n → n < length k → d ≡ hash p (k ++ []) → length d ≤ n
      → o ≡ d ++ drop (length d) (replicate n 0) → o ≡ extended p k
  unfolding extended
  extended-long n k d o b h q l e =
      let x : d ≡ hash p k = rw append-nil at q in
      rw (shortened-long p k (omega arith), ← x) (zeros-behind n d o b l e)

  -- ---- HMAC

  -- a block masked with a pad, as the code has it
  masked-by : (n : ℕ) (k b : List ℕ) (pad : ℕ) → p.block ≡ n → b ≡ extended p k → xors b (replicate n pad) ≡ masked p pad k
  masked-by n k b pad e f = ap (λ (i : ℕ). xors b (replicate i pad)) (sym e) ∙ masked-of p k b pad f

  -- the two hashes, once the masked keys have been fed
  pub keyed-new : (n : ℕ) (i o : State) (k b : List ℕ) → p.block ≡ n → b ≡ extended p k → Fed p i (xors b (replicate n ipad)) → Fed p o (xors b (replicate n opad))
      → Keyed p i o k []
  keyed-new n i o k b s e f g = (rw (masked-by n k b ipad s e, ← append-nil (masked p ipad k)) at f, rw (masked-by n k b opad s e) at g)

  pub keyed-feed : (i i' o : State) (k m s : List ℕ) → ((x : List ℕ) → Fed p i x → Fed p i' (x ++ s)) → Keyed p i o k m → Keyed p i' o k (m ++ s)
  keyed-feed i i' o k m s f g = (rw append_assoc at (f (masked p ipad k ++ m) g.0), g.1)

  -- d is the inner digest, o' the outer hash that has been fed it, r its digest
  pub keyed-finish : (i o o' : State) (k m d r : List ℕ) → ((x : List ℕ) → Fed p i x → d ≡ hash p x) → ((x : List ℕ) → Fed p o x → Fed p o' (x ++ d))
      → ((x : List ℕ) → Fed p o' x → r ≡ hash p x) → Keyed p i o k m → r ≡ hmac p k m
  keyed-finish i o o' k m d r e f g h = hmac-of p k m d r (e (masked p ipad k ++ m) h.0) (g (masked p opad k ++ d) (f (masked p opad k) h.1))

  -- the same of a whole text, with the masked blocks x and y
  pub hmac-whole : (n : ℕ) (k m b x y d r : List ℕ) → p.block ≡ n → b ≡ extended p k → x ≡ xors b (replicate n ipad) → y ≡ xors b (replicate n opad)
      → d ≡ hash p (x ++ m) → r ≡ hash p (y ++ d) → r ≡ hmac p k m
  hmac-whole n k m b x y d r s e ex ey ed er =
      hmac-of p k m d r
      (ed ∙ ap (λ (l : List ℕ). hash p (l ++ m)) (ex ∙ masked-by n k b ipad s e))
      (er ∙ ap (λ (l : List ℕ). hash p (l ++ d)) (ey ∙ masked-by n k b opad s e))

  -- ---- HKDF

  -- What HKDF-Expand holds after i blocks, with the key k: what it wrote over o₀ so far, up to at; the last block,
  -- in the first u bytes of b; and how many bytes all blocks are.
  pub record Held (k info o₀ o b : List ℕ) (u at i : ℕ) : Type 0 where
    pub reach : at ≡ min (hash_len p * i) (length o₀)
    pub near : hash_len p * i < length o₀ + hash_len p
    pub kept : length o ≡ length o₀
    pub used : u ≤ hash_len p
    pub room : length b ≡ hash_len p
    pub out : o ≡ take at (blocks p k info i) ++ drop at o₀
    pub last : take u b ≡ T p k info i
    pub size : length (blocks p k info i) ≡ hash_len p * i

  -- The same where the blocks so far are cut to the bytes that are wanted.
  abbrev pub HeldBy : (k info o₀ o b : List ℕ) (u i : ℕ) → Type 0
  HeldBy k info o₀ o b u i = Held k info o₀ o b u (min (hash_len p * i) (length o₀)) i

  held_none : 0 < hash_len p → (k info o b : List ℕ) → length b ≡ hash_len p → Held k info o o b 0 0 0
  unfolding blocks T
  held_none pos k info o b l =
      record {
        reach = rw mul-zero (omega arith);
        near = rw mul-zero (omega arith);
        kept = refl;
        used = omega arith;
        room = l;
        out = refl;
        last = refl;
        size = sym (mul-zero (hash_len p));
      }

  pub held-begin : (d : ℕ) → hash_len p ≡ d → 0 < d → (k info o b : List ℕ) → length b ≡ d → HeldBy k info o o b 0 0
  held-begin d e pos k info o b l =
      let z : min (hash_len p * 0) (length o) ≡ 0 = rw mul-zero (omega arith) in
      rw z (held_none (omega arith) k info o b (l ∙ sym e))

  held_next : (d : ℕ) → hash_len p ≡ d → (k info o₀ o b t l : List ℕ) (u at i n c : ℕ) → at < length o → n ≡ min d (length o - at) → c ≡ n → length t ≡ d
      → t ≡ hmac p k (take u b ++ (info ++ ((i + 1) ∷ [])))
      → l ≡ take n t ++ drop (length (take n t)) (take c (drop at o)) → length l ≡ length (take c (drop at o))
      → Held k info o₀ o b u at i → Held k info o₀ (put_mid at c o l) t d (at + n) (i + 1)
  held_next d ed k info o₀ o b t l u at i n c ha en ec et e f fl h =
      let g : at < length o₀ = omega arith in
      let en' : n ≡ min (hash_len p) (length o₀ - at) = en ∙ ap (λ (x : ℕ). min x (length o - at)) (sym ed) ∙ ap (λ (x : ℕ). min (hash_len p) (x - at)) h.kept in
      let x = ends (hash_len p) at n i (length o₀) h.reach g en' in
      let B : List ℕ = blocks p k info i in
      let s : length B ≡ at = h.size ∙ omega arith in
      let o' : o ≡ B ++ drop at o₀ = h.out ∙ ap (λ (y : List ℕ). y ++ drop at o₀) (take_all at B (omega arith)) in
      let t' : t ≡ T p k info (suc i) = e ∙ ap (λ (y : List ℕ). hmac p k (y ++ (info ++ ((i + 1) ∷ [])))) h.last ∙ ap (λ (j : ℕ). hmac p k (T p k info i ++ (info ++ (j ∷ [])))) (add-one i) ∙ sym (T-suc p k info i) in
      let q : B ++ t ≡ blocks p k info (i + 1) = ap (λ (y : List ℕ). B ++ y) t' ∙ sym (blocks-suc p k info i) ∙ ap (blocks p k info) (sym (add-one i)) in
      record {
        reach = x.0;
        near = x.1;
        kept = same_len_mid at c o l fl ∙ h.kept;
        used = omega arith;
        room = et ∙ sym ed;
        out = pasted-next B o o₀ t l at n c s (omega arith) (omega arith) ec o' f ∙ ap (λ (y : List ℕ). take (at + n) y ++ drop (at + n) o₀) q;
        last = take_all d t (omega arith) ∙ t' ∙ ap (T p k info) (sym (add-one i));
        size = ap length (sym q) ∙ length-append B t ∙ grown (hash_len p) (length B) (length t) i h.size (et ∙ sym ed);
      }

  -- the turn that writes the block t at i * d
  pub held-turn : (d : ℕ) → hash_len p ≡ d → (k info o₀ o b t l : List ℕ) (u i n c : ℕ) → i * d < length o₀ → n ≡ min d (length o - i * d) → c ≡ n
      → length t ≡ d → t ≡ hmac p k (take u b ++ (info ++ ((i + 1) ∷ [])))
      → l ≡ take n t ++ drop (length (take n t)) (take c (drop (i * d) o)) → length l ≡ length (take c (drop (i * d) o))
      → HeldBy k info o₀ o b u i → HeldBy k info o₀ (put_mid (i * d) c o l) t d (i + 1)
  held-turn d ed k info o₀ o b t l u i n c ha en ec et e f fl h =
      let m : hash_len p * i ≡ i * d = ap (λ (x : ℕ). x * i) ed ∙ mul_comm d i in
      let q : min (hash_len p * i) (length o₀) ≡ i * d = rw m (omega arith) in
      let x = held_next d ed k info o₀ o b t l u (i * d) i n c (omega (arith, h.kept)) en ec et e f fl (rw q at h) in
      rw x.reach at x

  held-done : (k info o₀ o b : List ℕ) (u at i : ℕ) → at ≡ length o₀ → i ≡ (length o₀ + (hash_len p - 1)) / hash_len p
      → Held k info o₀ o b u at i → o ≡ expand p k info (length o₀)
  held-done k info o₀ o b u at i e f h =
      h.out
      ∙ ap (λ (n : ℕ). take n (blocks p k info i) ++ drop n o₀) e
      ∙ ap (λ (x : List ℕ). take (length o₀) (blocks p k info i) ++ x) (drop-length o₀)
      ∙ append-nil (take (length o₀) (blocks p k info i))
      ∙ expand-of p k info (length o₀) i f

  -- the loop is done once i blocks of d bytes reach the end
  pub held-end : (d : ℕ) → hash_len p ≡ d → 0 < d → (k info o₀ o b : List ℕ) (u i : ℕ) → length o₀ ≤ i * d
      → HeldBy k info o₀ o b u i → o ≡ expand p k info (length o₀)
  held-end d ed pos k info o₀ o b u i hi h =
      let m : hash_len p * i ≡ i * hash_len p = mul_comm (hash_len p) i in
      let m' : i * hash_len p ≡ i * d = ap (λ (x : ℕ). i * x) ed in
      let f : (length o₀ + (hash_len p - 1)) / hash_len p ≡ i = div-eq_of_lt-le (hash_len p) (omega arith) (rw (turn-ends i (hash_len p)) (omega (arith, h.near, m))) in
      held-done k info o₀ o b u (min (hash_len p * i) (length o₀)) i (omega arith) (sym f) h

-- the turns of d bytes each, of which the last ends at a or behind it
pub turn-starts : (i a d : ℕ) → 0 < d → i < div_ceil a d → i * d < a
turn-starts i a d pos h =
    let b = div_ceil_times a d pos in
    let m : (i + 1) * d ≤ div_ceil a d * d = mul-le-mul_right d (omega arith) in
    omega (arith, turn-ends i d)

pub turns-reach : (i a d : ℕ) → 0 < d → div_ceil a d ≤ i → a ≤ i * d
turns-reach i a d pos h = omega (arith, div_ceil_times a d pos, mul-le-mul_right {m = div_ceil a d} {n = i} d h)

pub few-turns : (i a d : ℕ) → 0 < d → i < div_ceil a d → a ≤ 255 * d → i < 255
few-turns i a d pos h k = lt_of_mul-lt-mul_right d (omega (arith, turn-starts i a d pos h))

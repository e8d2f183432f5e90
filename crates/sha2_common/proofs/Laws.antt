-- SPDX-License-Identifier: MIT
-- Laws of SHA-2 over its parameters: blocks that are chained, a message fed in pieces, padding.
-- Assumes nothing.
use mathlib.Core.Path.{◌≡◌, refl, sym, ◌∙◌, ap, subst}
use mathlib.Core.List.{List, [], ◌∷◌, ◌++◌, append_assoc, append-nil}
use Prim.Native.Nat.{ℕ, zero, suc, ◌+◌, ◌*◌, ◌/◌, ◌%◌, ◌^◌, ◌-◌, ◌<◌, ◌≤◌}
use native.Mathlib.Nat.{suc-mul, zero-mul, mul-zero, mul-suc, add_comm, add-div_left, div-eq_of_lt, div-mul-le_self, zero-div, zero-mod, mod-lt, mod-add-mod, mod-eq-sub-div-mul}
use native.Mathlib.Numerals.{add-one}
use native.Mathlib.Omega.{arith}
use lib.ListN.{length, take, drop, replicate, length-append, length-take, length-drop, length-replicate, take-append-drop, replicate-append-replicate}
use lib.Seq.{take_at, take-add, drop_at, drop-drop, length-take-le}
use Rattle.octets.specs.Octets.{Octets, bytes}
use Rattle.octets.proofs.Laws.{bytes-add, bytes-length, bytes-octets, octets-append, part-rest}
use Rattle.sha2_common.specs.Sha2.{Params, adds, compress, chain, run, joined, padding, zeros, hash}
use Rattle.sha2_common.specs.Sizes.{sha256, sha512, initial256, initial512}
use Rattle.sha2_common.specs.Running.{State, left, room_of, waits, fresh, fed, finished}
use Rattle.sha2_common.specs.Fed.{Stands, Fed}

-- a message cut at a and at b, as slices cut it, is whole again
pub pieces : (m : List ℕ) (a b : ℕ) → a ≤ b → b ≤ length m
    → (take a m ++ take (b - a) (drop a m)) ++ take (length m - b) (drop b m) ≡ m
pieces m a b h k =
    let e : a + (b - a) ≡ b = omega arith in
    rw (part-rest b m, ← take-add a (b - a) m, e, take-append-drop b m)

pub pieces-lengths : (m : List ℕ) (a b : ℕ) → a ≤ b → b ≤ length m
    → (length (take a m) ≡ a) × (length (take (b - a) (drop a m)) ≡ b - a) × (length (take (length m - b) (drop b m)) ≡ length m - b)
pieces-lengths m a b h k =
    (simp length-take (omega arith), simp (length-take, length-drop) (omega arith), simp (length-take, length-drop) (omega arith))

-- ---- digests

module _ (p : Params) where
  pub adds-length : (h v : List ℕ) → length (adds p h v) ≡ length h
  adds-length [] v = refl
  adds-length (x ∷ h) v = ap suc (adds-length h (drop 1 v))

  pub compress-length : (h b : List ℕ) → length (compress p h b) ≡ length h
  unfolding compress
  compress-length h b = adds-length h _

  pub chain_length : (n : ℕ) (h m : List ℕ) → length (chain p n h m) ≡ length h
  unfolding chain
  chain_length zero h m = refl
  chain_length (suc n) h m = chain_length n (compress p h (take p.block m)) (drop p.block m) ∙ compress-length h (take p.block m)

  pub joined_length : (h : List ℕ) → length (joined p h) ≡ p.size * length h
  unfolding joined
  joined_length [] = sym (mul-zero p.size)
  joined_length (x ∷ h) = rw (length-append, bytes-length, joined_length h, mul-suc, add_comm)

  pub joined-octets : (h : List ℕ) → Octets (joined p h)
  unfolding joined
  joined-octets [] i = omega arith
  joined-octets (x ∷ h) i = octets-append (bytes p.size x) (joined p h) (bytes-octets p.size x) (joined-octets h) i

  -- a digest has as many words as the initial hash value, and is bytes
  pub hash-length : (m : List ℕ) → length (hash p m) ≡ p.size * length p.initial
  unfolding hash run
  hash-length m = joined_length _ ∙ ap (λ (n : ℕ). p.size * n) (chain_length _ p.initial (m ++ padding p (length m)))

  pub hash-octets : (m : List ℕ) → Octets (hash p m)
  unfolding hash
  hash-octets m = joined-octets _

pub words-of-256 : length sha256.initial ≡ 8
unfolding initial256
words-of-256 = refl

pub words-of-512 : length sha512.initial ≡ 8
unfolding initial512
words-of-512 = refl

-- ---- pieces

empty : (a : List ℕ) → length a ≡ 0 → a ≡ []
empty [] e = refl
empty (x ∷ a) e = absurd (omega arith)

module _ (p : Params) (pos : 0 < p.block) where
  -- ---- blocks

  -- a whole block in front is chained first
  pub run-block : (h b m : List ℕ) → length b ≡ p.block → run p h (b ++ m) ≡ run p (compress p h b) m
  unfolding run chain
  run-block h b m e =
      let q : length (b ++ m) / p.block ≡ suc (length m / p.block) = rw (length-append, e, add-div_left (length m) pos, add-one) in
      ap (λ (n : ℕ). chain p n h (b ++ m)) q
      ∙ ap (λ (x : List ℕ). chain p (length m / p.block) (compress p h x) (drop p.block (b ++ m))) (take_at b m p.block e)
      ∙ ap (λ (x : List ℕ). chain p (length m / p.block) (compress p h b) x) (drop_at b m p.block e)

  -- one block more of s, from i to e
  pub run-next : (s v r t : List ℕ) (i e : ℕ) → e ≡ i + p.block → e ≤ length s → r ≡ compress p v (take (e - i) (drop i s))
      → run p v (drop i s) ≡ t → run p r (drop e s) ≡ t
  run-next s v r t i e q h f g =
      let n : e - i ≡ p.block = omega arith in
      rw (f, n, q, ← drop-drop p.block i s)
      (sym (run-block v (take p.block (drop i s)) (drop p.block (drop i s)) (simp (length-take, length-drop) (omega arith)))
      ∙ ap (run p v) (take-append-drop p.block (drop i s))
      ∙ g)

  -- less than a block is not chained
  pub run_short : (h m : List ℕ) → length m < p.block → run p h m ≡ h
  unfolding run chain
  run_short h m s = rw div-eq_of_lt

  -- nothing in front changes nothing
  pub run_none : (h a m : List ℕ) → length a ≡ 0 → run p h m ≡ run p h (a ++ m)
  run_none h a m e = rw (empty a e)

  run-cons : (h b a m : List ℕ) → length b ≡ p.block → ((g : List ℕ) → run p g (a ++ m) ≡ run p (run p g a) m)
      → run p h ((b ++ a) ++ m) ≡ run p (run p h (b ++ a)) m
  run-cons h b a m e f =
      ap (run p h) (append_assoc b a m)
      ∙ run-block h b (a ++ m) e
      ∙ f (compress p h b)
      ∙ ap (λ (g : List ℕ). run p g m) (sym (run-block h b a e))

  -- whole blocks in front are chained first
  pub run-append : (n : ℕ) (h a m : List ℕ) → length a ≡ n * p.block → run p h (a ++ m) ≡ run p (run p h a) m
  run-append zero h a m e =
      let n : a ≡ [] = empty a (omega (arith, rw zero-mul at e)) in
      rw (n, run_short h [] pos)
  run-append (suc n) h a m e =
      let l : length a ≡ n * p.block + p.block = rw suc-mul at e in
      rw (take-append-drop p.block a) at
      (run-cons h (take p.block a) (drop p.block a) m (simp length-take (omega arith))
      (λ g. run-append n g (drop p.block a) m (simp length-drop (omega arith))))

  -- ---- a message in pieces

  pub stands-new : Stands p p.initial [] []
  unfolding Stands
  stands-new x = refl

  -- bytes that wait
  pub stands-wait : (h w m s : List ℕ) → Stands p h w m → Stands p h (w ++ s) (m ++ s)
  unfolding Stands
  stands-wait h w m s f x = rw (append_assoc m s x, append_assoc w s x) (f (s ++ x))

  -- whole blocks in front of what waits are chained
  pub stands-run : (n : ℕ) (h a w m : List ℕ) → length a ≡ n * p.block → Stands p h (a ++ w) m → Stands p (run p h a) w m
  unfolding Stands
  stands-run n h a w m e f x = f x ∙ ap (run p h) (append_assoc a w x) ∙ run-append n h a (w ++ x) e

  -- the digest of a message that h and w stand for
  pub stands-end : (h w m : List ℕ) → Stands p h w m → joined p (run p h (w ++ padding p (length m))) ≡ hash p m
  unfolding Stands hash
  stands-end h w m f = ap (joined p) (sym (f (padding p (length m))))

  -- ---- the running hash

  -- the whole blocks of a message, and what is left
  pub whole : (m : List ℕ) → take (length m / p.block * p.block) m ++ left p m ≡ m
  unfolding left
  whole m = take-append-drop (length m / p.block * p.block) m

  pub left-length : (m : List ℕ) → length (left p m) ≡ length m % p.block
  unfolding left
  left-length m = length-drop (length m / p.block * p.block) m ∙ sym (mod-eq-sub-div-mul (length m) p.block)

  pub left-short : (m : List ℕ) → length m < p.block → left p m ≡ m
  unfolding left
  left-short m h = rw (div-eq_of_lt h, zero-mul)

  pub whole_length : (m : List ℕ) → length (take (length m / p.block * p.block) m) ≡ length m / p.block * p.block
  whole_length m = length-take-le _ m (div-mul-le_self (length m) p.block)

  pub run-whole : (h m : List ℕ) → run p h (take (length m / p.block * p.block) m) ≡ run p h m
  run-whole h m =
      let a : List ℕ = take (length m / p.block * p.block) m in
      sym (run_short (run p h a) (left p m) (rw (left-length m) (mod-lt (length m) pos)))
      ∙ sym (run-append (length m / p.block) h a (left p m) (whole_length m))
      ∙ ap (run p h) (whole m)

  pub stands-fed : (h w m s : List ℕ) → Stands p h w m → Stands p (run p h (w ++ s)) (left p (w ++ s)) (m ++ s)
  stands-fed h w m s f =
      let x : List ℕ = w ++ s in
      rw (run-whole h x) at
      (stands-run (length x / p.block) h (take (length x / p.block * p.block) x) (left p x) (m ++ s) (whole_length x)
      (subst (λ (c : List ℕ). Stands p h c (m ++ s)) (sym (whole x)) (stands-wait h w m s f)))

  -- what a room holds
  pub room-holds : (w : List ℕ) (n : ℕ) → length w ≡ n → take n (room_of p w) ≡ w
  unfolding room_of
  room-holds w n e = take_at w _ n e

  pub room-full : (w : List ℕ) → length w ≡ p.block → room_of p w ≡ w
  unfolding room_of
  room-full w e =
      let n : p.block - length w ≡ 0 = omega arith in
      rw n (append-nil w)

  pub waits-fed : (h : State) (s : List ℕ) → length h.room ≡ p.block → waits p (fed p h s) ≡ left p (waits p h ++ s)
  waits-fed h s e =
      let m : h.len % p.block < p.block = mod-lt h.len pos in
      let l : length (waits p h) ≡ h.len % p.block = length-take-le (h.len % p.block) h.room (omega arith) in
      room-holds (left p (waits p h ++ s)) ((h.len + length s) % p.block)
      (left-length (waits p h ++ s) ∙ rw (length-append, l) (mod-add-mod h.len p.block (length s)))

  -- A new state has been fed nothing. One that was fed m, and is then fed s, has been fed m and s. Its digest is that of
  -- what it was fed.
  pub fed-none : (r : State) → r ≡ fresh p → Fed p r []
  fed-none r e = rw e (record { total = refl; stands = rw (zero-mod p.block) stands-new })

  pub fed-more : (h r : State) (m s : List ℕ) → length h.room ≡ p.block → r ≡ fed p h s → Fed p h m → Fed p r (m ++ s)
  fed-more h r m s l e f =
      rw e
      (record {
        total = simp length-append (omega arith);
        stands = rw (waits-fed h s l) (stands-fed h.value (waits p h) m s f.stands);
      })

  pub fed-end : (h : State) (d m : List ℕ) → d ≡ finished p h → Fed p h m → d ≡ hash p m
  fed-end h d m e f =
      e ∙ ap (λ (n : ℕ). joined p (run p h.value (waits p h ++ padding p n))) f.total ∙ stands-end h.value (waits p h) m f.stands

-- ---- padding

-- zeros after the first n
pub drop-zeros : (n N : ℕ) → n ≤ N → drop {A = ℕ} n (replicate N 0) ≡ replicate (N - n) 0
drop-zeros n N h =
    let e : N ≡ n + (N - n) = omega arith in
    ap (λ (k : ℕ). drop {A = ℕ} n (replicate k 0)) e
    ∙ ap (drop {A = ℕ} n) (sym (replicate-append-replicate {A = ℕ} n (N - n) 0))
    ∙ drop_at {A = ℕ} (replicate n 0) (replicate (N - n) 0) n (length-replicate n 0)

bytes-none : (k : ℕ) → bytes k 0 ≡ replicate k 0
unfolding bytes
bytes-none zero = refl
bytes-none (suc k) = rw (zero-div, bytes-none k)

-- the padding, for code that writes a length below 2 ^ 64 as eight bytes
pub padding-eight : (p : Params) (n k z : ℕ) → p.field ≡ k + 8 → z ≡ zeros p n + k → 8 * n < 256 ^ 8
    → padding p n ≡ 0x80 ∷ (replicate z 0 ++ bytes 8 (8 * n))
unfolding padding
padding-eight p n k z e f h =
    let q : bytes p.field (8 * n) ≡ replicate k 0 ++ bytes 8 (8 * n) = rw (e, bytes-add k 8 (8 * n), div-eq_of_lt h, bytes-none k) in
    rw (q, f)
    (ap (λ (l : List ℕ). 0x80 ∷ l)
    (sym (append_assoc (replicate (zeros p n) 0) (replicate k 0) (bytes 8 (8 * n)))
    ∙ ap (λ (l : List ℕ). l ++ bytes 8 (8 * n)) (replicate-append-replicate {A = ℕ} (zeros p n) k 0)))

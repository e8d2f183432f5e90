-- SPDX-License-Identifier: MIT
-- What the loops and the straight runs of code come to, over the parameters. Assumes nothing.
use mathlib.Core.Path.{◌≡◌, refl, sym, ◌∙◌, ap}
use mathlib.Core.List.{List, [], ◌∷◌, ◌++◌, append_assoc, append-nil}
use Prim.Native.Nat.{ℕ, zero, suc, ◌+◌, ◌*◌, ◌/◌, ◌%◌, ◌-◌, ◌^◌, ◌<◌, ◌≤◌}
use native.Mathlib.Numerals.{add-one}
use native.Mathlib.Nat.{mul-zero, zero-mul, mul-le-mul_right, div-mul-le_self, lt-div-mul-add, mul-add, mul-one, mul_comm, suc-mul, mod-le, mod-lt, mod-eq_of_lt, add-mod_right, div-add-mod'}
use native.Mathlib.Omega.{arith}
use lib.ListN.{length, get_or, take, drop, set, replicate, length-append, length-take, length-drop, length-replicate, take-append-drop, replicate-append-replicate}
use lib.Seq.{take-suc, take-suc-set, take_all, take_at, drop_at, drop-drop, drop-append-add, set_at, get_or-take, get_or-set_other, length-take-le}
use borrow.Rule.Slice.PartMut.{put_mid}
use Rattle.std.specs.Simd.{first_chunks}
use Rattle.octets.specs.Octets.{number, bytes, pasted}
use Rattle.octets.proofs.Laws.{part-rest, bytes-length, lent-pasted, pasted_length}
use Rattle.sha2_common.specs.Sha2.{Params, add, Ch, Maj, Σ0, Σ1, σ0, σ1, T1, T2, words, next, schedule, round, rounds, adds, compress, run, joined, zeros, padding}
use Rattle.sha2_common.specs.Inner.Rounds.{Halfway}
use Rattle.sha2_common.specs.Running.{State, left, room_of, waits, fresh, fed, finished}
use Rattle.sha2_common.proofs.Laws.{run-block, run-next, room-full, drop-zeros, padding-eight}

-- what stands before the end of what was written at i
pub taken : (l x : List ℕ) (i n : ℕ) → i + length x ≡ n → n ≤ length l → take n (pasted l i x) ≡ take i l ++ x
unfolding pasted
taken l x i n e h =
    rw (← append_assoc (take i l) x (drop (i + length x) l))
    (take_at (take i l ++ x) (drop (i + length x) l) n (simp (length-append, length-take) (omega arith)))

zeroed : (w : List ℕ) (h z c N : ℕ) → length w ≡ h → h + (1 + z) + c ≡ N
    → set (w ++ drop (length w) (replicate N 0)) h 0x80 ≡ (w ++ (0x80 ∷ replicate z 0)) ++ replicate c 0
zeroed w h z c N e f =
    let n : N ≡ length w + suc (z + c) = omega arith in
    rw (
      n,
      ← replicate-append-replicate {A = ℕ} (length w) (suc (z + c)) 0,
      drop_at {A = ℕ} (replicate (length w) 0) (replicate (suc (z + c)) 0) (length w) (length-replicate (length w) 0),
      set_at {A = ℕ} w 0 (replicate (z + c) 0) 0x80 h e,
      append_assoc w (0x80 ∷ replicate z 0) (replicate c 0),
      replicate-append-replicate {A = ℕ} z c 0,
    )

-- two hash values of equal words
pub eight : {a b c d e f g h a' b' c' d' e' f' g' h' : ℕ} → a ≡ a' → b ≡ b' → c ≡ c' → d ≡ d' → e ≡ e' → f ≡ f' → g ≡ g' → h ≡ h'
    → a ∷ b ∷ c ∷ d ∷ e ∷ f ∷ g ∷ h ∷ [] ≡ a' ∷ b' ∷ c' ∷ d' ∷ e' ∷ f' ∷ g' ∷ h' ∷ []
eight i j k l m n o q = rw (i, j, k, l, m, n, o, q)

-- the padding of n bytes, where they leave h behind the whole blocks of b bytes
pub padded-once : (p : Params) (n b h : ℕ) → p.block ≡ b → h ≡ n % b → h + p.field < b → b ≡ h + (p.field + 1) + zeros p n
unfolding zeros
padded-once p n b h e f k =
    let m : 2 * b - (p.field + 1) - h ≡ b - (p.field + 1) - h + b = omega arith in
    let q : (b - (p.field + 1) - h) % b ≡ b - (p.field + 1) - h = mod-eq_of_lt (omega arith) in
    rw (e, ← f, m, add-mod_right (b - (p.field + 1) - h) b, q) (omega arith)

pub padded-twice : (p : Params) (n b h : ℕ) → p.block ≡ b → h ≡ n % b → h < b → p.field < b → b ≤ h + p.field → 2 * b ≡ h + (p.field + 1) + zeros p n
unfolding zeros
padded-twice p n b h e f k l j =
    let q : (2 * b - (p.field + 1) - h) % b ≡ 2 * b - (p.field + 1) - h = mod-eq_of_lt (omega arith) in
    rw (e, ← f, q) (omega arith)

-- the chunks that a slice is cut into
pub chunk-at : (n k i : ℕ) (s d : List ℕ) → i < k → get_or (first_chunks n k s) i d ≡ take n (drop (i * n) s)
chunk-at n zero i s d h = absurd (omega arith)
chunk-at n (suc k) zero s d h = rw zero-mul refl
chunk-at n (suc k) (suc i) s d h =
    let m : suc i * n ≡ n + i * n = rw suc-mul (omega arith) in
    rw m (chunk-at n k i (drop n s) d (omega arith) ∙ ap (take n) (drop-drop (i * n) n s))

pub chunk-within : (n : ℕ) (s : List ℕ) (i : ℕ) → i < length s / n → (i + 1) * n ≤ length s
chunk-within n s i h = omega (arith, mul-le-mul_right {m = i + 1} {n = length s / n} n (omega arith), div-mul-le_self (length s) n)

pub chunks-end : (n : ℕ) → 0 < n → (s : List ℕ) (i : ℕ) → length s / n ≤ i → length (drop (i * n) s) < n
chunks-end n pos s i h =
    simp length-drop (omega (arith, lt-div-mul-add {a = length s} {b = n} pos, mul-le-mul_right {m = length s / n} {n = i} n h))

module _ (p : Params) where
  -- one round, sum by sum
  pub round-done : (v : List ℕ) (k w s1 x1 x2 x3 x4 t1 s0 x5 t2 e a : ℕ) → s1 ≡ Σ1 p (get_or v 4 0) → x1 ≡ add p (get_or v 7 0) s1 → x2 ≡ Ch p (get_or v 4 0) (get_or v 5 0) (get_or v 6 0)
      → x3 ≡ add p x1 x2 → x4 ≡ add p x3 k → t1 ≡ add p x4 w → s0 ≡ Σ0 p (get_or v 0 0) → x5 ≡ Maj p (get_or v 0 0) (get_or v 1 0) (get_or v 2 0) → t2 ≡ add p s0 x5
      → e ≡ add p (get_or v 3 0) t1 → a ≡ add p t1 t2
      → a ∷ get_or v 0 0 ∷ get_or v 1 0 ∷ get_or v 2 0 ∷ e ∷ get_or v 4 0 ∷ get_or v 5 0 ∷ get_or v 6 0 ∷ [] ≡ round p v k w
  unfolding round T1 T2
  round-done v k w s1 x1 x2 x3 x4 t1 s0 x5 t2 e a e1 e2 e3 e4 e5 e6 e7 e8 e9 e10 e11 = rw (e11, e10, e9, e8, e7, e6, e5, e4, e3, e2, e1)

  pub rounds-step : (w k : List ℕ) (t n : ℕ) (h v r : List ℕ) → k ≡ p.constants → n ≡ suc t → v ≡ rounds p w t h
      → r ≡ round p v (get_or k t 0) (get_or w t 0) → r ≡ rounds p w n h
  unfolding rounds
  rounds-step w k t n h v r e i f g = rw (i, g, f, e)

  -- the same rounds, counted in one step
  pub rounds-at : (w h v : List ℕ) (t a b n : ℕ) → a + b ≡ n → v ≡ rounds p w (t + a + b) h → v ≡ rounds p w (t + n) h
  rounds-at w h v t a b n e f = let q : t + a + b ≡ t + n = omega arith in rw q at f

  pub words_step : (w b : List ℕ) (i v : ℕ) → i < length w → take i w ≡ words p i b → v ≡ number p.size (drop (p.size * i) b)
      → take (i + 1) (set w i v) ≡ words p (i + 1) b
  unfolding words
  words_step w b i v h e f = rw (add-one, take-suc-set w i v h, e, f)

  schedule-word : (w b : List ℕ) (i v : ℕ) → take (i + 16) w ≡ schedule p i b
      → v ≡ add p (add p (add p (σ1 p (get_or w (i + 14) 0)) (get_or w (i + 9) 0)) (σ0 p (get_or w (i + 1) 0))) (get_or w i 0)
      → schedule p (suc i) b ≡ take (i + 16) w ++ (v ∷ [])
  unfolding schedule next
  schedule-word w b i v e f =
      rw (
        ← e,
        get_or-take (i + 16) w (i + 14) 0 (omega arith),
        get_or-take (i + 16) w (i + 9) 0 (omega arith),
        get_or-take (i + 16) w (i + 1) 0 (omega arith),
        get_or-take (i + 16) w i 0 (omega arith),
        f,
      )

  pub schedule-step : (w b : List ℕ) (i v : ℕ) → i + 16 < length w → take (i + 16) w ≡ schedule p i b
      → v ≡ add p (add p (add p (σ1 p (get_or w (i + 14) 0)) (get_or w (i + 9) 0)) (σ0 p (get_or w (i + 1) 0))) (get_or w i 0)
      → take (i + 1 + 16) (set w (i + 16) v) ≡ schedule p (i + 1) b
  schedule-step w b i v h e f =
      let q : i + 1 + 16 ≡ suc (i + 16) = omega arith in
      rw (q, take-suc-set w (i + 16) v h, add-one i) (sym (schedule-word w b i v e f))

  -- ---- the schedule grows beside the rounds

  -- rounds look at no word behind them
  rounds-kept : (w h : List ℕ) (t i v : ℕ) → t ≤ i → rounds p (set w i v) t h ≡ rounds p w t h
  unfolding rounds
  rounds-kept w h zero i v k = refl
  rounds-kept w h (suc t) i v k = rw (rounds-kept w h t i v (omega arith), get_or-set_other w i t v 0 (λ e. omega arith))

  -- the first round's words are the block's
  pub halfway-holds : (b h w : List ℕ) → take 16 w ≡ words p 16 b → Halfway p b h 0 w h
  unfolding schedule rounds
  halfway-holds b h w e = record { words = e; value = refl }

  -- one word more, after a round
  pub halfway-step : (b h w v : List ℕ) (t x : ℕ) → t + 16 < length w → take (t + 16) w ≡ schedule p t b → v ≡ rounds p w (t + 1) h
      → x ≡ add p (add p (add p (σ1 p (get_or w (t + 14) 0)) (get_or w (t + 9) 0)) (σ0 p (get_or w (t + 1) 0))) (get_or w t 0)
      → Halfway p b h (t + 1) (set w (t + 16) x) v
  halfway-step b h w v t x l e f g =
      record {
        words = schedule-step w b t x l e g;
        value = f ∙ sym (rounds-kept w h (t + 1) (t + 16) x (omega arith));
      }

  -- the same, counted in one step
  pub halfway-at : (b h w v : List ℕ) (t a c n : ℕ) → a + c ≡ n → Halfway p b h (t + a + c) w v → Halfway p b h (t + n) w v
  halfway-at b h w v t a c n e f = let q : t + a + c ≡ t + n = omega arith in rw q at f

  -- all words are there, and the last rounds done
  pub halfway-done : (n : ℕ) → p.turns ≡ n → 16 ≤ n → (b h w u v r : List ℕ) → length w ≡ n → Halfway p b h (n - 16) w u
      → (u ≡ rounds p w (n - 16) h → v ≡ rounds p w n h) → r ≡ adds p h v → r ≡ compress p h b
  unfolding compress
  halfway-done n e o b h w u v r l g f k =
      let s = schedule p (n - 16) b in
      let q : w ≡ s = sym (take_all (n - 16 + 16) w (omega arith)) ∙ g.words in
      let z : v ≡ rounds p s n h = f g.value ∙ ap (λ (x : List ℕ). rounds p x n h) q in
      rw (k, z, e)

  -- ---- the digest

  joined-append : (a b : List ℕ) → joined p (a ++ b) ≡ joined p a ++ joined p b
  unfolding joined
  joined-append [] b = refl
  joined-append (x ∷ a) b = ap (λ (l : List ℕ). bytes p.size x ++ l) (joined-append a b) ∙ sym (append_assoc (bytes p.size x) (joined p a) (joined p b))

  joined-one : (x : ℕ) → joined p (x ∷ []) ≡ bytes p.size x
  unfolding joined
  joined-one x = append-nil (bytes p.size x)

  -- The first i words of ws stand at the front of o, which has n bytes.
  pub record Joined (n : ℕ) (ws : List ℕ) (i : ℕ) (o : List ℕ) : Type 0 where
    pub front : take (p.size * i) o ≡ joined p (take i ws)
    pub whole : length o ≡ n

  pub joined-none : (n : ℕ) (ws o : List ℕ) → length o ≡ n → Joined n ws 0 o
  unfolding joined
  joined-none n ws o e = record { front = rw mul-zero refl; whole = e }

  -- the word i, written behind those before it
  pub joined_next : (n : ℕ) (ws o o' : List ℕ) (i : ℕ) → i < length ws → p.size * (i + 1) ≤ n → Joined n ws i o
      → o' ≡ pasted o (p.size * i) (bytes p.size (get_or ws i 0)) → Joined n ws (i + 1) o'
  joined_next n ws o o' i h k e f =
      let x : List ℕ = bytes p.size (get_or ws i 0) in
      let b : length x ≡ p.size = bytes-length p.size (get_or ws i 0) in
      let s : p.size * (i + 1) ≡ p.size * i + p.size = rw (mul-add, mul-one) in
      let l = e.whole in
      record {
        front = rw (
          f,
          s,
          taken o x (p.size * i) (p.size * i + p.size) (omega arith) (omega arith),
          add-one,
          take-suc ws i 0 h,
          joined-append,
          joined-one,
          e.front,
        );
        whole = rw f (pasted_length o (p.size * i) x (omega arith)) ∙ l;
      }

  pub joined-done : (n : ℕ) (ws o : List ℕ) → length ws ≡ 8 → 8 * p.size ≡ n → Joined n ws 8 o → o ≡ joined p ws
  joined-done n ws o e f h =
      sym (take_all (p.size * 8) o (omega (arith, h.whole))) ∙ h.front ∙ ap (joined p) (take_all 8 ws (omega arith))

  -- ---- the running hash

  -- a room that f was written to, and b behind it
  pub room-filled : (n : ℕ) → p.block ≡ n → (f b o l : List ℕ) (i k : ℕ) → length f ≡ i → i + k ≡ n → length b ≤ k
      → o ≡ f ++ drop (length f) (replicate n 0)
      → l ≡ b ++ drop (length b) (take k (drop i o))
      → put_mid i k o l ≡ room_of p (f ++ b)
  unfolding pasted room_of
  room-filled N eN f b o l i k e h g q r =
      let a : N - length f ≡ k = omega arith in
      let z : o ≡ f ++ replicate k 0 = rw (q, drop-zeros (length f) N (omega arith), a) in
      let d : drop (i + length b) o ≡ replicate (k - length b) 0 =
      sym (drop-drop (length b) i o) ∙ ap (drop (length b)) (ap (drop i) z ∙ drop_at f (replicate k 0) i e) ∙ drop-zeros (length b) k g in
      let n : length o ≡ N = rw z (simp (length-append, length-replicate) (omega arith)) in
      let m : k - length b ≡ p.block - length (f ++ b) = simp length-append (omega arith) in
      lent-pasted o l b i k g (omega arith) r
      ∙ rw (d, z, take_at f (replicate k 0) i e, m) (sym (append_assoc f b (replicate (p.block - length (f ++ b)) 0)))

  -- s after the bytes f: n bytes of s fill the block l, the rest follows it
  pub absorbed : 0 < p.block → (h v r f s l : List ℕ) (n : ℕ) → length f + n ≡ p.block → n ≤ length s
      → l ≡ room_of p (f ++ take n s) → v ≡ compress p h l → r ≡ run p v (take (length s - n) (drop n s)) → r ≡ run p h (f ++ s)
  absorbed pos h v r f s l n e hn el ev er =
      let b : length (f ++ take n s) ≡ p.block = simp (length-append, length-take) (omega arith) in
      rw (er, ev, el, room-full p pos (f ++ take n s) b, part-rest n s)
      (sym (run-block p pos h (f ++ take n s) (drop n s) b)
      ∙ ap (run p h) (append_assoc f (take n s) (drop n s) ∙ ap (λ (x : List ℕ). f ++ x) (take-append-drop n s)))

  -- the chunk at i of s, after those before it
  pub run-chunk : 0 < p.block → (n : ℕ) → p.block ≡ n → (s v r t : List ℕ) (i : ℕ) → (i + 1) * n ≤ length s → r ≡ compress p v (take n (drop (i * n) s))
      → run p v (drop (i * n) s) ≡ t → run p r (drop ((i + 1) * n) s) ≡ t
  run-chunk pos n e s v r t i h f g =
      let m : (i + 1) * n ≡ i * n + n = rw (add-one, suc-mul) in
      let k : i * n + n - i * n ≡ n = omega arith in
      rw m (run-next p pos s v r t (i * n) (i * n + n) (omega arith) (omega arith) (rw k f) g)

  left_over_lem : 0 < p.block → (f s : List ℕ) (k : ℕ) → length f < p.block → p.block ≤ length f + length s
      → k ≡ length s - (length f + length s) % p.block → take (length s - k) (drop k s) ≡ left p (f ++ s)
  unfolding left
  left_over_lem pos f s k h g e =
      let n : length f + length s ≡ length f + length s - p.block + p.block = omega arith in
      let m : (length f + length s) % p.block ≡ (length f + length s - p.block) % p.block = ap (λ (x : ℕ). x % p.block) n ∙ add-mod_right (length f + length s - p.block) p.block in
      let d : (length f + length s) / p.block * p.block ≡ length f + k = omega (arith, div-add-mod' (length f + length s) p.block, mod-le (length f + length s - p.block) p.block) in
      rw (part-rest k s, length-append, d, drop-append-add f s k)

  -- what is left of f and s, where they fill a block: the end of s
  pub left_over_at : (n : ℕ) → p.block ≡ n → 0 < n → (f s : List ℕ) (k : ℕ) → length f < n → n ≤ length f + length s
      → k ≡ length s - (length f + length s) % n → take (length s - k) (drop k s) ≡ left p (f ++ s)
  left_over_at n q pos f s k h g e =
      left_over_lem (omega arith) f s k (omega arith) (omega arith) (e ∙ ap (λ (x : ℕ). length s - (length f + length s) % x) (sym q))

  -- a new state
  pub fresh-with : (n : ℕ) → p.block ≡ n → (v w : List ℕ) → v ≡ p.initial → w ≡ replicate n 0 → record { value = v; room = w; len = 0 } ≡ fresh p
  unfolding room_of
  fresh-with n e v w f h =
      let z : replicate n 0 ≡ replicate (p.block - 0) 0 = ap (λ (i : ℕ). replicate {A = ℕ} i 0) (omega arith) in
      rw (f, h, z)

  -- a state that was fed s
  pub fed-with : (n : ℕ) → p.block ≡ n → (h : State) (v w s : List ℕ) → v ≡ run p h.value (take (h.len % n) h.room ++ s)
      → w ≡ room_of p (left p (take (h.len % n) h.room ++ s)) → record { value = v; room = w; len = h.len + length s } ≡ fed p h s
  fed-with n q h v w s e f = rw (rw (← q) at e, rw (← q) at f)

  -- the last blocks: what waits, a bit 1, zeros, and the length n in bits
  padded-tail : (w t l : List ℕ) (n h e k c N : ℕ) → length w ≡ h → p.field ≡ k + 8 → e ≡ h + 9 + (zeros p n + k) → e - 8 + c ≡ N → 8 ≤ c → 8 * n < 256 ^ 8
      → t ≡ w ++ drop (length w) (replicate N 0)
      → l ≡ bytes 8 (n * 8) ++ drop 8 (take c (drop (e - 8) (set t h 0x80)))
      → take e (put_mid (e - 8) c (set t h 0x80) l) ≡ w ++ padding p n
  padded-tail w t l n h e k c N hw ek ee ec hc hn et el =
      let z : ℕ = zeros p n + k in
      let x : List ℕ = bytes 8 (8 * n) in
      let front : List ℕ = w ++ (0x80 ∷ replicate z 0) in
      let T : set t h 0x80 ≡ front ++ replicate c 0 = rw et (zeroed w h z c N hw (omega arith)) in
      let lf : length front ≡ e - 8 = simp (length-append, length-replicate) (omega arith) in
      let lx : length x ≡ 8 = bytes-length 8 (8 * n) in
      let ll : length (front ++ replicate c 0) ≡ N = simp (length-append, length-replicate) (omega arith) in
      let el' : l ≡ x ++ drop (length x) (take c (drop (e - 8) (front ++ replicate c 0))) = rw (lx, mul_comm 8 n, ← T) el in
      rw (
        T,
        lent-pasted (front ++ replicate c 0) l x (e - 8) c (omega arith) (omega arith) el',
        taken (front ++ replicate c 0) x (e - 8) e (omega arith) (omega arith),
        take_at front (replicate c 0) (e - 8) lf,
        append_assoc w (0x80 ∷ replicate z 0) x,
        padding-eight p n k z ek refl hn,
      )

  -- the digest, once the last blocks t hold what waits, a bit 1, and the length at their end e
  finished-with : 0 < p.block → (h : State) (t l v d : List ℕ) (e k c N : ℕ) → length h.room ≡ p.block → p.field ≡ k + 8
      → e ≡ h.len % p.block + (p.field + 1) + zeros p h.len → e - 8 + c ≡ N → 8 ≤ c → 8 * h.len < 256 ^ 8
      → t ≡ waits p h ++ drop (length (waits p h)) (replicate N 0)
      → l ≡ bytes 8 (h.len * 8) ++ drop 8 (take c (drop (e - 8) (set t (h.len % p.block) 0x80)))
      → v ≡ run p h.value (take e (put_mid (e - 8) c (set t (h.len % p.block) 0x80) l)) → d ≡ joined p v → d ≡ finished p h
  finished-with pos h t l v d e k c N hr ek ee ec hc hn et el ev ed =
      let m : h.len % p.block < p.block = mod-lt h.len pos in
      let w : length (waits p h) ≡ h.len % p.block = length-take-le (h.len % p.block) h.room (omega arith) in
      let x : take e (put_mid (e - 8) c (set t (h.len % p.block) 0x80) l) ≡ waits p h ++ padding p h.len =
      padded-tail (waits p h) t l h.len (h.len % p.block) e k c N w ek (omega arith) ec hc hn et el in
      rw (ed, ev, x)

  pub finished-by : (n : ℕ) → p.block ≡ n → 0 < n → (h : State) (t l v d : List ℕ) (e k c N : ℕ) → length h.room ≡ n → p.field ≡ k + 8
      → e ≡ h.len % n + (p.field + 1) + zeros p h.len → e - 8 + c ≡ N → 8 ≤ c → 8 * h.len < 256 ^ 8
      → t ≡ take (h.len % n) h.room ++ drop (length (take (h.len % n) h.room)) (replicate N 0)
      → l ≡ bytes 8 (h.len * 8) ++ drop 8 (take c (drop (e - 8) (set t (h.len % n) 0x80)))
      → v ≡ run p h.value (take e (put_mid (e - 8) c (set t (h.len % n) 0x80) l)) → d ≡ joined p v → d ≡ finished p h
  finished-by n q pos h t l v d e k c N hr ek ee ec hc hn et el ev ed =
      finished-with (omega arith) h t l v d e k c N (omega arith) ek (rw (← q) at ee) ec hc hn (rw (← q) at et) (rw (← q) at el) (rw (← q) at ev) ed

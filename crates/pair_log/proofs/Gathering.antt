-- SPDX-License-Identifier: MIT
-- The steps of gathering the repeated pairs, over plain variables. Assumes nothing.
use mathlib.Core.Path.{◌≡◌, refl, sym, ◌∙◌, ap, ap₂, subst}
use mathlib.Core.Bool.{Bool, true, false, ◌&&◌}
use mathlib.Core.List.{List, [], ◌∷◌, ◌++◌, append_assoc}
use Prim.Native.Nat.{ℕ, zero, suc, ◌+◌, ◌*◌, ◌^◌, ◌-◌, ◌<◌, ◌≤◌}
use native.Mathlib.Nat.{sub-zero}
use native.Mathlib.Omega.{arith}
use lib.Dec.{eqb, ltb}
use lib.ListN.{length, get_or, take, drop, set, length-drop, length-append, take-append-drop}
use lib.Seq.{take-suc, set_at, take-take, drop-drop, length-take-le}
use borrow.Author.Tests.{lt-ltb, le-ltb, eq-eqb, ne_eqb, ltb-true, ltb-false, eqb-true, eqb-false}
use borrow.Rule.Slice.PartMut.{put_mid}
use Rattle.octets.specs.Octets.{number, pick}
use Rattle.octets.proofs.Laws.{number-add, part-rest}
use Rattle.std.proofs.Common.{Ordering, Less, Equal, Greater, nat_cmp}
use Rattle.std.specs.Ordering.{ordering_then, ordering_index}
use Rattle.std.specs.List.Sorted.{IsNonDecreasingBy, IsPartitionPoint}
use Rattle.std.proofs.lemmas.Cmp.{ranked}
use Rattle.std.proofs.lemmas.Bool.Decides.{nat_tests}
use Rattle.std.proofs.lemmas.List.{take_at, drop_at, drop-take, length-map, map-append}
use Rattle.answers.proofs.Basics.{Two, yes', no', two}
use Rattle.pair_log.specs.Pairs.{record_size, pairs, among, inserted, repeated, Above, Rising}
use Rattle.pair_log.specs.declared.pair.Pair.{Pair}
use Rattle.pair_log.specs.Inner.Listed.{pair, value, listed}
use Rattle.pair_log.proofs.Repeats.{repeated-half, repeated-rising}

-- ---- pairs

pub pair_eq : (k c k2 c2 : ℕ) → c < 2 ^ 64 → c2 < 2 ^ 64 → (eqb k k2 && eqb c c2) ≡ eqb (pair k c) (pair k2 c2)
pair_eq k c k2 c2 h l = by (two (eqb k k2)) (two (eqb c c2))
  where
    by : Two (eqb k k2) → Two (eqb c c2) → (eqb k k2 && eqb c c2) ≡ eqb (pair k c) (pair k2 c2)
    by (yes' a) (yes' b) = rw (a, b) (sym (eq-eqb (pair k c) (pair k2 c2) (ap₂ pair (eqb-true k k2 a) (eqb-true c c2 b))))
    by (yes' a) (no' b) = rw (a, b) (sym (ne_eqb (pair k c) (pair k2 c2) (λ e. eqb-false c c2 b (omega (arith, e, eqb-true k k2 a)))))
    by (no' a) b = rw a (sym (ne_eqb (pair k c) (pair k2 c2) (λ e. eqb-false k k2 a (omega (arith, e)))))

-- whether a record's pair is another, of which its number is known
pub same_pair : (p q : Pair) (n : ℕ) (r : Bool) → r ≡ (eqb p.kid q.kid && eqb p.ctr q.ctr) → value p ≡ n → r ≡ eqb n (value q)
same_pair p q n r e f = e ∙ pair_eq p.kid p.ctr q.kid q.ctr p.fits q.fits ∙ ap (λ (v : ℕ). eqb v (value q)) f

-- ---- records

-- a record's number is its pair
pub record_is : (l : List ℕ) (k c : ℕ) → k ≡ number 8 l → c ≡ number 8 (take (length l - 8) (drop 8 l)) → number record_size l ≡ pair k c
record_is l k c p q = number-add 8 8 l ∙ rw (p, q, part-rest 8 l)

pub pairs-length : (n : ℕ) (log : List ℕ) → length (pairs n log) ≡ n
unfolding pairs
pairs-length zero log = refl
pairs-length (suc n) log = ap suc (pairs-length n (drop record_size log))

-- what is left of the records after the first i
abbrev left-from : (n i : ℕ) (log : List ℕ) → List ℕ
left-from n i log = pairs (n - i) (drop (record_size * i) log)

pub pairs-rest : (n i : ℕ) (log : List ℕ) → i < n → left-from n i log ≡ number record_size (drop (record_size * i) log) ∷ left-from n (i + 1) log
unfolding pairs
pairs-rest n i log h =
    let e : n - i ≡ suc (n - (i + 1)) = omega arith in
    let f : record_size * i + record_size ≡ record_size * (i + 1) = omega arith in
    rw e (ap (λ (t : List ℕ). number record_size (drop (record_size * i) log) ∷ pairs (n - (i + 1)) t) (drop-drop record_size (record_size * i) log ∙ ap (λ (k : ℕ). drop k log) f))

-- ---- the search for a pair

abbrev pub Searching : (v : ℕ) (log : List ℕ) (n i : ℕ) → Type 0
Searching v log n i = (i ≤ n) × (among v (pairs n log) ≡ among v (left-from n i log))

pub search-starts : (v : ℕ) (log : List ℕ) (n : ℕ) → Searching v log n 0
search-starts v log n = (omega arith, rw sub-zero)

module _ (v : ℕ) (log : List ℕ) (n i : ℕ) (s : Searching v log n i) where
  module _ (h : i < n) (r : Bool) (e : r ≡ eqb (number record_size (take (length log - record_size * i) (drop (record_size * i) log))) v) where
    searched : among v (pairs n log) ≡ pick r true (among v (left-from n (i + 1) log))
    unfolding among
    searched = s.1 ∙ ap (among v) (pairs-rest n i log h) ∙ rw (e, part-rest (record_size * i) log)

    pub search-finds : r ≡ true → true ≡ among v (pairs n log)
    search-finds t = sym (searched ∙ rw t)

    pub search-goes-on : r ≡ false → Searching v log n (i + 1)
    search-goes-on t = (omega arith, searched ∙ rw t)

  pub search-ends : n ≤ i → false ≡ among v (pairs n log)
  unfolding among pairs
  search-ends h =
      let z : n - i ≡ 0 = omega arith in
      sym (s.1 ∙ rw z)

-- ---- a pair among those that are listed

-- the order of pairs is that of their numbers
abbrev pub pair_cmp : (p q : Pair) → Ordering
pair_cmp p q = ordering_then (nat_cmp p.kid q.kid) (nat_cmp p.ctr q.ctr)

cmp_below : (a b : ℕ) → a < b → nat_cmp a b ≡ Less
cmp_below a b h = rw (lt-ltb a b h)

cmp_same : (a b : ℕ) → a ≡ b → nat_cmp a b ≡ Equal
cmp_same a b e = rw (le-ltb a b (omega arith), eq-eqb a b e)

cmp_above : (a b : ℕ) → b < a → nat_cmp a b ≡ Greater
cmp_above a b h = rw (le-ltb a b (omega arith), ne_eqb a b (λ e. omega (arith, e, h)))

cmp_value : (p q : Pair) → pair_cmp p q ≡ nat_cmp (value p) (value q)
cmp_value p q = by (two (ltb p.kid q.kid)) (two (eqb p.kid q.kid)) (two (ltb p.ctr q.ctr)) (two (eqb p.ctr q.ctr))
  where
    by : Two (ltb p.kid q.kid) → Two (eqb p.kid q.kid) → Two (ltb p.ctr q.ctr) → Two (eqb p.ctr q.ctr) → pair_cmp p q ≡ nat_cmp (value p) (value q)
    by (yes' a) b c d =
        let h = ltb-true p.kid q.kid a in
        let f = p.fits in
        rw a (sym (cmp_below (value p) (value q) (omega (arith, h, f))))
    by (no' a) (yes' b) (yes' c) d =
        let h = eqb-true p.kid q.kid b in
        let k = ltb-true p.ctr q.ctr c in
        rw (a, b, c) (sym (cmp_below (value p) (value q) (omega (arith, h, k))))
    by (no' a) (yes' b) (no' c) (yes' d) =
        let h = eqb-true p.kid q.kid b in
        let k = eqb-true p.ctr q.ctr d in
        rw (a, b, c, d) (sym (cmp_same (value p) (value q) (omega (arith, h, k))))
    by (no' a) (yes' b) (no' c) (no' d) =
        let h = eqb-true p.kid q.kid b in
        let k = ltb-false p.ctr q.ctr c in
        let n = eqb-false p.ctr q.ctr d in
        let m : q.ctr < p.ctr = omega (arith, k, n) in
        rw (a, b, c, d) (sym (cmp_above (value p) (value q) (omega (arith, h, m))))
    by (no' a) (no' b) c d =
        let h = ltb-false p.kid q.kid a in
        let n = eqb-false p.kid q.kid b in
        let m : q.kid < p.kid = omega (arith, h, n) in
        let f = q.fits in
        rw (a, b) (sym (cmp_above (value p) (value q) (omega (arith, m, f))))

index_rises : (a b v : ℕ) → a ≤ b → ordering_index (nat_cmp a v) ≤ ordering_index (nat_cmp b v)
index_rises a b v h = grind (arith, nat_tests)

value_at : (ps : List Pair) (k : ℕ) (d : Pair) → k < length ps → get_or (listed ps) k 0 ≡ value (get_or ps k d)
value_at [] k d h = absurd (omega arith)
value_at (p ∷ ps) zero d h = refl
value_at (p ∷ ps) (suc k) d h = value_at ps k d (omega arith)

-- v stands between the lower ones and the higher ones
pub inserted_at : (v i : ℕ) (l : List ℕ) → i ≤ length l → ((k : ℕ) → k < i → get_or l k 0 < v) → ((k : ℕ) → i ≤ k → k < length l → v < get_or l k 0) → inserted v l ≡ take i l ++ (v ∷ drop i l)
unfolding inserted
inserted_at v zero [] h b a = refl
inserted_at v zero (w ∷ ws) h b a = rw (lt-ltb v w (a 0 (omega arith) (omega arith)))
inserted_at v (suc i) [] h b a = absurd (omega arith)
inserted_at v (suc i) (w ∷ ws) h b a =
    let k : w < v = b 0 (omega arith) in
    rw (le-ltb v w (omega (arith, k)), ne_eqb w v (λ e. omega (arith, k, e)))
    (ap (λ (t : List ℕ). w ∷ t) (inserted_at v i ws (omega arith) (λ j q. b (suc j) (omega arith)) (λ j q r. a (suc j) (omega arith) (omega arith))))

-- the first of a rising list is below each other one
rising_below : (w : ℕ) (l : List ℕ) (i : ℕ) → Above w l → Rising l → i < length l → w < get_or l i 0
rising_below w [] i a r h = absurd (omega arith)
rising_below w (x ∷ l) zero a r h = a
rising_below w (x ∷ l) (suc i) a r h =
    let k : x < get_or l i 0 = rising_below x l i r.0 r.1 (omega arith) in
    omega (arith, a, k)

-- v stands there already
pub inserted_there : (v i : ℕ) (l : List ℕ) → Rising l → i < length l → get_or l i 0 ≡ v → inserted v l ≡ l
unfolding inserted
inserted_there v i [] r h e = absurd (omega arith)
inserted_there v zero (w ∷ ws) r h e = rw (le-ltb v w (omega (arith, e)), eq-eqb w v e)
inserted_there v (suc i) (w ∷ ws) r h e =
    let k : w < get_or ws i 0 = rising_below w ws i r.0 r.1 (omega arith) in
    rw (le-ltb v w (omega (arith, k, e)), ne_eqb w v (λ q. omega (arith, k, e, q))) (ap (λ (t : List ℕ). w ∷ t) (inserted_there v i ws r.1 (omega arith) e))

pub rising-order : (l : List ℕ) → Rising l → (i j : ℕ) → i ≤ j → j < length l → get_or l i 0 ≤ get_or l j 0
rising-order [] r i j h k = absurd (omega arith)
rising-order (w ∷ ws) r zero zero h k = omega arith
rising-order (w ∷ ws) r zero (suc j) h k = let b = rising_below w ws j r.0 r.1 (omega arith) in omega (arith, b)
rising-order (w ∷ ws) r (suc i) zero h k = absurd (omega arith)
rising-order (w ∷ ws) r (suc i) (suc j) h k = rising-order ws r.1 i j (omega arith) (omega arith)

-- the search finds the pair q
pub insert_old : (ps : List Pair) (q : Pair) (i : ℕ) → Rising (listed ps) → i < length ps → ((d : Pair) → pair_cmp (get_or ps i d) q ≡ Equal) → listed ps ≡ inserted (value q) (listed ps)
insert_old ps q i r h e =
    let c : nat_cmp (value (get_or ps i q)) (value q) ≡ Equal = sym (cmp_value (get_or ps i q) q) ∙ e q in
    let f : value (get_or ps i q) ≡ value q = ranked (value (get_or ps i q)) (value q) Equal (sym c) in
    sym (inserted_there (value q) i (listed ps) r (simp length-map (omega arith)) (value_at ps i q h ∙ f))

-- or it finds the place of q, where the pairs rise
module _ (ps : List Pair) (q : Pair) (i : ℕ) (r : Rising (listed ps)) (h : i ≤ length ps)
    (e : IsNonDecreasingBy (λ (p : Pair). ordering_index (pair_cmp p q)) ps → IsPartitionPoint (λ (p : Pair). pair_cmp p q ≡ Less) (λ (p : Pair). pair_cmp p q ≡ Greater) ps i) where
  rises : IsNonDecreasingBy (λ (p : Pair). ordering_index (pair_cmp p q)) ps
  rises j k d m n =
      let o : get_or (listed ps) j 0 ≤ get_or (listed ps) k 0 = rising-order (listed ps) r j k m (simp length-map (omega arith)) in
      let a = value_at ps j d (omega arith) in
      let b = value_at ps k d n in
      rw (cmp_value (get_or ps j d) q, cmp_value (get_or ps k d) q) (index_rises (value (get_or ps j d)) (value (get_or ps k d)) (value q) (omega (arith, o, a, b)))

  pub placed : inserted (value q) (listed ps) ≡ take i (listed ps) ++ (value q ∷ drop i (listed ps))
  placed =
      let f = e rises in
      let low : (k : ℕ) → k < i → get_or (listed ps) k 0 < value q =
      λ k m. (let c = sym (cmp_value (get_or ps k q) q) ∙ f.0 k q (omega arith) m in
      let o : value (get_or ps k q) < value q = ranked (value (get_or ps k q)) (value q) Less (sym c) in
      let a = value_at ps k q (omega arith) in omega (arith, o, a)) in
      let high : (k : ℕ) → i ≤ k → k < length (listed ps) → value q < get_or (listed ps) k 0 =
      λ k m n. (let s : k < length ps = simp length-map at n in
      let c = sym (cmp_value (get_or ps k q) q) ∙ f.1 k q m s in
      let o : value q < value (get_or ps k q) = ranked (value (get_or ps k q)) (value q) Greater (sym c) in
      let a = value_at ps k q s in omega (arith, o, a)) in
      inserted_at (value q) i (listed ps) (simp length-map (omega arith)) low high

-- the first n, of which those from i on went one place up and q came before them
module _ (all : List Pair) (n : ℕ) (q : Pair) (i : ℕ) (m : n < length all) (h : i ≤ n) (r : List Pair)
    (e : r ≡ drop (length (take (n + 1 - i) (drop i all)) - 1) (take (n + 1 - i) (drop i all)) ++ take (length (take (n + 1 - i) (drop i all)) - 1) (take (n + 1 - i) (drop i all))) where
  parted : listed (take (n + 1) (set (put_mid i (n + 1 - i) all r) i q)) ≡ take i (listed (take n all)) ++ (value q ∷ drop i (listed (take n all)))
  parted =
      let s = n + 1 - i in
      let k = n - i in
      let a = take i all in
      let b = take k (drop i all) in
      let x = get_or (drop i all) k q in
      let t = drop s (drop i all) in
      let z : s ≡ suc k = omega arith in
      let ld : k < length (drop i all) = simp length-drop (omega arith) in
      let la : length a ≡ i = length-take-le i all (omega arith) in
      let lb : length b ≡ k = length-take-le k (drop i all) (omega arith) in
      let part : take s (drop i all) ≡ b ++ (x ∷ []) = ap (λ (j : ℕ). take j (drop i all)) z ∙ take-suc (drop i all) k q ld in
      let lp : length (take s (drop i all)) - 1 ≡ k = ap (λ (l : List Pair). length l - 1) part ∙ simp length-append (omega (arith, lb)) in
      let f : r ≡ x ∷ b = e ∙ rw lp (ap₂ (λ (u v : List Pair). u ++ v) (ap (drop k) part ∙ drop_at b (x ∷ []) k lb) (ap (take k) part ∙ take_at b (x ∷ []) k lb)) in
      let g : set (put_mid i s all r) i q ≡ a ++ (q ∷ (b ++ t)) = ap (λ (l : List Pair). set (a ++ (l ++ t)) i q) f ∙ set_at a x (b ++ t) q i la in
      let w : a ++ (q ∷ (b ++ t)) ≡ (a ++ (q ∷ b)) ++ t = sym (append_assoc a (q ∷ b) t) in
      let lw : length (a ++ (q ∷ b)) ≡ n + 1 = length-append a (q ∷ b) ∙ omega (arith, la, lb) in
      let u : take (n + 1) (set (put_mid i s all r) i q) ≡ a ++ (q ∷ b) = ap (take (n + 1)) (g ∙ w) ∙ take_at (a ++ (q ∷ b)) t (n + 1) lw in
      let j : i + k ≡ n = omega arith in
      let c : take n all ≡ a ++ b = sym (take-append-drop i (take n all)) ∙ ap₂ (λ (u v : List Pair). u ++ v) (take-take i n all h) (ap (λ (y : ℕ). drop i (take y all)) (sym j) ∙ drop-take i k all) in
      let l : listed (take n all) ≡ listed a ++ listed b = ap listed c ∙ map-append value a b in
      let li : length (listed a) ≡ i = simp length-map la in
      ap listed u ∙ map-append value a (q ∷ b)
      ∙ sym (ap₂ (λ (u v : List ℕ). u ++ (value q ∷ v)) (ap (take i) l ∙ take_at (listed a) (listed b) i li) (ap (drop i) l ∙ drop_at (listed a) (listed b) i li))

  pub insert_new : Rising (listed (take n all)) → (IsNonDecreasingBy (λ (p : Pair). ordering_index (pair_cmp p q)) (take n all) → IsPartitionPoint (λ (p : Pair). pair_cmp p q ≡ Less) (λ (p : Pair). pair_cmp p q ≡ Greater) (take n all) i)
      → listed (take (n + 1) (set (put_mid i (n + 1 - i) all r) i q)) ≡ inserted (value q) (listed (take n all))
  insert_new o f = parted ∙ sym (placed (take n all) q i o (omega (arith, length-take-le n all (omega arith))) f)

pub listed_size : (ps : List Pair) (i : ℕ) → i ≤ length ps → length (listed (take i ps)) ≡ i
listed_size ps i h = simp length-map (length-take-le i ps h)

-- ---- the walk through the log, from its end

abbrev pub Gathered : (log : List ℕ) (n found left : ℕ) (ps : List Pair) → Type 0
Gathered log n found left ps = (left ≤ n) × (found ≤ length ps) × (listed (take found ps) ≡ repeated (left-from n left log))

pub gather-starts : (log : List ℕ) (n : ℕ) (ps : List Pair) → Gathered log n 0 n ps
unfolding repeated pairs
gather-starts log n ps =
    let z : n - n ≡ 0 = omega arith in
    (omega arith, omega arith, rw z)

-- at most half of what was walked is listed
pub gather-room : (log : List ℕ) (n found left : ℕ) (ps : List Pair) → Gathered log n found left ps → found + found ≤ n - left
gather-room log n found left ps g =
    let e : found ≡ length (repeated (left-from n left log)) = sym (listed_size ps found g.1) ∙ ap length g.2 in
    let h = repeated-half (left-from n left log) in
    let l = pairs-length (n - left) (drop (record_size * left) log) in
    omega (arith, e, h, l)

-- so one more has its place where there is room for half of all
pub gather-fits : (log : List ℕ) (n found left : ℕ) (ps : List Pair) → Gathered log n found left ps → 0 < left → n ≤ length ps + length ps → found < length ps
gather-fits log n found left ps g h k =
    let r = gather-room log n found left ps g in
    omega (arith, r, h, k, g.0)

pub gather-rises : (log : List ℕ) (n found left : ℕ) (ps : List Pair) → Gathered log n found left ps → Rising (listed (take found ps))
gather-rises log n found left ps g = subst Rising (sym g.2) (repeated-rising (left-from n left log))

-- the walk goes one record down, to the pair q at the front of a part; t is whether it stands behind it
module _ (log : List ℕ) (n found left : ℕ) (ps : List Pair) (g : Gathered log n found left ps) (h : 0 < left) (part : List ℕ)
    (w : part ≡ take (length log - record_size * (left - 1)) (drop (record_size * (left - 1)) log)) (q : Pair) (p : value q ≡ number record_size part)
    (t : Bool) (e : t ≡ among (value q) (pairs (n - (left - 1) - 1) (take (length part - record_size) (drop record_size part)))) where
  part-is : part ≡ drop (record_size * (left - 1)) log
  part-is = w ∙ part-rest (record_size * (left - 1)) log

  at-record : number record_size (drop (record_size * (left - 1)) log) ≡ value q
  at-record = ap (number record_size) (sym part-is) ∙ sym p

  unrolled : left-from n (left - 1) log ≡ value q ∷ left-from n left log
  unrolled =
      let f : left - 1 + 1 ≡ left = omega arith in
      pairs-rest n (left - 1) log (omega (arith, g.0)) ∙ rw (at-record, f)

  behind : t ≡ among (value q) (left-from n left log)
  behind =
      let f : n - (left - 1) - 1 ≡ n - left = omega (arith, g.0) in
      let d : record_size * (left - 1) + record_size ≡ record_size * left = omega arith in
      e ∙ rw (f, part-rest record_size part, part-is, drop-drop record_size (record_size * (left - 1)) log, d)

  pub gather-inserts : t ≡ true → (r : ℕ) (ps2 : List Pair) → length ps2 ≡ length ps → found < length ps → (listed (take r ps2) ≡ inserted (value q) (listed (take found ps))) × (r ≤ found + 1) → Gathered log n r (left - 1) ps2
  unfolding repeated
  gather-inserts s r ps2 z m w = (omega (arith, g.0), omega (arith, z, m, w.1), w.0 ∙ ap (inserted (value q)) g.2 ∙ sym (ap repeated unrolled ∙ rw (sym behind ∙ s)))

  pub gather-passes : t ≡ false → Gathered log n found (left - 1) ps
  unfolding repeated
  gather-passes s = (omega (arith, g.0), g.1, g.2 ∙ sym (ap repeated unrolled ∙ rw (sym behind ∙ s)))

pub gather-ends : (log : List ℕ) (n found left : ℕ) (ps : List Pair) → Gathered log n found left ps → left ≤ 0 → listed (take found ps) ≡ repeated (pairs n log)
gather-ends log n found left ps g h =
    let z : left ≡ 0 = omega arith in
    g.2 ∙ ap (λ (i : ℕ). repeated (left-from n i log)) z ∙ ap (λ (i : ℕ). repeated (pairs i log)) (sub-zero n)

-- SPDX-License-Identifier: MIT
-- The listed pairs are exactly the repeated ones, in rising order. Assumes nothing.
use mathlib.Core.Path.{◌≡◌, refl, sym, ◌∙◌, ap}
use mathlib.Core.Bool.{true, false}
use mathlib.Core.List.{List, [], ◌∷◌}
use Prim.Native.Nat.{ℕ, suc, ◌+◌, ◌<◌, ◌≤◌}
use native.Mathlib.Omega.{arith}
use lib.Dec.{eqb, ltb, leb}
use lib.ListN.{length}
use borrow.Author.Tests.{eq-eqb, eqb-true, eqb-false, le-leb, lt-leb, leb-true, leb-false}
use Rattle.octets.specs.Octets.{pick}
use Rattle.answers.proofs.Basics.{Two, yes', no', two}
use Rattle.pair_log.specs.Pairs.{times, among, inserted, repeated, Above, Rising}

-- what stands in a list after an insertion
among-inserted : (x v : ℕ) (l : List ℕ) → among x (inserted v l) ≡ pick (eqb v x) true (among x l)
unfolding among inserted
among-inserted x v [] = refl
among-inserted x v (w ∷ ws) = by (two (ltb v w)) (two (eqb w v)) (two (eqb v x)) (two (eqb w x)) (among-inserted x v ws)
  where
    by : Two (ltb v w) → Two (eqb w v) → Two (eqb v x) → Two (eqb w x) → among x (inserted v ws) ≡ pick (eqb v x) true (among x ws)
        → among x (inserted v (w ∷ ws)) ≡ pick (eqb v x) true (among x (w ∷ ws))
    by (yes' a) b c d e = rw a
    by (no' a) (yes' b) (yes' c) d e = rw (a, b, c, eq-eqb w x (eqb-true w v b ∙ eqb-true v x c))
    by (no' a) (yes' b) (no' c) d e = rw (a, b, c)
    by (no' a) (no' b) (yes' c) (yes' d) e = rw (a, b, c, d)
    by (no' a) (no' b) (yes' c) (no' d) e = rw (a, b, d, e, c)
    by (no' a) (no' b) (no' c) (yes' d) e = rw (a, b, c, d)
    by (no' a) (no' b) (no' c) (no' d) e = rw (a, b, d, e, c)

among-times : (x : ℕ) (l : List ℕ) → among x l ≡ leb 1 (times x l)
unfolding among times
among-times x [] = refl
among-times x (w ∷ ws) = by (two (eqb w x)) (among-times x ws)
  where
    by : Two (eqb w x) → among x ws ≡ leb 1 (times x ws) → among x (w ∷ ws) ≡ leb 1 (times x (w ∷ ws))
    by (yes' a) e = rw a (sym (le-leb 1 (suc (times x ws)) (omega arith)))
    by (no' a) e = rw a e

leb-suc : (n : ℕ) → leb 1 n ≡ leb 2 (suc n)
leb-suc n = by (two (leb 1 n))
  where
    by : Two (leb 1 n) → leb 1 n ≡ leb 2 (suc n)
    by (yes' t) = t ∙ sym (le-leb 2 (suc n) (omega (arith, leb-true 1 n t)))
    by (no' t) = t ∙ sym (lt-leb 2 (suc n) (omega (arith, leb-false 1 n t)))

-- exactly the pairs that stand in the log twice or more
pub repeated-exactly : (x : ℕ) (l : List ℕ) → among x (repeated l) ≡ leb 2 (times x l)
unfolding among times repeated
repeated-exactly x [] = refl
repeated-exactly x (v ∷ vs) = by (two (among v vs)) (two (eqb v x)) (repeated-exactly x vs)
  where
    none : among v vs ≡ false → v ≡ x → times x vs < 1
    none a e = leb-false 1 (times x vs) (sym (among-times x vs) ∙ ap (λ (k : ℕ). among k vs) (sym e) ∙ a)

    by : Two (among v vs) → Two (eqb v x) → among x (repeated vs) ≡ leb 2 (times x vs) → among x (repeated (v ∷ vs)) ≡ leb 2 (times x (v ∷ vs))
    by (yes' a) (yes' b) e =
        rw (a, b, among-inserted x v (repeated vs)) (rw b (sym (sym (leb-suc (times x vs)) ∙ sym (among-times x vs) ∙ ap (λ (k : ℕ). among k vs) (sym (eqb-true v x b)) ∙ a)))
    by (yes' a) (no' b) e = rw (a, b, among-inserted x v (repeated vs)) (rw b e)
    by (no' a) (yes' b) e =
        let n = none a (eqb-true v x b) in
        rw (a, b) (e ∙ lt-leb 2 (times x vs) (omega (arith, n)) ∙ sym (lt-leb 2 (suc (times x vs)) (omega (arith, n))))
    by (no' a) (no' b) e = rw (a, b) e

-- rising
above-inserted : (u v : ℕ) (l : List ℕ) → u < v → Above u l → Above u (inserted v l)
unfolding inserted
above-inserted u v [] h a = h
above-inserted u v (w ∷ ws) h a = by (two (ltb v w)) (two (eqb w v))
  where
    by : Two (ltb v w) → Two (eqb w v) → Above u (inserted v (w ∷ ws))
    by (yes' t) s = rw t h
    by (no' t) (yes' s) = rw (t, s) a
    by (no' t) (no' s) = rw (t, s) a

inserted_rising : (v : ℕ) (l : List ℕ) → Rising l → Rising (inserted v l)
unfolding inserted
inserted_rising v [] r = (tt, tt)
inserted_rising v (w ∷ ws) r = by (two (ltb v w)) (two (eqb w v)) (inserted_rising v ws r.1)
  where
    by : Two (ltb v w) → Two (eqb w v) → Rising (inserted v ws) → Rising (inserted v (w ∷ ws))
    by (yes' t) s i = rw t (leb-true (suc v) w t, r)
    by (no' t) (yes' s) i = rw (t, s) r
    by (no' t) (no' s) i = rw (t, s) (above-inserted w v ws (omega (arith, leb-false (suc v) w t, eqb-false w v s)) r.0, i)

pub repeated-rising : (l : List ℕ) → Rising (repeated l)
unfolding repeated
repeated-rising [] = tt
repeated-rising (v ∷ vs) = by (two (among v vs)) (repeated-rising vs)
  where
    by : Two (among v vs) → Rising (repeated vs) → Rising (repeated (v ∷ vs))
    by (yes' t) r = rw t (inserted_rising v (repeated vs) r)
    by (no' t) r = rw t r

-- ---- where each stands once

abbrev pub Distinct : List ℕ → Type 0
Distinct [] = Unit {0}
Distinct (v ∷ vs) = (among v vs ≡ false) × Distinct vs

pub repeated-none : (l : List ℕ) → Distinct l → repeated l ≡ []
unfolding repeated
repeated-none [] d = refl
repeated-none (v ∷ vs) d = rw d.0 (repeated-none vs d.1)

-- ---- at most half as many are listed as there are

-- the list without v
unfoldable without : ℕ → List ℕ → List ℕ
without v [] = []
without v (w ∷ ws) = pick (eqb w v) (without v ws) (w ∷ without v ws)

without-length : (v : ℕ) (l : List ℕ) → length (without v l) + times v l ≡ length l
unfolding without times
without-length v [] = refl
without-length v (w ∷ ws) = by (two (eqb w v)) (without-length v ws)
  where
    by : Two (eqb w v) → length (without v ws) + times v ws ≡ length ws → length (without v (w ∷ ws)) + times v (w ∷ ws) ≡ length (w ∷ ws)
    by (yes' t) e = rw t (omega arith)
    by (no' t) e = rw t (omega arith)

without-times : (v x : ℕ) (l : List ℕ) → (x ≡ v → ⊥) → times x (without v l) ≡ times x l
unfolding without times
without-times v x [] d = refl
without-times v x (w ∷ ws) d = by (two (eqb w v)) (two (eqb w x)) (without-times v x ws d)
  where
    by : Two (eqb w v) → Two (eqb w x) → times x (without v ws) ≡ times x ws → times x (without v (w ∷ ws)) ≡ times x (w ∷ ws)
    by (yes' t) (yes' s) e = absurd (d (sym (eqb-true w x s) ∙ eqb-true w v t))
    by (yes' t) (no' s) e = rw (t, s) e
    by (no' t) (yes' s) e = rw (t, s, e)
    by (no' t) (no' s) e = rw (t, s) e

-- each of a list stands at least twice in another
abbrev Twice : List ℕ → List ℕ → Type 0
Twice [] l = Unit {0}
Twice (v ∷ vs) l = (2 ≤ times v l) × Twice vs l

-- a number below every one of a rising list is none of them
twice-without : (v : ℕ) (vs l : List ℕ) → Above v vs → Rising vs → Twice vs l → Twice vs (without v l)
twice-without v [] l a r t = tt
twice-without v (w ∷ ws) l a r t =
    let e = without-times v w l (λ q. omega (arith, a, q)) in
    (omega (arith, e, t.0), twice-without v ws l (above-next v w ws a r.0) r.1 t.1)
  where
    above-next : (v w : ℕ) (ws : List ℕ) → v < w → Above w ws → Above v ws
    above-next v w [] h k = tt
    above-next v w (x ∷ xs) h k = omega arith

twice_half : (vs l : List ℕ) → Rising vs → Twice vs l → length vs + length vs ≤ length l
twice_half [] l r t = omega arith
twice_half (v ∷ vs) l r t =
    let h = twice_half vs (without v l) r.1 (twice-without v vs l r.0 r.1 t.1) in
    let e = without-length v l in
    omega (arith, h, e, t.0)

-- all of a list stand among it, so each that is listed stands twice
all-twice : (vs l : List ℕ) → ((x : ℕ) → among x vs ≡ true → 2 ≤ times x l) → Twice vs l
unfolding among
all-twice [] l f = tt
all-twice (v ∷ vs) l f = (f v (rw (eq-eqb v v refl)), all-twice vs l (λ x e. f x (rest x (two (eqb v x)) e)))
  where
    rest : (x : ℕ) → Two (eqb v x) → among x vs ≡ true → pick (eqb v x) true (among x vs) ≡ true
    rest x (yes' t) e = rw t
    rest x (no' t) e = rw t e

pub repeated-half : (l : List ℕ) → length (repeated l) + length (repeated l) ≤ length l
repeated-half l = twice_half (repeated l) l (repeated-rising l) (all-twice (repeated l) l (λ x e. leb-true 2 (times x l) (sym (repeated-exactly x l) ∙ e)))

-- SPDX-License-Identifier: MIT
-- The steps of the code, over plain variables. Assumes nothing.
use Rattle.std.specs.Prelude.{Some, None}
use mathlib.Core.Path.{◌≡◌, refl, sym, ◌∙◌, ap}
use mathlib.Core.Bool.{true}
use mathlib.Core.List.{List, [], ◌++◌, append-nil}
use Prim.Native.Nat.{ℕ, zero, suc, ◌+◌, ◌*◌, ◌%◌, ◌^◌, ◌-◌, ◌<◌, ◌≤◌}
use native.Mathlib.Nat.{sub-zero, mod-eq_of_lt, one-mul, lt_of_le_of_lt, le-add_right}
use native.Mathlib.Numerals.{add-one}
use native.Mathlib.Omega.{arith}
use lib.Dec.{leb}
use lib.ListN.{length, take, drop, drop_of_length-le}
use lib.Pow.{pow-lt, pow_pos}
use lib.Seq.{take_at, length-take-le}
use borrow.Author.Tests.{le-leb, lt-leb, lt-ltb, le-ltb, leb-true, ltb-false, not-false}
use Rattle.octets.specs.Octets.{both}
use Rattle.header.specs.Answers.{room_short}
use Rattle.answers.specs.Answers.{done, suite_unknown, base_key_size, ratchet_kid_invalid, steps_too_many, first, Outcome, settled}
use Rattle.answers.specs.Limits.{base_key_least, base_key_most}
use Rattle.answers.proofs.Basics.{settled-refused, settled-done, passes, both_true}
use Rattle.suites.specs.Suites.{suite_of, Nh}
use Rattle.suites.specs.declared.sizes.Suite.{Suite}
use Rattle.ratchet.specs.Ratchet.{next_key, walked, ratchet_kid}
use Rattle.ratchet.specs.Calls.{max_steps, max_bits, walk_causes, walk_with, walk, kid_causes, kid_number, kid_given}
use Rattle.ratchet.specs.Inner.Sizes.{walked_size}
use Rattle.suites.proofs.Laws.{Nh-most}
use Rattle.ratchet.proofs.Laws.{next-length, walked-length, size-accepted, kid-fits, kid-past}

-- ---- the walk

-- i steps have been taken, one at least, and o is the key
abbrev pub Walking : (s : Suite) (base : List ℕ) (steps : ℕ) (o : List ℕ) (i : ℕ) → Type 0
Walking s base steps o i = (1 ≤ i) × (i ≤ steps) × (o ≡ walked s base i) × (length o ≡ Nh s) × (length o ≤ base_key_most)

stepped : (s : Suite) (k r : List ℕ) → r ≡ next_key s k → (length r ≡ Nh s) × (length r ≤ base_key_most)
stepped s k r e = let l : length r ≡ Nh s = ap length e ∙ next-length s k in (l, omega (arith, Nh-most s))

some-step : (steps : ℕ) → (steps ≡ 0 → ⊥) → 1 ≤ steps
some-step zero d = absurd (d refl)
some-step (suc n) d = omega arith

-- the first step, one more, and the last
pub walk-starts : (s : Suite) (base r : List ℕ) (steps : ℕ) → (steps ≡ 0 → ⊥) → r ≡ next_key s base → Walking s base steps r 1
unfolding walked
walk-starts s base r steps d e = let l = stepped s base r e in (omega arith, some-step steps d, e, l.0, l.1)

pub walk-goes-on : (s : Suite) (base o r : List ℕ) (steps i : ℕ) → Walking s base steps o i → i < steps → r ≡ next_key s o → Walking s base steps r (i + 1)
unfolding walked
walk-goes-on s base o r steps i w h e =
    let l = stepped s o r e in
    let x : r ≡ walked s base (i + 1) = rw add-one (e ∙ ap (next_key s) w.2) in
    (omega arith, omega arith, x, l.0, l.1)

pub walk_ends : (s : Suite) (base o : List ℕ) (steps i : ℕ) → Walking s base steps o i → steps ≤ i → o ≡ walked s base steps
walk_ends s base o steps i w h =
    let q : i ≡ steps = omega (arith, w.1) in
    w.2 ∙ ap (walked s base) q

-- the length of a key after no step, and after some
pub size_none : (s : Suite) (base steps : ℕ) → steps ≡ 0 → walked_size s base steps ≡ base
size_none s base steps e = rw e

pub size-some : (s : Suite) (base steps : ℕ) → (steps ≡ 0 → ⊥) → walked_size s base steps ≡ Nh s
size-some s base zero d = absurd (d refl)
size-some s base (suc n) d = refl

-- no step, into a room of the base key's length
pub walked_none : (s : Suite) (base o r : List ℕ) (steps : ℕ) → steps ≡ 0 → length o ≡ walked_size s (length base) steps → r ≡ base ++ drop (length base) o → r ≡ walked s base steps
unfolding walked
walked_none s base o r steps e h q =
    let l : length o ≤ length base = omega (arith, size_none s (length base) steps e) in
    rw e (q ∙ ap (λ (t : List ℕ). base ++ t) (drop_of_length-le o l) ∙ append-nil base)

-- a step from a copy of the key
pub step-made : (s : Suite) (k z b r : List ℕ) (n : ℕ) → n ≡ length k → b ≡ k ++ drop (length k) z → r ≡ next_key s (take (n - 0) b) → r ≡ next_key s k
step-made s k z b r n e w q = q ∙ ap (next_key s) (rw (sub-zero, w) (take_at k (drop (length k) z) n (sym e)))

-- ---- judging

module _ (base steps key room : ℕ) where
  pub judge-short : base < base_key_least → base_key_size ≡ first (walk_causes true base steps key room)
  unfolding walk_causes first
  judge-short h = rw (lt-leb base_key_least base h)

  module _ (h : base_key_least ≤ base) where
    pub judge-long : base_key_most < base → base_key_size ≡ first (walk_causes true base steps key room)
    unfolding walk_causes first
    judge-long k = rw (le-leb base_key_least base h, lt-leb base base_key_most k)

    module _ (k : base ≤ base_key_most) where
      pub judge-steps : max_steps < steps → steps_too_many ≡ first (walk_causes true base steps key room)
      unfolding walk_causes first
      judge-steps t = rw (le-leb base_key_least base h, le-leb base base_key_most k, lt-ltb max_steps steps t)

      module _ (t : steps ≤ max_steps) where
        pub judge-room : room < key → room_short ≡ first (walk_causes true base steps key room)
        unfolding walk_causes first
        judge-room u = rw (le-leb base_key_least base h, le-leb base base_key_most k, le-ltb max_steps steps t, lt-ltb room key u)

        pub judge-done : key ≤ room → done ≡ first (walk_causes true base steps key room)
        unfolding walk_causes first
        judge-done u = rw (le-leb base_key_least base h, le-leb base base_key_most k, le-ltb max_steps steps t, le-ltb room key u)

-- what a walk that is judged with 0 has
pub judged : (base steps key room k : ℕ) → k ≡ first (walk_causes true base steps key room) → k ≡ 0 → (base_key_least ≤ base) × (base ≤ base_key_most) × (key ≤ room)
unfolding walk_causes
judged base steps key room k q z =
    let p = passes (walk_causes true base steps key room) refl (sym q ∙ z) in
    let b = both_true (leb base_key_least base) (leb base base_key_most) (not-false (both (leb base_key_least base) (leb base base_key_most)) p.1.0) in
    (leb-true base_key_least base b.0, leb-true base base_key_most b.1, ltb-false room key p.1.1.1.0)

-- then the steps have what they require
pub steps-fit : (s : Suite) (base room : List ℕ) (steps n k : ℕ) → n ≡ walked_size s (length base) steps → k ≡ first (walk_causes true (length base) steps n (length room)) → k ≡ 0
    → (length base ≤ base_key_most) × (length (take (n - 0) room) ≡ walked_size s (length base) steps) × (length (take (n - 0) room) ≤ base_key_most)
steps-fit s base room steps n k w q z =
    let j = judged (length base) steps n (length room) k q z in
    let l : length (take (n - 0) room) ≡ n = rw sub-zero (length-take-le n room j.2) in
    (j.1, l ∙ w, omega (arith, (size-accepted s (length base) steps j.0 j.1).1))

-- what is written to a lent front part
pub front-walked : (l p x : List ℕ) (n : ℕ) → p ≡ x → p ++ drop (n - 0) l ≡ x ++ drop n l
front-walked l p x n e = rw (sub-zero, e)

-- ---- the outcome of a walk

-- what a walk answers, and what it leaves in the room
abbrev Answers : (number length : ℕ) (room : List ℕ) (o : Outcome) → Type 0
Answers number length room o = ((number ≡ o.number) × (length ≡ o.written)) × (room ≡ o.room)

pub walk-unknown : (suite : ℕ) (base : List ℕ) (steps : ℕ) (room : List ℕ) → suite_of suite ≡ None → Answers suite_unknown 0 room (walk suite base steps room)
unfolding walk walk_with walk_causes first settled
walk-unknown suite base steps room e = ((rw e, rw e), rw e)

abbrev walk-success : (key room : List ℕ) → Outcome
walk-success key room = record { number = 0; written = length key; store = []; room = key ++ drop (length key) room; state = [] }

-- s is the suite, n the length of the key after the steps and k the number that the walk was judged with
module _ (suite : ℕ) (base : List ℕ) (steps : ℕ) (room : List ℕ) (s : Suite) (e : suite_of suite ≡ Some s) (n k : ℕ) (w : n ≡ walked_size s (length base) steps)
    (q : k ≡ first (walk_causes true (length base) steps n (length room))) where
  size_is : n ≡ length (walked s base steps)
  size_is = w ∙ sym (walked-length s base steps)

  outcome-is : walk suite base steps room ≡ settled k [] room (walk-success (walked s base steps) room)
  unfolding walk walk_with
  outcome-is =
      let f : first (walk_causes true (length base) steps (length (walked s base steps)) (length room)) ≡ k =
      ap (λ (m : ℕ). first (walk_causes true (length base) steps m (length room))) (sym size_is) ∙ sym q in
      rw (e, f)

  pub walk_refused : (k ≡ 0 → ⊥) → Answers k 0 room (walk suite base steps room)
  walk_refused d =
      let r = settled-refused k [] room (walk-success (walked s base steps) room) d in
      rw outcome-is ((sym r.number_is, sym r.nothing_written), sym r.room-stays)

  pub walk-done : (r : List ℕ) → k ≡ 0 → r ≡ walked s base steps ++ drop n room → Answers done n r (walk suite base steps room)
  walk-done r z x =
      let o : walk suite base steps room ≡ walk-success (walked s base steps) room = outcome-is ∙ settled-done k [] room (walk-success (walked s base steps) room) z in
      rw o ((refl, size_is), x ∙ ap (λ (m : ℕ). walked s base steps ++ drop m room) size_is)

-- ---- the KID

pub window-some : (w bits : ℕ) → w ≡ 2 ^ bits → 0 < w
window-some w bits e = rw e (pow_pos bits)

-- a power of two that fits
pub power-is : (n : ℕ) → n < 64 → (1 * 2 ^ n) % 2 ^ 64 ≡ 2 ^ n
power-is n h = rw one-mul (mod-eq_of_lt (pow-lt h))

abbrev Made : (number kid generation step bits : ℕ) → Type 0
Made number kid generation step bits = (number ≡ kid_number generation step bits) × (kid ≡ kid_given generation step bits)

module _ (generation step bits : ℕ) where
  pub kid-no-bits : bits < 1 → Made ratchet_kid_invalid 0 generation step bits
  unfolding kid_given kid_number kid_causes first
  kid-no-bits h = let b = lt-leb 1 bits h in (rw b, rw b)

  module _ (h : 1 ≤ bits) where
    pub kid-many-bits : max_bits < bits → Made ratchet_kid_invalid 0 generation step bits
    unfolding kid_given kid_number kid_causes first
    kid-many-bits k =
        let b = le-leb 1 bits h in
        let c = lt-leb bits max_bits k in
        (rw (b, c), rw (b, c))

    module _ (k : bits ≤ max_bits) (p : ℕ) (e : p ≡ 2 ^ (64 - bits)) where
      pub kid-too-long : p ≤ generation → Made ratchet_kid_invalid 0 generation step bits
      unfolding kid_given kid_number kid_causes first
      kid-too-long g =
          let b = le-leb 1 bits h in
          let c = le-leb bits max_bits k in
          let d = le-leb (2 ^ 64) (ratchet_kid generation step bits) (kid-past generation step bits (omega arith) (rw e at g)) in
          (rw (b, c, d), rw (b, c, d))

      module _ (g : generation < p) (w : ℕ) (f : w ≡ 2 ^ bits) where
        below : ratchet_kid generation step bits < 2 ^ 64
        below = kid-fits generation step bits (omega arith) (rw e at g)

        pub kid-value : generation * w + step % w ≡ ratchet_kid generation step bits
        unfolding ratchet_kid
        kid-value = rw f

        pub kid-sum : generation * w + step % w < 2 ^ 64
        kid-sum = rw kid-value below

        pub kid-product : generation * w < 2 ^ 64
        kid-product = lt_of_le_of_lt (le-add_right (generation * w) (step % w)) kid-sum

        pub kid-made : Made done (generation * w + step % w) generation step bits
        unfolding kid_given kid_number kid_causes first
        kid-made =
            let b = le-leb 1 bits h in
            let c = le-leb bits max_bits k in
            let d = lt-leb (2 ^ 64) (ratchet_kid generation step bits) below in
            (rw (b, c, d), kid-value ∙ rw (b, c, d))

-- SPDX-License-Identifier: MIT
-- Tests, and the first cause that applies. Assumes nothing.
use mathlib.Core.Path.{◌≡◌, refl, sym, ◌∙◌, ap}
use mathlib.Core.Bool.{Bool, true, false, not, false≢true}
use mathlib.Core.List.{List, [], ◌∷◌}
use Prim.Native.Nat.{ℕ, zero, suc}
use native.Mathlib.Omega.{arith}
use lib.Dec.{ltb}
use borrow.Author.Tests.{not-true, not-false}
use Rattle.octets.specs.Octets.{both}
use Rattle.answers.specs.Answers.{Cause, first, Outcome, settled_on, settled}

-- the two outcomes of a test
pub data Two (b : Bool) : Type 0 where
  yes' : b ≡ true → Two b
  no' : b ≡ false → Two b

pub two : (b : Bool) → Two b
two true = yes' refl
two false = no' refl

pub both_true : (a b : Bool) → both a b ≡ true → (a ≡ true) × (b ≡ true)
both_true true b e = (refl, e)
both_true false b e = (e, absurd (false≢true e))

pub both-and : (a b : Bool) → a ≡ true → b ≡ true → both a b ≡ true
both-and a b p q = rw p q

-- ---- causes

-- no cause applies
abbrev pub Pass : List Cause → Type 0
Pass [] = Unit {0}
Pass (c ∷ cs) = (c.applies ≡ false) × Pass cs

-- every cause's number is above 0
abbrev pub numbered : List Cause → Bool
numbered [] = true
numbered (c ∷ cs) = both (ltb 0 c.number) (numbered cs)

above_zero : (n : ℕ) → ltb 0 n ≡ true → n ≡ 0 → ⊥
above_zero n a b = false≢true (rw b at a)

pub passes : (cs : List Cause) → numbered cs ≡ true → first cs ≡ 0 → Pass cs
unfolding first
passes [] p e = tt
passes (c ∷ cs) p e = by (two c.applies) (λ f. passes cs q.1 f)
  where
    q : (ltb 0 c.number ≡ true) × (numbered cs ≡ true)
    q = both_true (ltb 0 c.number) (numbered cs) p

    by : Two c.applies → (first cs ≡ 0 → Pass cs) → (c.applies ≡ false) × Pass cs
    by (yes' t) r = absurd (above_zero c.number q.0 (rw t at e))
    by (no' t) r = (t, r (rw t at e))

pub none-applies : (cs : List Cause) → Pass cs → first cs ≡ 0
unfolding first
none-applies [] p = refl
none-applies (c ∷ cs) p = rw p.0 (none-applies cs p.1)

-- ---- outcomes

-- what a refused call answers and leaves
pub record RefusalOn (n : ℕ) (s room state : List ℕ) (o : Outcome) : Type 0 where
  pub number_is : o.number ≡ n
  pub nothing_written : o.written ≡ 0
  pub store-stays : o.store ≡ s
  pub room-stays : o.room ≡ room
  pub state-stays : o.state ≡ state

pub settled-on-refused : (n : ℕ) (s room state : List ℕ) (o : Outcome) → (n ≡ 0 → ⊥) → RefusalOn n s room state (settled_on n s room state o)
settled-on-refused zero s room state o d = absurd (d refl)
settled-on-refused (suc n) s room state o d = record { number_is = refl; nothing_written = refl; store-stays = refl; room-stays = refl; state-stays = refl }

pub settled-on-number : (n : ℕ) (s room state : List ℕ) (o : Outcome) → o.number ≡ 0 → (settled_on n s room state o).number ≡ n
settled-on-number zero s room state o e = e
settled-on-number (suc n) s room state o e = refl

pub settled-on-store : (n : ℕ) (s room state : List ℕ) (o : Outcome) → o.store ≡ s → (settled_on n s room state o).store ≡ s
settled-on-store zero s room state o e = e
settled-on-store (suc n) s room state o e = refl

-- the same without a running state
abbrev pub Refusal : (n : ℕ) (s room : List ℕ) (o : Outcome) → Type 0
Refusal n s room o = RefusalOn n s room [] o

pub settled-done : (n : ℕ) (s room : List ℕ) (o : Outcome) → n ≡ 0 → settled n s room o ≡ o
unfolding settled
settled-done n s room o e = rw e

pub settled-refused : (n : ℕ) (s room : List ℕ) (o : Outcome) → (n ≡ 0 → ⊥) → Refusal n s room (settled n s room o)
unfolding settled
settled-refused n s room o d = settled-on-refused n s room [] o d

-- a settled call answers its number, where its success answers 0
pub settled-number : (n : ℕ) (s room : List ℕ) (o : Outcome) → o.number ≡ 0 → (settled n s room o).number ≡ n
unfolding settled
settled-number n s room o e = settled-on-number n s room [] o e

-- where success leaves the store as it was, the call does
pub settled-store : (n : ℕ) (s room : List ℕ) (o : Outcome) → o.store ≡ s → (settled n s room o).store ≡ s
unfolding settled
settled-store n s room o e = settled-on-store n s room [] o e

-- what a call answers, and what it leaves in store and room
abbrev pub Leaves : Outcome → ℕ → ℕ → List ℕ → List ℕ → Type 0
Leaves o number written store room = ((number ≡ o.number) × (written ≡ o.written)) × ((store ≡ o.store) × (room ≡ o.room))

pub leaves : (o p : Outcome) → o ≡ p → Leaves o p.number p.written p.store p.room
leaves o p e = ((sym (ap (λ (x : Outcome). x.number) e), sym (ap (λ (x : Outcome). x.written) e)), (sym (ap (λ (x : Outcome). x.store) e), sym (ap (λ (x : Outcome). x.room) e)))

-- a call is refused for the first cause that applies, or none applies and it succeeds
pub data SettledOn (cs : List Cause) (s room state : List ℕ) (o out : Outcome) : Type 0 where
  success : Pass cs → out ≡ o → SettledOn cs s room state o out
  refusal : (first cs ≡ 0 → ⊥) → RefusalOn (first cs) s room state out → SettledOn cs s room state o out

pub settle-on : (cs : List Cause) (s room state : List ℕ) (o : Outcome) → numbered cs ≡ true → SettledOn cs s room state o (settled_on (first cs) s room state o)
settle-on cs s room state o p = by (first cs) refl
  where
    by : (n : ℕ) → first cs ≡ n → SettledOn cs s room state o (settled_on (first cs) s room state o)
    by zero e = success (passes cs p e) (ap (λ (n : ℕ). settled_on n s room state o) e)
    by (suc n) e = let d : (first cs ≡ 0 → ⊥) = λ z. omega arith in refusal d (settled-on-refused (first cs) s room state o d)

abbrev pub Settled : (cs : List Cause) (s room : List ℕ) (o out : Outcome) → Type 0
Settled cs s room o out = SettledOn cs s room [] o out

pub settle : (cs : List Cause) (s room : List ℕ) (o : Outcome) → numbered cs ≡ true → Settled cs s room o (settled (first cs) s room o)
unfolding settled
settle cs s room o p = settle-on cs s room [] o p

-- ---- tests in code

-- what a test that answered r says, where it is asked for its opposite
pub told-false : (r f : Bool) → r ≡ f → not r ≡ true → f ≡ false
told-false r f e t = sym e ∙ not-true r t

pub told-true : (r f : Bool) → r ≡ f → not r ≡ false → f ≡ true
told-true r f e t = sym e ∙ not-false r t

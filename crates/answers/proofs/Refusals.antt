-- SPDX-License-Identifier: MIT
-- Refusals, and what `ok_or` and `?` make of them. Assumes nothing.
use mathlib.Core.Path.{◌≡◌, refl, sym, ◌∙◌, ap}
use Prim.Native.Nat.{ℕ}
use native.Mathlib.Omega.{arith}
use Rattle.std.specs.Prelude.{Option, Some, None, Result, Ok, Err}
use Rattle.std.specs.Option.{ok_or}
use Rattle.std.specs.Result.{IsErrAnd}
use Rattle.answers.specs.declared.Refusal.{Refusal}
use Rattle.answers.specs.declared.Refusal.TheVariants.{StoreInvalid, SuiteUnknown, BaseKeySize, KidHeld, StoreFull, KidMissing, RoleRefused, CounterSpent, InputTooLong, HeaderInvalid, FrameShort, RoomShort, TagDiffers, AlreadyOpened, CounterTooOld, StateMismatch, SendingBarred, RatchetKidInvalid, StepsTooMany, GroupPartTooLarge, GroupKidTooLong, PairNotAbove, ObjectTooLarge}
use Rattle.answers.specs.Refusals.{refusal_number, number_of, written_of}

-- no refusal has the number 0
pub refusal-some : (r : Refusal) → refusal_number r ≡ 0 → ⊥
refusal-some StoreInvalid e = omega arith
refusal-some SuiteUnknown e = omega arith
refusal-some BaseKeySize e = omega arith
refusal-some KidHeld e = omega arith
refusal-some StoreFull e = omega arith
refusal-some KidMissing e = omega arith
refusal-some RoleRefused e = omega arith
refusal-some CounterSpent e = omega arith
refusal-some InputTooLong e = omega arith
refusal-some HeaderInvalid e = omega arith
refusal-some FrameShort e = omega arith
refusal-some RoomShort e = omega arith
refusal-some TagDiffers e = omega arith
refusal-some AlreadyOpened e = omega arith
refusal-some CounterTooOld e = omega arith
refusal-some StateMismatch e = omega arith
refusal-some SendingBarred e = omega arith
refusal-some RatchetKidInvalid e = omega arith
refusal-some StepsTooMany e = omega arith
refusal-some GroupPartTooLarge e = omega arith
refusal-some GroupKidTooLong e = omega arith
refusal-some PairNotAbove e = omega arith
refusal-some ObjectTooLarge e = omega arith

module _ {A : Type 0} (a : Result A Refusal) where
  -- a refused call has a number above 0, and a call that is done has 0
  pub refused-some : (y : Refusal) → a ≡ Err y → number_of a ≡ 0 → ⊥
  refused-some y e z = refusal-some y (sym (ap (λ (x : Result A Refusal). number_of x) e) ∙ z)

  pub done-number : (x : A) → a ≡ Ok x → number_of a ≡ 0
  done-number x e = ap (λ (x : Result A Refusal). number_of x) e

  -- what `?` hands on has the number of what it met, and nothing is written
  pub handed-on : {B : Type 0} (b : Result B Refusal) (y : Refusal) → a ≡ Err y → IsErrAnd b (λ x. x ≡ y) → number_of b ≡ number_of a
  handed-on (Ok v) y e h = absurd h
  handed-on (Err x) y e h = ap refusal_number h ∙ sym (ap (λ (x : Result A Refusal). number_of x) e)

  -- what `ok_or` gives tells what it was asked of
  module _ (o : Option A) (r : Refusal) (is : a ≡ ok_or o r) where
    pub given : (x : A) → a ≡ Ok x → o ≡ Some x
    given x e = by o (sym is ∙ e)
      where
        by : (o : Option A) → ok_or o r ≡ Ok x → o ≡ Some x
        by None q = let z : ◌≡◌ {A = ℕ} 0 1 = cc in absurd (omega arith)
        by (Some v) q = let w : v ≡ x = cc in ap Some w

    pub missing : (y : Refusal) → a ≡ Err y → o ≡ None
    missing y e = by o (sym is ∙ e)
      where
        by : (o : Option A) → ok_or o r ≡ Err y → o ≡ None
        by None q = refl
        by (Some v) q = let z : ◌≡◌ {A = ℕ} 0 1 = cc in absurd (omega arith)

    pub missing-number : {B : Type 0} (b : Result B Refusal) (y : Refusal) → a ≡ Err y → IsErrAnd b (λ x. x ≡ y) → number_of b ≡ refusal_number r
    missing-number b y e h = handed-on b y e h ∙ ap (λ (x : Result A Refusal). number_of x) (is ∙ ap (λ (o : Option A). ok_or o r) (missing y e))

pub nothing-written : (b : Result ℕ Refusal) (y : Refusal) → IsErrAnd b (λ x. x ≡ y) → written_of b ≡ 0
nothing-written (Ok v) y h = absurd h
nothing-written (Err x) y h = refl

-- and what a call says of its own
pub none-written : (a : Result ℕ Refusal) (y : Refusal) → a ≡ Err y → written_of a ≡ 0
none-written a y e = ap written_of e

pub all-written : (a : Result ℕ Refusal) (n : ℕ) → a ≡ Ok n → written_of a ≡ n
all-written a n e = ap written_of e

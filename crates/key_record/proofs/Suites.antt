-- SPDX-License-Identifier: MIT
-- The suites by number. Assumes nothing.
use Rattle.std.specs.Prelude.{Option, Some, None}
use Rattle.std.specs.Option.{is_some}
use mathlib.Core.Path.{◌≡◌, refl, sym, ◌∙◌}
use mathlib.Core.Bool.{Bool, true, false, false≢true}
use Prim.Native.Nat.{ℕ, ◌<◌, ◌≤◌}
use native.Mathlib.Omega.{arith}
use Rattle.suites.specs.Suites.{suite_of, Nk, Nt}
use Rattle.suites.specs.declared.sizes.Suite.{Suite}
use Rattle.suites.proofs.Laws.{Nk-most, number_is, number-byte}
use Rattle.key_record.specs.Layout.{key_room}
use Rattle.key_record.specs.Suites.{with_suite, is_suite, key_size, tag_size}

-- The suite of a number that is a suite's.
pub record Named (n : ℕ) : Type 0 where
  pub suite : Suite
  pub found : suite_of n ≡ Some suite

pub named : (n : ℕ) → is_suite n ≡ true → Named n
unfolding is_suite
named n e = by (suite_of n) refl e
  where
    by : (f : Option Suite) → suite_of n ≡ f → with_suite false (λ s. true) f ≡ true → Named n
    by (Some s) q t = record { suite = s; found = q }
    by None q t = absurd (false≢true t)

pub suite-named : (n : ℕ) (s : Suite) → suite_of n ≡ Some s → is_suite n ≡ true
unfolding is_suite
suite-named n s e = rw e

pub suite-unnamed : (n : ℕ) → suite_of n ≡ None → is_suite n ≡ false
unfolding is_suite
suite-unnamed n e = rw e

pub suite-known : (n : ℕ) (f : Option Suite) (r : Bool) → f ≡ suite_of n → r ≡ is_some f → r ≡ is_suite n
unfolding is_suite
suite-known n f r e q = q ∙ by f e
  where
    by : (g : Option Suite) → g ≡ suite_of n → is_some g ≡ with_suite false (λ s. true) (suite_of n)
    by None w = rw (sym w)
    by (Some s) w = rw (sym w)

pub key-named : (n : ℕ) (s : Suite) → suite_of n ≡ Some s → key_size n ≡ Nk s
unfolding key_size
key-named n s e = rw e

pub tag-named : (n : ℕ) (s : Suite) → suite_of n ≡ Some s → tag_size n ≡ Nt s
unfolding tag_size
tag-named n s e = rw e

pub suite-byte : (n : ℕ) → is_suite n ≡ true → n < 256
suite-byte n e = let m = named n e in rw (number_is n m.suite m.found) (number-byte m.suite)

pub key-size : (n : ℕ) → key_size n ≤ key_room
unfolding key_size
key-size n = by (suite_of n)
  where
    by : (f : Option Suite) → with_suite 0 Nk f ≤ key_room
    by (Some s) = Nk-most s
    by None = omega arith

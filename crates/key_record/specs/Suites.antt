-- SPDX-License-Identifier: MIT
-- The cipher suites of RFC 9605, section 4.5, by number, as the store knows them: all of it is read off the table in
-- crates/suites/specs/Suites.antt. Assumes nothing.
use Rattle.std.specs.Prelude.{Option, Some, None, Bool, true, false, ℕ}
use Rattle.suites.specs.Suites.{suite_of, Nk, Nt, Nn}
use Rattle.suites.specs.declared.sizes.Suite.{Suite}

-- A function of the suite that was found, or something else where there is none.
abbrev pub with_suite : {A : Type 0} → A → (Suite → A) → Option Suite → A
with_suite none f (Some s) = f s
with_suite none f None = none

-- The number is a suite's.
unfoldable pub is_suite : ℕ → Bool
is_suite n = with_suite false (λ s. true) (suite_of n)

-- Nk and Nt of the suite of a number; 0 where there is none.
unfoldable pub key_size : ℕ → ℕ
key_size n = with_suite 0 Nk (suite_of n)

unfoldable pub tag_size : ℕ → ℕ
tag_size n = with_suite 0 Nt (suite_of n)

-- Nn, the same for every suite.
abbrev pub salt_size : ℕ
salt_size = Nn

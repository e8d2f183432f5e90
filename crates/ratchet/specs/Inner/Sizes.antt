-- SPDX-License-Identifier: MIT
-- Inner: the length of a key after so many steps. Assumes nothing.
use Rattle.std.specs.Prelude.{ℕ, zero, suc}
use Rattle.suites.specs.Suites.{Nh}
use Rattle.suites.specs.declared.sizes.Suite.{Suite}

abbrev pub walked_size : (s : Suite) (base steps : ℕ) → ℕ
walked_size s base zero = base
walked_size s base (suc n) = Nh s

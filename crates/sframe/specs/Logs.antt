-- SPDX-License-Identifier: MIT
-- A log of sealings: of each, one record of its KID and counter. Assumes nothing.
use Rattle.std.specs.Prelude.{◌≡◌, List, [], ◌∷◌, ◌++◌, ℕ}
use Rattle.octets.specs.Octets.{bytes}
use Rattle.sframe.specs.History.{Sealing, Event, added, sealed, opened, other}
use Rattle.sframe.specs.Promises.{kid_of, ctr_of}

-- The sealings among the events.
unfoldable pub sealings : List Event → List Sealing
sealings [] = []
sealings (added a ∷ log) = sealings log
sealings (sealed x ∷ log) = x ∷ sealings log
sealings (opened x ∷ log) = sealings log
sealings (other ∷ log) = sealings log

-- x is taken from a list, and Next holds of what is left.
pub record TakenFirst (all : List Sealing) (x : Sealing) (Next : List Sealing → Type 0) : Type 0 where
  pub before : List Sealing
  pub after : List Sealing
  pub is-there : all ≡ before ++ (x ∷ after)
  pub next : Next (before ++ after)

-- Some of a list, each taken once, in any order.
abbrev pub Taken : (all chosen : List Sealing) → Type 0
Taken all [] = Unit {0}
Taken all (x ∷ xs) = TakenFirst all x (λ (rest : List Sealing). Taken rest xs)

-- The log of sealings: KID and counter of each, 8 bytes big-endian.
unfoldable pub log_of : List Sealing → List ℕ
log_of [] = []
log_of (x ∷ xs) = bytes 8 (kid_of x) ++ (bytes 8 (ctr_of x) ++ log_of xs)

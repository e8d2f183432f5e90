-- SPDX-License-Identifier: MIT
-- The limits on the inputs. Assumes nothing.
use mathlib.Core.Path.{◌≡◌}
use mathlib.Core.Bool.{true, false}
use Prim.Native.Nat.{ℕ, ◌<◌, ◌≤◌}
use lib.Dec.{leb, ltb}
use borrow.Author.Tests.{leb-true, le-leb, lt-leb, ltb-true, ltb-false, not-false}
use Rattle.octets.specs.Octets.{both}
use Rattle.answers.specs.Limits.{max_plaintext, max_metadata, too_long}
use Rattle.answers.proofs.Basics.{Two, yes', no', two, both_true}

pub long-plaintext : (p m : ℕ) → max_plaintext < p → true ≡ too_long p m
unfolding too_long
long-plaintext p m h = rw (lt-leb p max_plaintext h)

pub long-metadata : (p m : ℕ) → p ≤ max_plaintext → ltb max_metadata m ≡ too_long p m
unfolding too_long
long-metadata p m h = by (two (ltb max_metadata m))
  where
    by : Two (ltb max_metadata m) → ltb max_metadata m ≡ too_long p m
    by (yes' t) = rw (le-leb p max_plaintext h, t, lt-leb m max_metadata (ltb-true max_metadata m t))
    by (no' t) = rw (le-leb p max_plaintext h, t, le-leb m max_metadata (ltb-false max_metadata m t))

pub not-long : (p m : ℕ) → too_long p m ≡ false → (p ≤ max_plaintext) × (m ≤ max_metadata)
unfolding too_long
not-long p m e =
    let t = both_true (leb p max_plaintext) (leb m max_metadata) (not-false (both (leb p max_plaintext) (leb m max_metadata)) e) in
    (leb-true p max_plaintext t.0, leb-true m max_metadata t.1)

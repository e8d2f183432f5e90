-- SPDX-License-Identifier: MIT
-- Laws of rows whose lanes change places.
-- Assumes nothing.
use mathlib.Core.Path.{◌≡◌}
use mathlib.Core.Logic.{◌⊎◌, inl, inr, ⊎_elim}
use Prim.Native.Nat.{ℕ, zero, suc, ◌+◌, ◌*◌, ◌-◌, ◌/◌, ◌%◌, ◌^◌, ◌≤◌, ◌<◌}
use native.Mathlib.Omega.{arith}
use lib.Bits.{bit_or}
use Rattle.bitslice.specs.Lanes.{lane, byte_of}
use Rattle.bitslice.proofs.Shifts.{from-above, from-below}

pub le-or-lt : (a b : ℕ) → (a ≤ b) ⊎ (b < a)
le-or-lt zero b = inl (omega arith)
le-or-lt (suc a) zero = inr (omega arith)
le-or-lt (suc a) (suc b) = ⊎_elim (λ p. inl (omega arith)) (λ q. inr (omega arith)) (le-or-lt a b)

pub lane-turned : (n w j : ℕ) → w < 2 ^ 64 → n < 64 → j < 64
    → lane j (bit_or (w / 2 ^ n) (w * 2 ^ (64 - n) % 2 ^ 64)) ≡ lane ((n + j) % 64) w
lane-turned n w j h l k = go (le-or-lt (64 - n) j)
  where
    go : (64 - n ≤ j) ⊎ (j < 64 - n) → lane j (bit_or (w / 2 ^ n) (w * 2 ^ (64 - n) % 2 ^ 64)) ≡ lane ((n + j) % 64) w
    go (inr g) = let e : (n + j) % 64 ≡ n + j = omega arith in rw e (from-above n w j h l g)
    go (inl g) = let e : (n + j) % 64 ≡ j - (64 - n) = omega arith in rw e (from-below n w j h l k g)

-- Eight planes at once, each bit from the same place.
pub lanes-moved : (j m a7 a6 a5 a4 a3 a2 a1 a0 b7 b6 b5 b4 b3 b2 b1 b0 : ℕ) (e7 : lane j b7 ≡ lane m a7) (e6 : lane j b6 ≡ lane m a6) (e5 : lane j b5 ≡ lane m a5) (e4 : lane j b4 ≡ lane m a4) (e3 : lane j b3 ≡ lane m a3) (e2 : lane j b2 ≡ lane m a2) (e1 : lane j b1 ≡ lane m a1) (e0 : lane j b0 ≡ lane m a0) → byte_of (lane j b7) (lane j b6) (lane j b5) (lane j b4) (lane j b3) (lane j b2) (lane j b1) (lane j b0) ≡ byte_of (lane m a7) (lane m a6) (lane m a5) (lane m a4) (lane m a3) (lane m a2) (lane m a1) (lane m a0)
lanes-moved j m a7 a6 a5 a4 a3 a2 a1 a0 b7 b6 b5 b4 b3 b2 b1 b0 e7 e6 e5 e4 e3 e2 e1 e0 = rw (e7, e6, e5, e4, e3, e2, e1, e0)

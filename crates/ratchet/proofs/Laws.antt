-- SPDX-License-Identifier: MIT
-- Laws of the ratchet. Assumes nothing.
use mathlib.Core.Path.{◌≡◌, refl, sym, ◌∙◌, ap}
use mathlib.Core.List.{List}
use Prim.Native.Nat.{ℕ, zero, suc, ◌+◌, ◌*◌, ◌/◌, ◌%◌, ◌^◌, ◌-◌, ◌<◌, ◌≤◌}
use native.Mathlib.Nat.{add-zero, add-suc, mod-lt, mul-le-mul_right}
use native.Mathlib.Omega.{arith}
use lib.ListN.{length}
use lib.Pow.{pow-add, pow_pos, high, low}
use Rattle.octets.specs.Octets.{Octets}
use Rattle.answers.specs.Limits.{base_key_least, base_key_most}
use Rattle.suites.specs.Derivation.{secret}
use Rattle.suites.specs.Suites.{Nh}
use Rattle.suites.specs.declared.sizes.Suite.{Suite}
use Rattle.suites.proofs.Laws.{Nh-least, Nh-most, expanded-length, expanded-octets}
use Rattle.ratchet.specs.Ratchet.{ratchet_text, next_key, walked, ratchet_kid}
use Rattle.ratchet.specs.Inner.Sizes.{walked_size}

-- ---- the walk

pub next-length : (s : Suite) (base : List ℕ) → length (next_key s base) ≡ Nh s
unfolding next_key
next-length s base = expanded-length s (secret s base) ratchet_text (Nh s)

next-octets : (s : Suite) (base : List ℕ) → Octets (next_key s base)
unfolding next_key
next-octets s base = expanded-octets s (secret s base) ratchet_text (Nh s)

pub walked-length : (s : Suite) (base : List ℕ) (n : ℕ) → length (walked s base n) ≡ walked_size s (length base) n
unfolding walked
walked-length s base zero = refl
walked-length s base (suc n) = next-length s (walked s base n)

-- a walked key is bytes
pub walked-octets : (s : Suite) (base : List ℕ) (n : ℕ) → Octets base → Octets (walked s base n)
unfolding walked
walked-octets s base zero o = o
walked-octets s base (suc n) o = next-octets s (walked s base n)

pub size-accepted : (s : Suite) (base n : ℕ) → base_key_least ≤ base → base ≤ base_key_most → (base_key_least ≤ walked_size s base n) × (walked_size s base n ≤ base_key_most)
size-accepted s base zero h k = (h, k)
size-accepted s base (suc n) h k = (Nh-least s, Nh-most s)

-- the length of a walked key is one that Add accepts
pub walked-accepted : (s : Suite) (base : List ℕ) (n : ℕ) → base_key_least ≤ length base → length base ≤ base_key_most
    → (base_key_least ≤ length (walked s base n)) × (length (walked s base n) ≤ base_key_most)
walked-accepted s base n h k = rw (walked-length s base n) (size-accepted s (length base) n h k)

-- m steps and then n are m + n
pub walked-add : (s : Suite) (base : List ℕ) (m n : ℕ) → walked s base (m + n) ≡ walked s (walked s base m) n
unfolding walked
walked-add s base m zero = ap (walked s base) (add-zero m)
walked-add s base m (suc n) = ap (walked s base) (add-suc m n) ∙ ap (next_key s) (walked-add s base m n)

-- ---- the KID

step-below : (step bits : ℕ) → step % 2 ^ bits < 2 ^ bits
step-below step bits = mod-lt step (pow_pos bits)

-- the low R bits are the step's, and the rest is the generation
pub kid-step : (generation step bits : ℕ) → ratchet_kid generation step bits % 2 ^ bits ≡ step % 2 ^ bits
unfolding ratchet_kid
kid-step generation step bits = low generation bits (step-below step bits)

pub kid-generation : (generation step bits : ℕ) → ratchet_kid generation step bits / 2 ^ bits ≡ generation
unfolding ratchet_kid
kid-generation generation step bits = high generation bits (step-below step bits)

bits-split : (bits : ℕ) → bits ≤ 64 → 2 ^ (64 - bits) * 2 ^ bits ≡ 2 ^ 64
bits-split bits h =
    let e : 64 - bits + bits ≡ 64 = omega arith in
    sym (pow-add 2 (64 - bits) bits) ∙ ap (λ (n : ℕ). 2 ^ n) e

below_all : (generation step bits rest : ℕ) → 2 ^ rest * 2 ^ bits ≡ 2 ^ 64 → generation < 2 ^ rest → ratchet_kid generation step bits < 2 ^ 64
unfolding ratchet_kid
below_all generation step bits rest e h =
    let m : suc generation * 2 ^ bits ≤ 2 ^ rest * 2 ^ bits = mul-le-mul_right (2 ^ bits) h in
    omega (arith, step-below step bits)

above-all : (generation step bits rest : ℕ) → 2 ^ rest * 2 ^ bits ≡ 2 ^ 64 → 2 ^ rest ≤ generation → 2 ^ 64 ≤ ratchet_kid generation step bits
unfolding ratchet_kid
above-all generation step bits rest e h =
    let m : 2 ^ rest * 2 ^ bits ≤ generation * 2 ^ bits = mul-le-mul_right (2 ^ bits) h in
    omega arith

-- a KID fits in 64 bits exactly where the generation fits in 64 - R
pub kid-fits : (generation step bits : ℕ) → bits ≤ 64 → generation < 2 ^ (64 - bits) → ratchet_kid generation step bits < 2 ^ 64
kid-fits generation step bits h g = below_all generation step bits (64 - bits) (bits-split bits h) g

pub kid-past : (generation step bits : ℕ) → bits ≤ 64 → 2 ^ (64 - bits) ≤ generation → 2 ^ 64 ≤ ratchet_kid generation step bits
kid-past generation step bits h g = above-all generation step bits (64 - bits) (bits-split bits h) g

-- SPDX-License-Identifier: MIT
-- What the crates above cite of AES.
-- Assumes nothing.
use mathlib.Core.Path.{◌≡◌}
use mathlib.Core.List.{List, ◌++◌}
use mathlib.Core.Logic.{◌⊎◌, inl, inr}
use Prim.Native.Nat.{ℕ, zero, suc, ◌+◌, ◌*◌, ◌/◌, ◌%◌}
use native.Mathlib.Nat.{div-add-mod'}
use native.Mathlib.Omega.{arith}
use lib.ListN.{length, get_or, length-append}
use Rattle.octets.specs.Octets.{Octets, bytes}
use Rattle.octets.proofs.Laws.{bytes-length, bytes-octets, octets-append}
use Rattle.aes.specs.Aes.{KeySize, block_of, encrypt}

-- The two instances: AES-128 and AES-256.
pub aes-128 : KeySize 16
aes-128 = record { whole = omega arith; least = omega arith; most = omega arith }

pub aes-256 : KeySize 32
aes-256 = record { whole = omega arith; least = omega arith; most = omega arith }

-- A key of AES has 16, 24 or 32 bytes.
pub key-sizes : (n : ℕ) → KeySize n → (n ≡ 16) ⊎ ((n ≡ 24) ⊎ (n ≡ 32))
key-sizes n k = by (n / 8) (div-add-mod' n 8)
  where
    by : (q : ℕ) → q * 8 + n % 8 ≡ n → (n ≡ 16) ⊎ ((n ≡ 24) ⊎ (n ≡ 32))
    by zero e = absurd (omega (arith, k.whole, k.least, k.most))
    by (suc zero) e = absurd (omega (arith, k.whole, k.least, k.most))
    by (suc (suc zero)) e = inl (omega (arith, k.whole))
    by (suc (suc (suc zero))) e = inr (inl (omega (arith, k.whole)))
    by (suc (suc (suc (suc zero)))) e = inr (inr (omega (arith, k.whole)))
    by (suc (suc (suc (suc (suc q))))) e = absurd (omega (arith, k.whole, k.least, k.most))

-- A block is 16 bytes.
pub block-length : (s : List ℕ) → length (block_of s) ≡ 16
unfolding block_of
block-length s = simp (length-append, bytes-length)

pub block-octets : (s : List ℕ) → Octets (block_of s)
unfolding block_of
block-octets s =
    let a = bytes 4 (get_or s 0 0) in
    let b = bytes 4 (get_or s 1 0) in
    let c = bytes 4 (get_or s 2 0) in
    let d = bytes 4 (get_or s 3 0) in
    octets-append a (b ++ (c ++ d)) (bytes-octets 4 _)
    (octets-append b (c ++ d) (bytes-octets 4 _) (octets-append c d (bytes-octets 4 _) (bytes-octets 4 _)))

pub encrypt-length : (key block : List ℕ) → length (encrypt key block) ≡ 16
unfolding encrypt
encrypt-length key block = block-length _

pub encrypt-octets : (key block : List ℕ) → Octets (encrypt key block)
unfolding encrypt
encrypt-octets key block = block-octets _

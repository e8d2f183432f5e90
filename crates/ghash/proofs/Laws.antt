-- SPDX-License-Identifier: MIT
-- What the crates above cite of GHASH: the context of a hash key.
-- Assumes nothing.
use mathlib.Core.Path.{◌≡◌, sym, subst}
use mathlib.Core.List.{List}
use Prim.Native.Nat.{ℕ}
use Rattle.ghash.specs.Inner.HashKey.{HashKey, hash_key_of}

pub hash-key-of : {h : ℕ} {t : List ℕ} → HashKey h t → hash_key_of t ≡ h
hash-key-of k = k.key

pub hash-key-ready : {h : ℕ} {t : List ℕ} → HashKey h t → HashKey (hash_key_of t) t
hash-key-ready {h} {t} k = subst (λ (x : ℕ). HashKey x t) (sym (hash-key-of k)) k

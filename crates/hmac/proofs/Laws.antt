-- SPDX-License-Identifier: MIT
-- Laws of HMAC and HKDF over the hash. Assumes nothing.
use mathlib.Core.Path.{◌≡◌, refl, sym, ◌∙◌}
use mathlib.Core.List.{List, [], ◌∷◌, ◌++◌}
use Prim.Native.Nat.{ℕ, zero, suc, ◌+◌, ◌*◌, ◌/◌, ◌-◌, ◌<◌, ◌≤◌}
use native.Mathlib.Nat.{mul-zero, mul-suc, mul_comm, div-add-mod, mod-lt}
use native.Mathlib.Omega.{arith}
use borrow.Author.Tests.{le-leb, lt-leb}
use lib.ListN.{length, take, replicate, length-append}
use lib.Seq.{length-take-le}
use Rattle.octets.specs.Octets.{Octets, xors}
use Rattle.octets.proofs.Laws.{octets-append, octets-take}
use Rattle.sha2_common.specs.Sha2.{Params, hash}
use Rattle.sha2_common.proofs.Laws.{hash-length, hash-octets}
use Rattle.hmac.specs.Hmac.{shortened, extended, masked, hmac, ipad, opad}
use Rattle.hmac.specs.Hkdf.{hash_len, extract, T, blocks, expand}

-- blocks of h bytes, as many as l bytes need, hold them
enough : (h l : ℕ) → 0 < h → l ≤ h * ((l + (h - 1)) / h)
enough h l pos = omega (arith, div-add-mod (l + (h - 1)) h, mod-lt (l + (h - 1)) pos)

module _ (p : Params) where
  -- a key that fits a block, and one that does not
  pub shortened-fits : (k : List ℕ) → length k ≤ p.block → shortened p k ≡ k
  unfolding shortened
  shortened-fits k h = rw (le-leb _ _ h)

  pub shortened-long : (k : List ℕ) → p.block < length k → shortened p k ≡ hash p k
  unfolding shortened
  shortened-long k h = rw (lt-leb _ _ h)

  pub masked-of : (k b : List ℕ) (pad : ℕ) → b ≡ extended p k → xors b (replicate p.block pad) ≡ masked p pad k
  unfolding masked
  masked-of k b pad e = rw e

  -- the outer hash of the inner digest d
  pub hmac-of : (k m d r : List ℕ) → d ≡ hash p (masked p ipad k ++ m) → r ≡ hash p (masked p opad k ++ d) → r ≡ hmac p k m
  unfolding hmac
  hmac-of k m d r e f = rw (f, e)

  -- ---- HKDF

  pub extract-of : (salt ikm : List ℕ) → hmac p salt ikm ≡ extract p salt ikm
  unfolding extract
  extract-of salt ikm = refl

  pub T-suc : (k info : List ℕ) (i : ℕ) → T p k info (suc i) ≡ hmac p k (T p k info i ++ (info ++ (suc i ∷ [])))
  unfolding T
  T-suc k info i = refl

  pub blocks-suc : (k info : List ℕ) (i : ℕ) → blocks p k info (suc i) ≡ blocks p k info i ++ T p k info (suc i)
  unfolding blocks
  blocks-suc k info i = refl

  pub expand-of : (k info : List ℕ) (l i : ℕ) → i ≡ (l + (hash_len p - 1)) / hash_len p → take l (blocks p k info i) ≡ expand p k info l
  unfolding expand
  expand-of k info l i e = rw e

  -- ---- lengths and bytes, where a hash value is eight words

  pub hmac-length : length p.initial ≡ 8 → (k m : List ℕ) → length (hmac p k m) ≡ hash_len p
  unfolding hmac
  hmac-length e k m = hash-length p _ ∙ rw (e, mul_comm)

  pub hmac-octets : (k m : List ℕ) → Octets (hmac p k m)
  unfolding hmac
  hmac-octets k m = hash-octets p _

  blocks-length : length p.initial ≡ 8 → (k info : List ℕ) (n : ℕ) → length (blocks p k info n) ≡ hash_len p * n
  unfolding blocks T
  blocks-length e k info zero = sym (mul-zero (hash_len p))
  blocks-length e k info (suc n) = rw (length-append, blocks-length e k info n, hmac-length e k _, mul-suc)

  blocks-octets : (k info : List ℕ) (n : ℕ) → Octets (blocks p k info n)
  unfolding blocks T
  blocks-octets k info zero i = omega arith
  blocks-octets k info (suc n) i = octets-append (blocks p k info n) _ (blocks-octets k info n) (hmac-octets k _) i

  pub expand-length : length p.initial ≡ 8 → 0 < p.size → (k info : List ℕ) (l : ℕ) → length (expand p k info l) ≡ l
  unfolding expand
  expand-length e s k info l =
      let x : ℕ = l + (hash_len p - 1) in
      let b : length (blocks p k info (x / hash_len p)) ≡ hash_len p * (x / hash_len p) = blocks-length e k info (x / hash_len p) in
      let f : l ≤ hash_len p * (x / hash_len p) = enough (hash_len p) l (omega arith) in
      length-take-le l (blocks p k info (x / hash_len p)) (omega arith)

  pub expand-octets : (k info : List ℕ) (l : ℕ) → Octets (expand p k info l)
  unfolding expand
  expand-octets k info l = octets-take l _ (blocks-octets k info _)

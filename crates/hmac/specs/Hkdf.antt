-- SPDX-License-Identifier: MIT
-- HKDF, RFC 5869, over a hash of the SHA-2 family. Assumes nothing.
use Rattle.std.specs.Prelude.{List, [], ◌∷◌, ◌++◌, ℕ, zero, suc, ◌+◌, ◌-◌, ◌*◌, ◌/◌, take}
use Rattle.sha2_common.specs.Sha2.{Params}
use Rattle.hmac.specs.Hmac.{hmac}

module _ (p : Params) where
  -- HashLen, the bytes in a digest, which is eight words.
  abbrev pub hash_len : ℕ
  hash_len = 8 * p.size

  -- Section 2.2. No salt is the empty salt: HMAC extends both to the same block of zeros.
  unfoldable pub extract : (salt ikm : List ℕ) → List ℕ
  extract salt ikm = hmac p salt ikm

  -- Section 2.3: the block T(n), and T = T(1) | .. | T(n).
  unfoldable pub T : (prk info : List ℕ) (n : ℕ) → List ℕ
  T prk info zero = []
  T prk info (suc n) = hmac p prk (T prk info n ++ (info ++ (suc n ∷ [])))

  unfoldable pub blocks : (prk info : List ℕ) (n : ℕ) → List ℕ
  blocks prk info zero = []
  blocks prk info (suc n) = blocks prk info n ++ T prk info (suc n)

  -- The most bytes that can be asked for: T(255) is the last block, since n is one byte.
  abbrev pub limit : ℕ
  limit = 255 * hash_len

  -- OKM, the first l bytes of T, of which there are N = ceil(l / HashLen) blocks. l is at most the limit.
  unfoldable pub expand : (prk info : List ℕ) (l : ℕ) → List ℕ
  expand prk info l = take l (blocks prk info ((l + (hash_len - 1)) / hash_len))

-- SPDX-License-Identifier: MIT
-- HMAC, RFC 2104, over a hash of the SHA-2 family. B is the hash's block. Assumes nothing.
use Rattle.std.specs.Prelude.{List, ◌++◌, ℕ, ◌-◌, leb, length, replicate}
use Rattle.octets.specs.Octets.{pick, xors}
use Rattle.sha2_common.specs.Sha2.{Params, hash}

abbrev pub ipad : ℕ
ipad = 0x36

abbrev pub opad : ℕ
opad = 0x5c

module _ (p : Params) where
  -- Section 2: a key longer than B bytes is hashed first.
  unfoldable pub shortened : List ℕ → List ℕ
  shortened k = pick (leb (length k) p.block) k (hash p k)

  -- Step 1: zeros to the end of the key make it B bytes.
  unfoldable pub extended : List ℕ → List ℕ
  extended k = shortened k ++ replicate (p.block - length (shortened k)) 0

  -- Steps 2 and 5: the key XOR a pad, which is one byte B times.
  unfoldable pub masked : (pad : ℕ) (k : List ℕ) → List ℕ
  masked pad k = xors (extended k) (replicate p.block pad)

  -- H(K XOR opad, H(K XOR ipad, text))
  unfoldable pub hmac : (k text : List ℕ) → List ℕ
  hmac k text = hash p (masked opad k ++ hash p (masked ipad k ++ text))

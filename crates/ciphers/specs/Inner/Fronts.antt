-- SPDX-License-Identifier: MIT
-- Inner: which suites work from a front. Assumes nothing.
use Rattle.std.specs.Prelude.{◌≡◌, List, ℕ, Option, None, Some}
use Rattle.gcm_batch.specs.Inner.Front.{Front}
use Rattle.suites.specs.declared.sizes.Suite.{Suite}
use Rattle.suites.specs.declared.sizes.Mode.TheVariants.{CtrHmac, Gcm}
use Rattle.suites.specs.Suites.{mode_of}
use Rattle.aead.specs.Aead.{first_count}

-- With Galois/counter mode there is the front of key and nonce, and with counter mode none.
abbrev pub Fronted : Suite → (key nonce : List ℕ) → Option (List ℕ) → Type 0
Fronted s key nonce None = mode_of s ≡ CtrHmac
Fronted s key nonce (Some f) = (mode_of s ≡ Gcm) × Front key nonce f

-- The block count that the data start at.
abbrev pub count_of : Option (List ℕ) → ℕ
count_of None = first_count CtrHmac
count_of (Some f) = first_count Gcm

-- SPDX-License-Identifier: MIT
-- The 16-byte inputs that AES is given in sealing: RFC 9605, section 4.5, with SP 800-38D §7.1. Assumes nothing.
use Rattle.std.specs.Prelude.{List, [], ◌∷◌, ◌++◌, ℕ}
use Rattle.aes.specs.Aes.{blocks}
use Rattle.gcm.specs.Counter.{counter_block}
use Rattle.suites.specs.declared.sizes.Mode.{Mode}
use Rattle.suites.specs.declared.sizes.Mode.TheVariants.{CtrHmac, Gcm}
use Rattle.aead.specs.Aead.{first_count}
use Rattle.cipher_inputs.specs.Blocks.{zero_block, counter_blocks}

-- For a key: GCM's hash key, which is the same in each of its sealings.
abbrev pub key_inputs : Mode → List (List ℕ)
key_inputs CtrHmac = []
key_inputs Gcm = zero_block ∷ []

-- For the tag of a sealing: GCM's mask.
abbrev pub mask_inputs : (mode : Mode) (nonce : List ℕ) → List (List ℕ)
mask_inputs CtrHmac nonce = []
mask_inputs Gcm nonce = counter_block nonce 1 ∷ []

-- For a sealing of n bytes, the hash key left out: the mask, and the key stream.
unfoldable pub sealing_inputs : (mode : Mode) (nonce : List ℕ) (n : ℕ) → List (List ℕ)
sealing_inputs mode nonce n = mask_inputs mode nonce ++ counter_blocks nonce (first_count mode) (blocks n)

-- All that is listed for it.
abbrev pub all_inputs : (mode : Mode) (nonce : List ℕ) (n : ℕ) → List (List ℕ)
all_inputs mode nonce n = key_inputs mode ++ sealing_inputs mode nonce n

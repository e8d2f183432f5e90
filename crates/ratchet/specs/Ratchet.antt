-- SPDX-License-Identifier: MIT
-- Sender keys that are ratcheted forward: RFC 9605, section 5.1. Assumes nothing.
use Rattle.std.specs.Prelude.{List, ℕ, zero, suc, ◌+◌, ◌*◌, ◌%◌, ◌^◌}
use Rattle.octets.specs.Octets.{ascii}
use Rattle.hmac.specs.Hkdf.{expand}
use Rattle.suites.specs.Derivation.{secret}
use Rattle.suites.specs.Suites.{hash_of, Nh}
use Rattle.suites.specs.declared.sizes.Suite.{Suite}

-- The label of a step: no final space, no KID and no suite.
abbrev pub ratchet_text : List ℕ
ratchet_text = ascii "SFrame 1.0 Ratchet"

-- base_key[i+1] = HKDF-Expand(HKDF-Extract("", base_key[i]), "SFrame 1.0 Ratchet", Nh)
unfoldable pub next_key : Suite → List ℕ → List ℕ
next_key s base = expand (hash_of s) (secret s base) ratchet_text (Nh s)

-- The base key after so many steps.
unfoldable pub walked : (s : Suite) (base : List ℕ) (steps : ℕ) → List ℕ
walked s base zero = base
walked s base (suc n) = next_key s (walked s base n)

-- KID = (key_generation << R) + (ratchet_step % (1 << R)), where R is bits.
unfoldable pub ratchet_kid : (generation step bits : ℕ) → ℕ
ratchet_kid generation step bits = generation * 2 ^ bits + step % 2 ^ bits

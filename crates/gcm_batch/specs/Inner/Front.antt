-- SPDX-License-Identifier: MIT
-- Inner: the front of a key and a nonce, as contracts of the code cite it.
-- Assumes nothing.
use Rattle.std.specs.Prelude.{List, ℕ}
use Rattle.aes_batch.specs.Inner.Batch.{Blocks, front_of}

-- The encrypted block of zeros, the encrypted counter block 1, and those from 2 to 15.
abbrev pub Front : (key nonce f : List ℕ) → Type 0
Front key nonce f = Blocks key (front_of nonce 0) f

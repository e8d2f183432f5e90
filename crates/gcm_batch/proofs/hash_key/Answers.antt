-- SPDX-License-Identifier: MIT
use native.Mathlib.Omega.{arith}
use Rattle.gcm_batch.proofs.hash_key.Goals as goal

pub hash_key_of-requires : goal.hash_key_of-requires
hash_key_of-requires c = c.requires.each 0 (omega arith)

pub returns : goal.returns
returns c = c.hash_key_of.ensures

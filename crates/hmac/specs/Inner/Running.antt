-- SPDX-License-Identifier: MIT
-- Cited by inner contracts only: the running HMAC, over the hash. Assumes nothing.
use Rattle.std.specs.Prelude.{List, ◌++◌, ℕ}
use Rattle.sha2_common.specs.Sha2.{Params}
use Rattle.sha2_common.specs.Running.{State}
use Rattle.sha2_common.specs.Fed.{Fed}
use Rattle.hmac.specs.Hmac.{masked, ipad, opad}

-- The inner hash has been fed the masked key k and the text m, the outer hash the key masked with the other pad.
abbrev pub Keyed : (p : Params) (inner outer : State) (k m : List ℕ) → Type 0
Keyed p inner outer k m = Fed p inner (masked p ipad k ++ m) × Fed p outer (masked p opad k)

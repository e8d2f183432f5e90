-- SPDX-License-Identifier: MIT
-- The message that a running hash has been fed. Assumes nothing.
use Rattle.std.specs.Prelude.{◌≡◌, List, ◌++◌, ℕ, length}
use Rattle.sha2_common.specs.Sha2.{Params, run}
use Rattle.sha2_common.specs.Running.{State, waits}

-- The hash value h and the bytes w after its blocks stand for the message m: whatever x comes after m, chaining
-- the blocks of w and x from h ends where chaining those of m and x from the initial hash value does.
unfoldable pub Stands : (p : Params) (h w m : List ℕ) → Type 0
Stands p h w m = (x : List ℕ) → run p p.initial (m ++ x) ≡ run p h (w ++ x)

-- A possible state, and the message m that it has been fed.
pub record Fed (p : Params) (h : State) (m : List ℕ) : Type 0 where
  pub total : h.len ≡ length m
  pub stands : Stands p h.value (waits p h) m

-- SPDX-License-Identifier: MIT
use mathlib.Core.Path.{◌≡◌}
use mathlib.Core.List.{◌++◌}
use Prim.Native.Nat.{◌-◌, ◌≤◌}
use lib.ListN.{length, take, drop}
use Rattle.aes_keys.specs.Inner.Keys.{key_of}
use Rattle.gcm.specs.Counter.{ctr_from}
use Rattle.gcm_batch.proofs.counter.apply_from.Given as goal

abbrev pub invariant-loop-i : goal.invariant-loop-i
invariant-loop-i l = (l.i ≤ length l.input) × (length l.out ≡ length l.initial.out)
    × (l.out ≡ ctr_from (key_of l.ctx) l.nonce 0 l.start (take l.i l.input) ++ drop l.i l.initial.out)

abbrev pub decreases-loop-i : goal.decreases-loop-i
decreases-loop-i l = length l.input - l.i

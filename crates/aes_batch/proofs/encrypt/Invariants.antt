-- SPDX-License-Identifier: MIT
use Prim.Native.Nat.{◌-◌}
use Rattle.aes_keys.specs.Inner.Keys.{key_of}
use Rattle.aes_batch.proofs.Ciphers.{Rounded}
use Rattle.aes_batch.proofs.encrypt.Given as goal

abbrev pub invariant-loop-r : goal.invariant-loop-r
invariant-loop-r l = Rounded (key_of l.ctx) l.initial.q (l.r - 1) l.q

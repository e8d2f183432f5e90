-- SPDX-License-Identifier: MIT
-- `sframe_test::aes_modes::repeat` meets its contract: the loop's invariant: out is the block encrypted i times over.
-- Assumes nothing.
use mathlib.Core.Path.{◌≡◌}
use lib.ListN.{length}
use Rattle.aes.specs.Aes.{encrypt}
use Rattle.aes_block.specs.Inner.Context.{key_of}
use Rattle.sframe_test.specs.Repeated.{repeated}
use Rattle.sframe_test.proofs.aes_modes.repeat.Given as goal

abbrev pub invariant-loop : goal.invariant-loop
invariant-loop l = (length l.out ≡ 16) × (l.out ≡ repeated (encrypt (key_of l.ctx)) l.counter l.initial.out)

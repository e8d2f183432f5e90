-- SPDX-License-Identifier: MIT
-- `ghash::padded` meets its contract: a block that lies in the first part is read there, any other byte by byte.
-- Assumes nothing.
use mathlib.Core.Path.{◌∙◌}
use native.Mathlib.Omega.{arith}
use Rattle.ghash.proofs.Absorbing.{direct}
use Rattle.ghash.proofs.padded.Goals as goal

pub returns-then-a-i-ge-BLOCK : goal.returns-then-a-i-ge-BLOCK
returns-then-a-i-ge-BLOCK c =
    let a = c.args in
    c.load.ensures ∙ direct a.a.now a.b.now a.i (omega arith)

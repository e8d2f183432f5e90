-- SPDX-License-Identifier: MIT
use Rattle.std.proofs.Common.{◌≡◌, take}
use Rattle.octets.proofs.equal.Given as goal

abbrev pub invariant-loop-i : goal.invariant-loop-i
invariant-loop-i l = (l.differ ≡ 0 → take l.i l.a ≡ take l.i l.b) × (take l.i l.a ≡ take l.i l.b → l.differ ≡ 0)

-- SPDX-License-Identifier: MIT
use Rattle.std.proofs.Common.{◌≡◌, ◌-◌, ◌/◌, ◌^◌, ◌≤◌, ◌++◌, take, drop}
use Rattle.octets.specs.Octets.{bytes}
use Rattle.octets.proofs.write_be.Given as goal

abbrev pub invariant-loop-i : goal.invariant-loop-i
invariant-loop-i l = (l.i ≤ l.n) × (l.rest ≡ l.x / 256 ^ (l.n - l.i)) × (l.out ≡ take l.i l.initial.out ++ (bytes (l.n - l.i) l.x ++ drop l.n l.initial.out))

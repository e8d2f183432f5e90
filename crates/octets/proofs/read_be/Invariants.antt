-- SPDX-License-Identifier: MIT
use Rattle.std.proofs.Common.{◌≡◌, ◌^◌, ◌<◌}
use Rattle.octets.specs.Octets.{number}
use Rattle.octets.proofs.read_be.Given as goal

abbrev pub invariant-loop-d : goal.invariant-loop-d
invariant-loop-d l = (l.x ≡ number l.d-index l.b) × (l.x < 256 ^ l.d-index)

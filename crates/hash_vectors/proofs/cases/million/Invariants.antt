-- SPDX-License-Identifier: MIT
use Rattle.std.proofs.Common.{◌≡◌, ◌*◌}
use Rattle.hash_vectors.proofs.cases.million.Given as goal

abbrev pub invariant-loop : goal.invariant-loop
invariant-loop g l = (g.H.Hash.state l.state).len ≡ 1000 * l.counter

-- SPDX-License-Identifier: MIT
use Rattle.hmac.proofs.Steps.{HeldBy}
use Rattle.hmac.proofs.hkdf.hkdf_expand.Given as goal

abbrev pub invariant-loop-i : goal.invariant-loop-i
invariant-loop-i g l = HeldBy g.H.Hash.params l.prk l.info l.initial.out l.out l.block l.used l.i

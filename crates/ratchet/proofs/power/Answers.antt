-- SPDX-License-Identifier: MIT
use Rattle.ratchet.proofs.Steps.{power-is}
use Rattle.ratchet.proofs.power.Goals as goal

pub returns : goal.returns
returns c = power-is c.args.n c.requires

-- SPDX-License-Identifier: MIT
use Rattle.std.proofs.Common.{◌∙◌}
use Rattle.octets.proofs.Loops.{number-four}
use Rattle.octets.proofs.read_be32.Goals as goal

pub returns : goal.returns
returns c = c.from_be_bytes.ensures ∙ number-four _

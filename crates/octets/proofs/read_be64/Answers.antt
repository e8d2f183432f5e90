-- SPDX-License-Identifier: MIT
use Rattle.std.proofs.Common.{◌∙◌}
use Rattle.octets.proofs.Loops.{number-eight}
use Rattle.octets.proofs.read_be64.Goals as goal

pub returns : goal.returns
returns c = c.from_be_bytes.ensures ∙ number-eight _

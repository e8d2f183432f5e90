-- SPDX-License-Identifier: MIT
use Rattle.piece_line.proofs.Steps.{field-read}
use Rattle.piece_line.proofs.state.announced_of.Goals as goal

pub returns : goal.returns
returns c =
    (field-read c.args.state.now 4 4 _ c.read_be.ensures.0, c.read_be.ensures.1)

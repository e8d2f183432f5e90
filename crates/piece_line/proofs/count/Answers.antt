-- SPDX-License-Identifier: MIT
use Rattle.piece_line.proofs.count.Goals as goal

pub returns : goal.returns
returns c = c.write_be_at.ensures

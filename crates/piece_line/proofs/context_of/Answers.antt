-- SPDX-License-Identifier: MIT
use Rattle.piece_line.proofs.Steps.{context-part}
use Rattle.piece_line.proofs.context_of.Goals as goal

pub returns : goal.returns
returns c =
    let s = c.args in
    context-part s.state.now _ s.suite _ c.key_end-end.ensures.0 c.context.ensures

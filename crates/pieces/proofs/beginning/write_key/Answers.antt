-- SPDX-License-Identifier: MIT
use Rattle.pieces.proofs.Begins.{key-written}
use Rattle.pieces.proofs.beginning.write_key.Goals as goal

pub returns : goal.returns
returns c =
    key-written c.args.state.now c.args.key.now _ _ _ c.requires.0 c.requires.1 c.copy.ensures c.copy_at.ensures c.write_be_at.ensures

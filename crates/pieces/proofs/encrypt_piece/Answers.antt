-- SPDX-License-Identifier: MIT
use lib.ListN.{length}
use Rattle.piece_line.proofs.Steps.{cipher-length}
use Rattle.pieces.proofs.CallSteps.{lent-front}
use Rattle.pieces.proofs.encrypt_piece.Goals as goal

pub returns : goal.returns
returns c =
    let l = cipher-length c.args.suite c.args.state.now c.args.piece.now in
    record { state_after = c.seal_in.ensures.state_after; room_after = lent-front c.args.room.now _ _ (length c.args.piece.now) l c.requires.2 c.seal_in.ensures.out_after }

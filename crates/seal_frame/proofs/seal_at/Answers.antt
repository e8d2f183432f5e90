-- SPDX-License-Identifier: MIT
use Rattle.seal_frame.proofs.SealSteps.{sealed-at}
use Rattle.seal_frame.proofs.seal_at.Goals as goal

pub returns : goal.returns
returns c =
    let a = c.args in
    let answered = sealed-at a.store.now a.kid.0 a.metadata.now a.plaintext.now a.offset _ a.room.now c.min-from.ensures _ _ _ _ (c.seal.ensures.number_value, (c.seal.ensures.store_after, c.seal.ensures.room_after)) in record { number_value = answered.0; store_after = answered.1.0; room_after = answered.1.1 }

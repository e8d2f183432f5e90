-- SPDX-License-Identifier: MIT
use Rattle.pair_log.proofs.Writing.{answers-same, listing-of}
use Rattle.pair_log.proofs.list.Goals as goal

pub returns : goal.returns
returns c =
    let a = c.args in
    let answered = answers-same _ _ a.room.now _ _ _ (listing-of a.log.now _ c.gather-m.ensures.0) (c.write_listing.ensures.number_value, c.write_listing.ensures.room_after) in record { number_value = answered.0; room_after = answered.1 }

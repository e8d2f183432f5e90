-- SPDX-License-Identifier: MIT
use Rattle.std.proofs.lemmas.List.{length-map}
use Rattle.pair_log.specs.Inner.Listed.{listed}
use Rattle.pair_log.proofs.Writing.{listing-refused, listing-written}
use Rattle.pair_log.proofs.write_listing.Goals as goal

pub returns-then-room-size : goal.returns-then-room-size
returns-then-room-size c =
    let a = c.args in
    let q = listing-refused a.n _ _ (listed a.found.now) a.room.now (simp length-map) c.listing_size-size.ensures c.if-room-size.true in
    record { number_value = q.0; room_after = q.1 }

pub returns : goal.returns
returns c =
    let a = c.args in
    let q = listing-written a.n _ _ (listed a.found.now) a.room.now (simp length-map) c.listing_size-size.ensures _ _ _ _ _ c.if-room-size.false c.write_count-second.ensures.0 c.write_count-second.ensures.1 c.write_count-third.ensures.0 c.write_count-third.ensures.1 c.write_pairs.ensures in
    record { number_value = q.0; room_after = q.1 }

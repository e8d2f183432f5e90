-- SPDX-License-Identifier: MIT
use Rattle.pair_log.proofs.Writing.{sizes-join}
use Rattle.pair_log.proofs.listing_size.Goals as goal

pub returns : goal.returns
returns c =
    let a = c.args in sizes-join a.n a.m _ _ c.places.ensures.0 c.places-2.ensures.0

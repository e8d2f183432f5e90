-- SPDX-License-Identifier: MIT
use Rattle.std.proofs.Common.{arith, [], rules}
use Rattle.hmac.proofs.keyed.keyed.Goals as goal

pub feed-requires : goal.feed-requires
feed-requires g c =
    let s = g.met.H.Hash.sizes in
    let m = c.masked_block-masked.ensures.1 in
    omega (arith, c.new.ensures.1)

pub returns : goal.returns
returns g c = (rw c.masked_block-masked.ensures.0 at (c.feed.ensures.0 [] c.new.ensures.0), search rules)

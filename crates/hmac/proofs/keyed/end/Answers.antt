-- SPDX-License-Identifier: MIT
use Rattle.std.proofs.Common.{arith}
use Rattle.hmac.proofs.Steps.{keyed-finish}
use Rattle.hmac.proofs.keyed.end.Goals as goal

pub feed-requires : goal.feed-requires
feed-requires g c =
    let s = g.met.H.Hash.sizes in
    omega (arith, c.requires.1, c.finish-digest.ensures.1)

pub finish-requires : goal.finish-requires
finish-requires g c =
    let s = g.met.H.Hash.sizes in
    (omega arith, omega (arith, c.requires.1, c.finish-digest.ensures.1, c.feed.ensures.1))

pub returns : goal.returns
returns g c =
    (λ k m f. keyed-finish g.H.Hash.params _ _ _ k m _ _ c.finish-digest.ensures.0 c.feed.ensures.0 c.finish.ensures.0 f, c.finish.ensures.1)

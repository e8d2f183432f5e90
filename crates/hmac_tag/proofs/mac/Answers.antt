-- SPDX-License-Identifier: MIT
use mathlib.Core.Path.{◌∙◌, ap}
use native.Mathlib.Omega.{arith}
use Rattle.sha2_common.specs.Sizes.{sha256}
use Rattle.hmac.specs.Hmac.{hmac}
use Rattle.hmac_tag.proofs.Steps.{parts-fed}
use Rattle.hmac_tag.proofs.mac.Goals as goal

pub feed-requires-2 : goal.feed-requires-2
feed-requires-2 c =
    omega (arith, c.feed-front.ensures.1, c.feed.ensures.1, c.new.ensures.1, c.lengths-l.ensures.1, c.requires)

pub feed-requires-3 : goal.feed-requires-3
feed-requires-3 c =
    omega (arith, c.feed-2.ensures.1, c.feed-front.ensures.1, c.feed.ensures.1, c.new.ensures.1, c.lengths-l.ensures.1, c.requires)

pub feed-requires-4 : goal.feed-requires-4
feed-requires-4 c =
    omega (arith, c.feed-3.ensures.1, c.feed-2.ensures.1, c.feed-front.ensures.1, c.feed.ensures.1, c.new.ensures.1, c.lengths-l.ensures.1, c.requires)

pub finish-requires : goal.finish-requires
finish-requires c =
    (omega (arith, c.feed-4.ensures.1, c.feed-3.ensures.1, c.feed-2.ensures.1, c.feed-front.ensures.1, c.feed.ensures.1, c.new.ensures.1, c.lengths-l.ensures.1, c.requires), omega (arith, c.feed-4.ensures.2, c.feed-3.ensures.2, c.feed-2.ensures.2, c.feed-front.ensures.2, c.feed.ensures.2, c.new.ensures.2))

pub returns : goal.returns
returns c =
    let a = c.args in
    let k = a.key.now in
    let k1 = c.feed.ensures.0 k _ c.new.ensures.0 in
    let k2 = c.feed-front.ensures.0 k _ k1 in
    let k3 = c.feed-2.ensures.0 k _ k2 in
    let k4 = c.feed-3.ensures.0 k _ k3 in
    let k5 = c.feed-4.ensures.0 k _ k4 in (
      c.finish.ensures.0 k _ k5
          ∙ ap (hmac sha256 k) (parts-fed _ a.nonce.now a.header.now a.metadata.now a.ciphertext.now a.nt c.lengths-l.ensures.0),
      c.finish.ensures.1,
    )

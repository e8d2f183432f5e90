-- SPDX-License-Identifier: MIT
use Rattle.octets.proofs.Laws.{part-rest}
use Rattle.hmac.specs.Hmac.{extended}
use Rattle.sha2_common.specs.Sizes.{sha256}
use lib.ListN.{length}
use Prim.Native.Nat.{◌+◌, ◌≤◌}
use Rattle.pieces.proofs.Begins.{begun-hmac}
use native.Mathlib.Omega.{arith}
use mathlib.Core.Path.{refl, ◌∙◌, ap}
use Rattle.pieces.proofs.beginning.begin_hmac.Goals as goal

pub feed-front-requires : goal.feed-front-requires
feed-front-requires c =
    let z = c.new.ensures.1 in
    let m = c.masked_block-inner.ensures.1 in
    let l = c.lengths-l.ensures.1 in
    let e-feed = c.feed.ensures.1 in
    let e-feed2 = c.feed-2.ensures.1 in
    let g : c.feed-2.result.len + length c.args.nonce.now ≤ 4294967296 = omega arith in
    (omega arith, g)

pub feed-requires-3 : goal.feed-requires-3
feed-requires-3 c =
    let z = c.new.ensures.1 in
    let m = c.masked_block-inner.ensures.1 in
    let l = c.lengths-l.ensures.1 in
    let e-feed = c.feed.ensures.1 in
    let e-feed2 = c.feed-2.ensures.1 in
    let e-feed3 = c.feed-front.ensures.1 in
    let g : c.feed-front.result.len + length c.args.header.now ≤ 4294967296 = omega arith in
    (omega arith, g)

pub feed-requires-4 : goal.feed-requires-4
feed-requires-4 c =
    let z = c.new.ensures.1 in
    let m = c.masked_block-inner.ensures.1 in
    let l = c.lengths-l.ensures.1 in
    let e-feed = c.feed.ensures.1 in
    let e-feed2 = c.feed-2.ensures.1 in
    let e-feed3 = c.feed-front.ensures.1 in
    let e-feed4 = c.feed-3.ensures.1 in
    let g : c.feed-3.result.len + length c.args.metadata.now ≤ 4294967296 = omega arith in
    (omega arith, g)

pub save-requires : goal.save-requires
save-requires c =
    c.requires.key_len.3

pub returns : goal.returns
returns c =
    let s = c.args in
    begun-hmac _ _ _ s.nonce.now s.header.now s.metadata.now s.key.now _ _ _ _ _ _ _ s.nt s.announced _ (c.block_key-block.ensures.0 ∙ ap (extended sha256) (part-rest 16 s.key.now)) c.masked_block-inner.ensures.0 refl c.lengths-l.ensures.0 c.new.ensures.2 c.feed.ensures.2 c.feed-2.ensures.2 c.feed-front.ensures.2 c.feed-3.ensures.2 c.feed-4.ensures.2 c.save.ensures

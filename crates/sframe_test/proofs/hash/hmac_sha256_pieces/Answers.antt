-- SPDX-License-Identifier: MIT
use mathlib.Core.Path.{sym}
use mathlib.Core.List.{[]}
use native.Mathlib.Omega.{arith}
use Rattle.sha2_common.proofs.Laws.{pieces, pieces-lengths}
use Rattle.sframe_test.proofs.hash.hmac_sha256_pieces.Goals as goal

pub slice_bounds-feed-end : goal.slice_bounds-feed-end
slice_bounds-feed-end c =
    let k = pieces-lengths c.args.message.now c.args.first c.args.second c.requires.0 c.requires.1 in
    sym k.0

pub feed-one-requires : goal.feed-one-requires
feed-one-requires c =
    let k = pieces-lengths c.args.message.now c.args.first c.args.second c.requires.0 c.requires.1 in
    omega arith

pub feed-two-requires : goal.feed-two-requires
feed-two-requires c =
    let k = pieces-lengths c.args.message.now c.args.first c.args.second c.requires.0 c.requires.1 in
    omega arith

pub feed-requires : goal.feed-requires
feed-requires c =
    let k = pieces-lengths c.args.message.now c.args.first c.args.second c.requires.0 c.requires.1 in
    omega arith

pub finish-requires : goal.finish-requires
finish-requires c =
    let k = pieces-lengths c.args.message.now c.args.first c.args.second c.requires.0 c.requires.1 in
    omega arith

pub returns : goal.returns
returns c =
    (rw (pieces c.args.message.now c.args.first c.args.second c.requires.0 c.requires.1) at (c.finish.ensures.0 _ _ (c.feed.ensures.0 _ _ (c.feed-two.ensures.0 _ _ (c.feed-one.ensures.0 _ [] c.new.ensures.0)))), c.finish.ensures.1)

-- SPDX-License-Identifier: MIT
use Rattle.std.proofs.Common.{arith}
use Rattle.hmac.proofs.Steps.{hmac-whole}
use Rattle.hmac.proofs.keyed.hmac_of.Goals as goal

pub block_key-block-requires : goal.block_key-block-requires
block_key-block-requires g c = let s = g.met.H.Hash.sizes in (omega arith, c.requires.0)

pub shared_whole_as_slice-masked_block : goal.shared_whole_as_slice-masked_block
shared_whole_as_slice-masked_block g c = let s = g.met.H.Hash.sizes in omega arith

pub masked_block-inner-requires : goal.masked_block-inner-requires
masked_block-inner-requires g c = let s = g.met.H.Hash.sizes in (omega arith, c.block_key-block.ensures.1)

pub shared_whole_as_slice-masked_block-2 : goal.shared_whole_as_slice-masked_block-2
shared_whole_as_slice-masked_block-2 g c = let s = g.met.H.Hash.sizes in omega arith

pub masked_block-outer-requires : goal.masked_block-outer-requires
masked_block-outer-requires g c = let s = g.met.H.Hash.sizes in (omega arith, c.block_key-block.ensures.1)

pub shared_whole_as_slice-digest : goal.shared_whole_as_slice-digest
shared_whole_as_slice-digest g c = let s = g.met.H.Hash.sizes in omega arith

pub digest-digest-requires : goal.digest-digest-requires
digest-digest-requires g c =
    let s = g.met.H.Hash.sizes in
    (omega arith, omega (arith, c.requires.1, c.masked_block-inner.ensures.1))

pub shared_whole_as_slice-digest-2 : goal.shared_whole_as_slice-digest-2
shared_whole_as_slice-digest-2 g c = let s = g.met.H.Hash.sizes in omega arith

pub digest-requires : goal.digest-requires
digest-requires g c =
    let s = g.met.H.Hash.sizes in
    (omega arith, omega (arith, c.digest-digest.ensures.1, c.masked_block-outer.ensures.1))

pub returns : goal.returns
returns g c =
    let a = c.args in
    let key = c.block_key-block in
    let inner = c.masked_block-inner in
    let outer = c.masked_block-outer in
    (hmac-whole g.H.Hash.params g.row.BLOCK a.key.now a.text.now _ _ _ _ _ g.met.H.Hash.sizes.0 key.ensures.0 inner.ensures.0 outer.ensures.0 c.digest-digest.ensures.0 c.digest.ensures.0, c.digest.ensures.1)

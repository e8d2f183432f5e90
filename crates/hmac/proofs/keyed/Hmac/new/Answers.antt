-- SPDX-License-Identifier: MIT
use Rattle.std.proofs.Common.{arith}
use Rattle.hmac.proofs.Steps.{keyed-new}
use Rattle.hmac.proofs.keyed.Hmac.new.Goals as goal

pub block_key-block-requires : goal.block_key-block-requires
block_key-block-requires g c = let s = g.met.H.Hash.sizes in (omega arith, c.requires)

pub shared_whole_as_slice-keyed : goal.shared_whole_as_slice-keyed
shared_whole_as_slice-keyed g c = let s = g.met.H.Hash.sizes in omega arith

pub shared_whole_as_slice-keyed-2 : goal.shared_whole_as_slice-keyed-2
shared_whole_as_slice-keyed-2 g c = let s = g.met.H.Hash.sizes in omega arith

pub returns : goal.returns
returns g c =
    let i = c.keyed-inner.ensures in
    let o = c.keyed-outer.ensures in
    (keyed-new g.H.Hash.params g.row.BLOCK _ _ c.args.key.now _ g.met.H.Hash.sizes.0 c.block_key-block.ensures.0 i.0 o.0, i.1, o.1)

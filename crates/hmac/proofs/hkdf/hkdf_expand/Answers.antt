-- SPDX-License-Identifier: MIT
use Rattle.std.proofs.Common.{length, length-take, arith}
use lib.ListN.{length-replicate}
use Rattle.hmac.proofs.Steps.{keyed-new, held-begin, held-turn, held-end, turn-starts, turns-reach, few-turns}
use Rattle.hmac.proofs.hkdf.hkdf_expand.Goals as goal

pub block_key-key-requires : goal.block_key-key-requires
block_key-key-requires g c = let s = g.met.H.Hash.sizes in (omega arith, c.requires.0)

pub shared_whole_as_slice-keyed : goal.shared_whole_as_slice-keyed
shared_whole_as_slice-keyed g c = let s = g.met.H.Hash.sizes in omega arith

pub shared_whole_as_slice-keyed-2 : goal.shared_whole_as_slice-keyed-2
shared_whole_as_slice-keyed-2 g c = let s = g.met.H.Hash.sizes in omega arith

pub div_ceil-count-requires : goal.div_ceil-count-requires
div_ceil-count-requires g c = g.met.H.Hash.sizes.2

pub loop-i-init : goal.loop-i-init
loop-i-init g c =
    let s = g.met.H.Hash.sizes in
    held-begin g.H.Hash.params g.row.DIGEST s.1 s.2 _ _ _ _ (length-replicate g.row.DIGEST 0)

pub overflow_cast-counter : goal.overflow_cast-counter
overflow_cast-counter g c =
    let s = g.met.H.Hash.sizes in
    let f = few-turns c.loop-i.i (length c.args.out.now) g.row.DIGEST s.2 (rw c.div_ceil-count.ensures at c.loop-i-test.true) (omega (arith, s.1, c.requires.2)) in
    omega arith

pub next_block-block-requires : goal.next_block-block-requires
next_block-block-requires g c =
    let s = g.met.H.Hash.sizes in
    let h = c.loop-i.invariant in
    (omega arith, (c.keyed-inner.ensures.1, c.keyed-outer.ensures.1, simp length-take (omega (arith, s.1, h.used)), c.requires.1))

pub loop-i-preserved : goal.loop-i-preserved
loop-i-preserved g c =
    let s = g.met.H.Hash.sizes in
    let l = c.loop-i in
    let a = c.args in
    let p = g.H.Hash.params in
    let t = c.next_block-block in
    let at = turn-starts l.i (length a.out.now) g.row.DIGEST s.2 (rw c.div_ceil-count.ensures at c.loop-i-test.true) in
    let key = keyed-new p g.row.BLOCK _ _ a.prk.now _ s.0 c.block_key-key.ensures.0 c.keyed-inner.ensures.0 c.keyed-outer.ensures.0 in
    held-turn p g.row.DIGEST s.1 a.prk.now a.info.now a.out.now l.out l.block t.result c.copy.new.out l.used l.i c.min-n.result _ at c.min-n.ensures (omega arith) t.ensures.1 (t.ensures.0 _ key) c.copy.ensures c.copy.auto.out l.invariant

pub returns : goal.returns
returns g c =
    let s = g.met.H.Hash.sizes in
    held-end g.H.Hash.params g.row.DIGEST s.1 s.2 _ _ _ _ _ _ _ (turns-reach _ _ _ s.2 (rw c.div_ceil-count.ensures at c.loop-i-test.false)) c.loop-i.invariant

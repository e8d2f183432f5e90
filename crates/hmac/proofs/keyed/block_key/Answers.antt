-- SPDX-License-Identifier: MIT
use Rattle.std.proofs.Common.{arith, rules}
use lib.ListN.{length-replicate}
use Rattle.hmac.proofs.Steps.{extended_fits, extended-long}
use Rattle.hmac.proofs.keyed.block_key.Goals as goal

pub returns-then-key : goal.returns-then-key
returns-then-key g c =
    (extended_fits g.H.Hash.params g.row.BLOCK c.args.key.now _ g.met.H.Hash.sizes.0 c.if-key.true c.copy.ensures, search rules)

pub digest-digest-requires : goal.digest-digest-requires
digest-digest-requires g c = let s = g.met.H.Hash.sizes in (omega arith, omega arith)

pub shared_whole_as_slice-copy : goal.shared_whole_as_slice-copy
shared_whole_as_slice-copy g c = let s = g.met.H.Hash.sizes in omega arith

pub copy-requires-2 : goal.copy-requires-2
copy-requires-2 g c =
    let s = g.met.H.Hash.sizes in
    simp length-replicate (omega (arith, c.digest-digest.ensures.1))

pub returns : goal.returns
returns g c =
    let s = g.met.H.Hash.sizes in
    let d = c.digest-digest.ensures in
    (extended-long g.H.Hash.params g.row.BLOCK c.args.key.now _ _ s.0 c.if-key.false d.0 (omega (arith, d.1)) c.copy-2.ensures, search rules)

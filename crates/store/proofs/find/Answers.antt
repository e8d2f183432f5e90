-- SPDX-License-Identifier: MIT
use Rattle.store.proofs.Places.{place_found, place-nowhere}
use Rattle.store.proofs.find.Goals as goal

pub returns-then-stands_at : goal.returns-then-stands_at
returns-then-stands_at c =
    place_found c.args.store.now c.args.kid.0 _ _ c.requires c.stands_at.ensures c.if-stands_at.true

pub returns : goal.returns
returns c =
    place-nowhere c.args.store.now c.args.kid.0 _ _ c.requires c.rank-i.ensures c.stands_at.ensures c.if-stands_at.false

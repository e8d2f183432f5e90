-- SPDX-License-Identifier: MIT
use Rattle.store.proofs.Places.{place_found}
use Rattle.store.proofs.find_near.Goals as goal

pub returns-then-stands_at : goal.returns-then-stands_at
returns-then-stands_at c =
    place_found c.args.store.now c.args.kid.0 _ _ c.requires c.stands_at.ensures c.if-stands_at.true

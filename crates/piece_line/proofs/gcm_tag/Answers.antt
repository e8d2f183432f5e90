-- SPDX-License-Identifier: MIT
use lib.ListN.{replicate}
use Rattle.piece_line.proofs.Steps.{nonce-sized, ready, ended-gcm}
use mathlib.Core.Path.{refl}
use borrow.Author.Rules.{rules}
use Rattle.piece_line.proofs.gcm_tag.Goals as goal

pub front-f-requires : goal.front-f-requires
front-f-requires c =
    (ready _ _ c.requires.context, nonce-sized c.args.state.now c.requires.state_size_in_bounds.0)

pub returns : goal.returns
returns c =
    (ended-gcm c.args.state.now c.args.ctx.now _ _ _ _ (replicate 16 0) c.args.suite _ _ _ _ _ _ c.requires.state_size_in_bounds.0 c.requires.state_size_in_bounds.2 c.requires.context c.front-f.ensures c.hash_key-h.ensures c.aad_of.ensures.0 c.taken_of-taken.ensures.0 refl c.finish_blocks-y.ensures c.plus.ensures c.times-z.ensures refl c.store.ensures c.xor.ensures, search rules)

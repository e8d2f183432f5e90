-- SPDX-License-Identifier: MIT
use Rattle.piece_line.proofs.Steps.{ended-hmac}
use mathlib.Core.Path.{refl}
use Rattle.piece_line.proofs.hmac_tag.Goals as goal

pub returns : goal.returns
returns c =
    ended-hmac c.args.state.now _ _ _ _ _ _ c.args.suite _ _ _ c.requires.2 c.aad_of.ensures.0 c.taken_of.ensures.0 refl c.finish-inner.ensures.0 c.block_key-block.ensures.0 c.masked_block-outer.ensures.0 c.digest-whole.ensures.0 c.digest-whole.ensures.1 refl c.copy.ensures

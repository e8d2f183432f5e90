-- SPDX-License-Identifier: MIT
use Rattle.pieces.proofs.Begins.{begun-gcm}
use Rattle.piece_line.proofs.Steps.{ready}
use mathlib.Core.Path.{refl}
use Rattle.pieces.proofs.beginning.begin_gcm.Goals as goal

pub hash_key-t-requires : goal.hash_key-t-requires
hash_key-t-requires c =
    (ready _ _ c.context.ensures, c.requires.key_len.2)

pub returns : goal.returns
returns c =
    begun-gcm _ _ c.args.key.now _ _ _ c.args.nonce.now c.args.suite _ 0 0 c.requires.key_len.1 c.requires.key_len.0 c.context.ensures c.hash_key-t.ensures c.absorb-y.ensures refl c.save_block.ensures

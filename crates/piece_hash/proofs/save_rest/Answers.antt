-- SPDX-License-Identifier: MIT
use Rattle.piece_hash.proofs.Steps.{kept-short, kept-long}
use mathlib.Core.Path.{refl}
use lib.ListN.{length-take}
use native.Mathlib.Omega.{arith}
use Rattle.sha2_common.specs.Sizes.{sha256}
use Rattle.piece_hash.proofs.save_rest.Goals as goal

pub slice_bounds-save_block-end : goal.slice_bounds-save_block-end
slice_bounds-save_block-end c =
    simp length-take (omega arith)

pub save_block-requires : goal.save_block-requires
save_block-requires c =
    simp length-take (omega arith)

pub returns-then-n-c-lt-BLOCK : goal.returns-then-n-c-lt-BLOCK
returns-then-n-c-lt-BLOCK c =
    kept-short _ c.args.b.now c.args.c.now _ _ c.args.n _ _ (omega arith) (omega arith) refl refl (omega arith) (c.room-w.ensures sha256 refl) c.save_block.ensures

pub returns : goal.returns
returns c =
    kept-long _ c.args.b.now c.args.c.now _ c.args.n _ (omega arith) (omega arith) (omega arith) refl c.save_block-2.ensures

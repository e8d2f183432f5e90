-- SPDX-License-Identifier: MIT
use Rattle.piece_hash.proofs.Steps.{absorbed-short, absorbed}
use Prim.Native.Nat.{◌-◌}
use mathlib.Core.Path.{refl}
use lib.ListN.{length, length-take}
use native.Mathlib.Omega.{arith}
use Rattle.piece_hash.proofs.absorb.Goals as goal

pub returns-then-have-c-lt-BLOCK : goal.returns-then-have-c-lt-BLOCK
returns-then-have-c-lt-BLOCK c =
    absorbed-short _ _ c.args.front.now c.args.c.now (omega arith)

pub slice_bounds-joined-end : goal.slice_bounds-joined-end
slice_bounds-joined-end c =
    simp length-take (omega arith)

pub joined-first-requires : goal.joined-first-requires
joined-first-requires c =
    simp length-take (omega arith)

pub returns : goal.returns
returns c =
    absorbed _ _ _ _ c.args.front.now c.args.c.now _ (16 - length c.args.front.now) _ (omega arith) (omega arith) refl c.joined-first.ensures.0 c.absorb-z.ensures c.absorb.ensures

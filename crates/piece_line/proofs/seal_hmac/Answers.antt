-- SPDX-License-Identifier: MIT
use mathlib.Core.Path.{refl}
use native.Mathlib.Omega.{arith}
use Rattle.suites.specs.declared.sizes.Mode.TheVariants.{CtrHmac}
use Rattle.piece_line.proofs.Steps.{nonce-sized, ready, sealed}
use Rattle.piece_line.proofs.seal_hmac.Goals as goal

pub apply_from-requires : goal.apply_from-requires
apply_from-requires c =
    let t = c.taken_of-taken.ensures in
    let m = c.requires.piece_bound.0 in
    record { ready = ready _ _ c.context_of-ctx.ensures; nonce_len = nonce-sized c.args.state.now c.requires.state_size_in_bounds.0; out_len = c.requires.piece_bound.1; input_bound = omega arith }

pub returns : goal.returns
returns c =
    let answered = sealed c.args.state.now _ c.args.piece.now _ _ c.args.suite 0 _ CtrHmac c.context_of-ctx.ensures c.requires.state_size_in_bounds.1 refl c.taken_of-taken.ensures.0
    c.apply_from.ensures c.take_hmac.ensures in record { state_after = answered.0; out_after = answered.1 }

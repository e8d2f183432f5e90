-- SPDX-License-Identifier: MIT
use mathlib.Core.Path.{refl, ◌∙◌, ap}
use lib.ListN.{length}
use native.Mathlib.Omega.{arith}
use Rattle.suites.specs.declared.sizes.Mode.TheVariants.{Gcm}
use Rattle.piece_stream.proofs.Laws.{from-length}
use Rattle.piece_line.proofs.Steps.{nonce-sized, ready, state-key, sealed}
use Rattle.piece_line.proofs.seal_gcm.Goals as goal

pub front-f-requires : goal.front-f-requires
front-f-requires c =
    let t = c.context_of-ctx.ensures in
    let m = c.requires.piece_bound.0 in
    (ready _ _ c.context_of-ctx.ensures, nonce-sized c.args.state.now c.requires.state_size_in_bounds.0, omega arith)

pub apply_front-requires : goal.apply_front-requires
apply_front-requires c =
    let t = c.taken_of-taken.ensures in
    let m = c.requires.piece_bound.0 in
    record { ready = (ready _ _ c.context_of-ctx.ensures, nonce-sized c.args.state.now c.requires.state_size_in_bounds.0); blocks = c.front-f.ensures; out_len = c.requires.piece_bound.1; input_bound = omega arith }

pub hash_key_of-h-requires : goal.hash_key_of-h-requires
hash_key_of-h-requires c =
    c.front-f.ensures.each 0 (omega arith)

pub take_gcm-requires : goal.take_gcm-requires
take_gcm-requires c =
    let n = ap length c.apply_front.ensures ∙ from-length _ _ _ _ c.args.piece.now in
    record { state_size_in_bounds = (c.requires.state_size_in_bounds.0, c.requires.state_size_in_bounds.1, omega (arith, n, c.requires.piece_bound.0)); hash_key = state-key c.args.state.now _ _ c.args.suite c.requires.state_size_in_bounds.0 c.requires.state_size_in_bounds.1 c.context_of-ctx.ensures c.hash_key_of-h.ensures }

pub returns : goal.returns
returns c =
    let answered = sealed c.args.state.now _ c.args.piece.now _ _ c.args.suite 2 _ Gcm c.context_of-ctx.ensures c.requires.state_size_in_bounds.1 refl c.taken_of-taken.ensures.0
    c.apply_front.ensures c.take_gcm.ensures in record { state_after = answered.0; out_after = answered.1 }

-- SPDX-License-Identifier: MIT
use mathlib.Core.Path.{sym, ◌∙◌}
use Rattle.piece_line.proofs.Steps.{nonce-sized, ready, state-key}
use Rattle.piece_line.proofs.take_in.Goals as goal

pub hash_key-h-requires : goal.hash_key-h-requires
hash_key-h-requires c =
    (ready _ _ c.context_of-ctx.ensures, nonce-sized c.args.state.now c.requires.0)

pub take_gcm-requires : goal.take_gcm-requires
take_gcm-requires c =
    let e = sym c.mode.ensures ∙ c.in-Gcm.is in
    record { state_size_in_bounds = (c.requires.0, e, c.requires.1); hash_key = state-key c.args.state.now _ _ c.args.suite c.requires.0 e c.context_of-ctx.ensures c.hash_key-h.ensures }

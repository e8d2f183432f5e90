-- SPDX-License-Identifier: MIT
use mathlib.Core.Path.{refl}
use Rattle.piece_line.proofs.Steps.{lent-hash, more-gcm, taken_in_lem}
use Rattle.piece_line.proofs.take_gcm.Goals as goal

pub returns : goal.returns
returns c =
    let x = c.args.state.now in
    let fed = c.feed_blocks in
    let t = c.taken_of-taken.ensures.0 in
    let m = more-gcm x c.args.c.now _ _ c.args.suite _ _ c.requires.state_size_in_bounds.1 c.requires.hash_key t refl fed.ensures in
    taken_in_lem x _ _ _ c.args.suite c.args.c.now _ c.requires.state_size_in_bounds.0 t refl (lent-hash x _ _ c.requires.state_size_in_bounds.0 fed.auto.b m) c.count.ensures

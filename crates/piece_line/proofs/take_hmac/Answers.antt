-- SPDX-License-Identifier: MIT
use mathlib.Core.Path.{refl}
use Rattle.piece_line.proofs.Steps.{lent-hash, more-hmac, taken_in_lem}
use Rattle.piece_line.proofs.take_hmac.Goals as goal

pub returns : goal.returns
returns c =
    let x = c.args.state.now in
    let fed = c.feed in
    let t = c.taken_of-taken.ensures.0 in
    let m = more-hmac x c.args.c.now _ c.args.suite _ _ _ c.requires.1 c.aad_of.ensures.0 t refl fed.ensures in
    taken_in_lem x _ _ _ c.args.suite c.args.c.now _ c.requires.0 t refl (lent-hash x _ _ c.requires.0 fed.auto.b m) c.count.ensures

-- SPDX-License-Identifier: MIT
use Rattle.std.proofs.Common.{[], ◌∷◌, arith}
use mathlib.Core.List.{append_assoc}
use Rattle.hmac.proofs.Steps.{keyed-feed}
use Rattle.hmac.proofs.hkdf.next_block.Goals as goal

pub end-requires : goal.end-requires
end-requires g c =
    let s = g.met.H.Hash.sizes in
    let r = c.requires in
    (omega arith, (omega (arith, r.0, r.2, r.3, c.feed.ensures.1, c.feed-2.ensures.1, c.feed-3.ensures.1), r.1))

pub returns : goal.returns
returns g c =
    let a = c.args in
    let p = g.H.Hash.params in (
      λ k f.
          let f1 = keyed-feed p _ _ _ k [] a.before.now c.feed.ensures.0 f in
          let f2 = keyed-feed p _ _ _ k _ a.info.now c.feed-2.ensures.0 f1 in
          let f3 = keyed-feed p _ _ _ k _ (a.i ∷ []) c.feed-3.ensures.0 f2 in
          rw (append_assoc a.before.now a.info.now (a.i ∷ [])) at (c.end.ensures.0 k _ f3),
      c.end.ensures.1,
    )

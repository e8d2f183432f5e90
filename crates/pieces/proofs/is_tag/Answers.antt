-- SPDX-License-Identifier: MIT
use mathlib.Core.Path.{refl}
use native.Mathlib.Omega.{arith}
use Rattle.suites.proofs.Laws.{Nt-most}
use Rattle.pieces.proofs.CallSteps.{whole-tag}
use Rattle.pieces.proofs.is_tag.Goals as goal

pub slice_bounds-equal-end-2 : goal.slice_bounds-equal-end-2
slice_bounds-equal-end-2 c =
    let w = Nt-most c.args.suite in
    let l = c.tag_of-t.ensures.1 in
    let e = c.requires.2 in omega arith

pub returns : goal.returns
returns c =
    whole-tag c.args.tag.now _ _ _ _ _ refl c.requires.2 c.tag_of-t.ensures.0 c.equal.ensures

-- SPDX-License-Identifier: MIT
use Rattle.track_record.proofs.Steps.{judged-empty, judged-other, judged-fits, zeros-empty}
use native.Mathlib.Omega.{arith}
use mathlib.Core.Path.{sym, ◌∙◌}
use mathlib.Core.Bool.{not}
use mathlib.Core.Path.{ap}
use Rattle.track_record.proofs.judging.obeys_layout.Goals as goal

pub returns-in_default : goal.returns-in_default
returns-in_default c =
    judged-empty c.args.row.now _ _ c.held_in.ensures c.in_default.is c.requires c.is_zero.ensures

pub write_back-requires : goal.write_back-requires
write_back-requires c =
    (zeros-empty, omega arith, c.requires, sym c.held_in.ensures ∙ c.in-Some.is)

pub returns-then-not-equal : goal.returns-then-not-equal
returns-then-not-equal c =
    judged-other c.args.row.now _ _ c.write_back.ensures c.equal.ensures (ap not c.if-not-equal.true)

pub fits_kind-requires : goal.fits_kind-requires
fits_kind-requires c =
    (c.requires, sym c.held_in.ensures ∙ c.in-Some.is)

pub returns : goal.returns
returns c =
    judged-fits c.args.row.now _ _ _ c.write_back.ensures c.equal.ensures (ap not c.if-not-equal.false) c.fits_kind.ensures

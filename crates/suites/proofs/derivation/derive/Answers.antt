-- SPDX-License-Identifier: MIT
use mathlib.Core.Path.{refl}
use Prim.Native.Nat.{◌+◌}
use native.Mathlib.Omega.{arith}
use lib.ListN.{length}
use Rattle.octets.proofs.Laws.{front-most}
use Rattle.suites.proofs.Steps.{label-front, label-derived}
use Rattle.suites.proofs.derivation.derive.Goals as goal

pub expand_label-requires : goal.expand_label-requires
expand_label-requires c =
    let pre = c.requires in
    record { out_len_bound = pre.2; base_len_bound = (pre.0, front-most c.write_label.new.out (length c.args.text.now + 8 + 2) _ (omega (arith, pre.1))) }

pub returns : goal.returns
returns c =
    let a = c.args in
    label-derived a.suite a.base.now a.text.now _ _ a.kid.0 _
    (label-front _ _ a.text.now a.suite a.kid.0 _ refl c.write_label.ensures) c.expand_label.ensures

-- SPDX-License-Identifier: MIT
use Rattle.suites.proofs.Steps.{label-written}
use Rattle.suites.proofs.derivation.write_label.Goals as goal

pub returns : goal.returns
returns c =
    let a = c.args in
    label-written a.out.now _ _ _ a.text.now a.suite _ _ c.requires.0
    c.copy_at.ensures c.write_be_at.ensures c.write_be_at-2.ensures c.number.ensures

-- SPDX-License-Identifier: MIT
use Rattle.suites.proofs.Laws.{Nk-most}
use native.Mathlib.Omega.{arith}
use Rattle.piece_line.proofs.state.key_end.Goals as goal

pub overflow_add-result : goal.overflow_add-result
overflow_add-result c =
    let e = c.key_size.ensures in let m = Nk-most c.args.suite in omega arith

pub returns : goal.returns
returns c =
    let e = c.key_size.ensures in let m = Nk-most c.args.suite in (omega arith, omega arith)

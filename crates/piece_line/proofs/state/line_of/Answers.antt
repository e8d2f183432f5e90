-- SPDX-License-Identifier: MIT
use Rattle.piece_line.proofs.Steps.{line-short, line-kind, line-counts, line-found}
use native.Mathlib.Omega.{arith}
use mathlib.Core.Bool.{not}
use mathlib.Core.Path.{ap}
use Rattle.piece_line.proofs.state.line_of.Goals as goal

pub returns-then-state-lt-STATE_SIZE : goal.returns-then-state-lt-STATE_SIZE
returns-then-state-lt-STATE_SIZE c =
    line-short c.args.state.now _ (omega arith)

pub returns-then-state-kind : goal.returns-then-state-kind
returns-then-state-kind c =
    line-kind c.args.state.now _ (omega arith) (λ z. omega arith)

pub returns-then-not-counts_fit : goal.returns-then-not-counts_fit
returns-then-not-counts_fit c =
    line-counts c.args.state.now _ _ (omega arith) (omega arith) c.counts_fit.ensures (ap not c.if-not-counts_fit.true)

pub returns : goal.returns
returns c =
    line-found c.args.state.now _ _ _ _ (omega arith) (omega arith) c.counts_fit.ensures (ap not c.if-not-counts_fit.false) c.wide.ensures c.find.ensures

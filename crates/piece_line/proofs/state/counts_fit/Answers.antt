-- SPDX-License-Identifier: MIT
use lib.Dec.{leb}
use mathlib.Core.Path.{ap₂}
use Rattle.piece_line.proofs.Steps.{counts-few, counts-many, counts-long, counts-last}
use native.Mathlib.Omega.{arith}
use Rattle.piece_line.proofs.state.counts_fit.Goals as goal

pub returns-then-aad-lt1 : goal.returns-then-aad-lt1
returns-then-aad-lt1 c =
    let a = c.aad_of-aad.ensures.0 in let n = c.announced_of-announced.ensures.0 in
    counts-few c.args.state.now (omega arith)

pub returns-then-aad-gt-MAX_AAD : goal.returns-then-aad-gt-MAX_AAD
returns-then-aad-gt-MAX_AAD c =
    let a = c.aad_of-aad.ensures.0 in let n = c.announced_of-announced.ensures.0 in
    counts-many c.args.state.now (omega arith)

pub returns-then-announced : goal.returns-then-announced
returns-then-announced c =
    let a = c.aad_of-aad.ensures.0 in let n = c.announced_of-announced.ensures.0 in
    counts-long c.args.state.now (omega arith) (omega arith) (omega arith)

pub returns : goal.returns
returns c =
    let a = c.aad_of-aad.ensures.0 in let n = c.announced_of-announced.ensures.0 in
    counts-last c.args.state.now _ (omega arith) (omega arith) (omega arith) (ap₂ leb c.taken_of.ensures.0 n)

-- SPDX-License-Identifier: MIT
use native.Mathlib.Omega.{arith}
use Rattle.key_record.proofs.Fields.{kind-sending, kind-receiving, kind-retired, kind-empty}
use Rattle.key_record.proofs.row.kind_of.Goals as goal

pub returns-in-1 : goal.returns-in-1
returns-in-1 c = kind-sending c.args.row.now c.in-1.is

pub returns-in-2 : goal.returns-in-2
returns-in-2 c = kind-receiving c.args.row.now c.in-2.is

pub returns-in-3 : goal.returns-in-3
returns-in-3 c = kind-retired c.args.row.now c.in-3.is

pub returns-in_default : goal.returns-in_default
returns-in_default c = kind-empty c.args.row.now (λ z. omega arith) (λ z. omega arith) (λ z. omega arith)

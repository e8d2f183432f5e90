-- SPDX-License-Identifier: MIT
use Rattle.frame.proofs.Steps.{header-told, refusal-told}
use Rattle.frame.proofs.fields_of.Goals as goal

pub returns-in-Some : goal.returns-in-Some
returns-in-Some c = header-told _ _ _ _ _ c.read_header.ensures c.in-Some.is

pub returns-in-None : goal.returns-in-None
returns-in-None c = refusal-told _ _ c.read_header.ensures c.in-None.is

-- SPDX-License-Identifier: MIT
use Rattle.key_record.proofs.Suites.{suite-known}
use Rattle.key_record.proofs.judging.is_suite.Goals as goal

pub returns : goal.returns
returns c = suite-known _ _ _ c.find.ensures c.is_some.ensures

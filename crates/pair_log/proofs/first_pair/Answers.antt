-- SPDX-License-Identifier: MIT
use Rattle.std.proofs.Common.{sym}
use Rattle.pair_log.proofs.Gathering.{record_is}
use Rattle.pair_log.proofs.first_pair.Goals as goal

pub returns : goal.returns
returns c = sym (record_is c.args.log.now _ _ c.read_be64.ensures c.read_be64-2.ensures)

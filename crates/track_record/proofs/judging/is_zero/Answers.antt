-- SPDX-License-Identifier: MIT
use Rattle.track_record.proofs.Steps.{zeros-same}
use Rattle.track_record.proofs.judging.is_zero.Goals as goal

pub returns : goal.returns
returns c =
    zeros-same c.args.b.now _ _ c.requires c.equal.ensures

-- SPDX-License-Identifier: MIT
use Rattle.track_record.specs.Layout.{decode}
use Rattle.track_record.proofs.Steps.{held-none}
use Rattle.track_record.proofs.row.is_empty.Goals as goal

pub returns : goal.returns
returns c = held-none (decode c.args.row.now) _ _ c.held_in.ensures c.is_none.ensures
